-- Stretches behind one another are one stretch.
use Rattle.std.specs.Prelude.{◌≡◌, ℕ, ◌+◌, List, ◌++◌, length, Bool}
use Rattle.superstep_instructions.specs.declared.instr.Instr.{Instr}
use Rattle.superstep_instructions.specs.Code.{SuperstepCode}
use Rattle.flat_machine.specs.Flat.{Flat}
use Rattle.flat_stretches.specs.Along.{Run}
use Rattle.flat_stretches.specs.Folds.{Stand, acts, acts_at_once, costs, exchange_count, word_count, IsFine}

-- what stands from a place on are two stretches, one behind the other ..
abbrev pub StandsSplit : Type 0
StandsSplit = (t : Run) (place : ℕ) (xs ys : List Instr) → Stand t place (xs ++ ys) → Stand t place xs × Stand t (place + length xs) ys

-- .. and if two do, both together stand there
abbrev pub StandsJoin : Type 0
StandsJoin = (t : Run) (place : ℕ) (xs ys : List Instr) → Stand t place xs → Stand t (place + length xs) ys → Stand t place (xs ++ ys)

abbrev pub FineJoins : Type 0
FineJoins = (before between behind : Bool) (xs ys : List Instr) → IsFine before xs between → IsFine between ys behind →
    IsFine before (xs ++ ys) behind

abbrev pub ActsJoin : Type 0
ActsJoin = (code : SuperstepCode) (xs ys : List Instr) (f : Flat) → acts code (xs ++ ys) f ≡ acts code ys (acts code xs f)

abbrev pub ActsAtOnceJoin : Type 0
ActsAtOnceJoin = (code : SuperstepCode) (xs ys : List Instr) (f : Flat) →
    acts_at_once code (xs ++ ys) f ≡ acts_at_once code ys (acts_at_once code xs f)

abbrev pub CostsJoin : Type 0
CostsJoin = (t : Run) (xs ys : List Instr) (f : Flat) →
    costs t (xs ++ ys) f ≡ costs t xs f + costs t ys (acts t.code xs f)

abbrev pub CountsJoin : Type 0
CountsJoin = (xs ys : List Instr) → exchange_count (xs ++ ys) ≡ exchange_count xs + exchange_count ys

abbrev pub WordsJoin : Type 0
WordsJoin = (t : Run) (k : ℕ) (xs ys : List Instr) → word_count t k (xs ++ ys) ≡ word_count t k xs + word_count t k ys
