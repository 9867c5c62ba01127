-- The conflicts of the reads of a send, one after the other.
use Rattle.std.proofs.Common.{◌≡◌, ℕ, zero, suc, ◌+◌, ◌<◌, ◌≤◌, List, [], ◌∷◌, length, map, drop, Option, Some, None, ◌&&◌, cond, refl, sym}
use Rattle.std.proofs.Common.{ap, ◌∙◌, arith, slice_index_or}
use Rattle.pram_values.specs.declared.kind.Kind.TheVariants.{ReadConflict}
use Rattle.superstep_machine.specs.declared.key.Key.{Key}
use Rattle.superstep_instructions.specs.Code.{SuperstepCode}
use Rattle.superstep_machine.specs.Keys.{least}
use Rattle.superstep_machine.specs.Parts.{Read}
use Rattle.superstep_machine.specs.Sending.{conflict_at, is_private, is_several}
use Rattle.instruction_steps.specs.declared.read.Read.{Read as HeldRead}
use Rattle.flat_machine.specs.Flat.{Flat, askers, read_conflict, read_conflicts}
use Rattle.instruction_steps.specs.Views.{read_is}
use Rattle.flat_run.proofs.ListLemmas.{split_at}

-- the conflict of read k at a cell
abbrev pub conflict_by : Flat → ℕ → Read → ℕ → Option Key
conflict_by f k read c = cond (is_private read.side && is_several (askers f k c)) (Some (conflict_at read.moment c ReadConflict)) None

-- the read before those that were looked at
pub reads_go : (code : SuperstepCode) (f : Flat) (reads : List HeldRead) (k m : ℕ) (x : HeldRead) (noted : Option Key) → k + 1 ≡ m →
    k < length reads →
    x ≡ slice_index_or reads k x →
    noted ≡ read_conflicts code f m (map read_is (drop m reads)) →
    least (read_conflict code f k (read_is x)) noted ≡ read_conflicts code f k (map read_is (drop k reads))
reads_go code f reads k m x noted q h e n =
    ap (least (read_conflict code f k (read_is x))) (n ∙ ap (λ j. read_conflicts code f j (map read_is (drop j reads))) (sym q))
    ∙ ap (λ rest. read_conflicts code f k (map read_is rest)) (sym (split_at reads k x h e))

-- none was looked at yet
pub reads_start : (code : SuperstepCode) (f : Flat) (reads : List HeldRead) (k : ℕ) → length reads ≤ k →
    None ≡ read_conflicts code f k (map read_is (drop k reads))
reads_start code f [] zero h = refl
reads_start code f [] (suc k) h = refl
reads_start code f (x ∷ xs) zero h = absurd (omega arith)
reads_start code f (x ∷ xs) (suc k) h = ended xs k (suc k) (omega arith)
  where
    ended : (ys : List HeldRead) (j n : ℕ) → length ys ≤ j → None ≡ read_conflicts code f n (map read_is (drop j ys))
    ended [] zero n l = refl
    ended [] (suc j) n l = refl
    ended (y ∷ ys) zero n l = absurd (omega arith)
    ended (y ∷ ys) (suc j) n l = ended ys j n (omega arith)
