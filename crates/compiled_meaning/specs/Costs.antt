-- How much the straight parts of statements spend, at most.
use Rattle.std.specs.Prelude.{◌≡◌, ℕ, ◌+◌, ◌≤◌, List, [], Bool, false}
use Rattle.superstep_instructions.specs.declared.instr.Side.TheVariants.{Uniform, Private}
use Rattle.superstep_instructions.specs.declared.instr.Instr.{Instr}
use Rattle.flat_machine.specs.Flat.{Flat}
use Rattle.exchange_words.specs.Accesses.{active}
use Rattle.flat_stretches.specs.Along.{Run}
use Rattle.flat_stretches.specs.Folds.{costs, MayHold}
use Rattle.plain_form.specs.Formulas.{Formula, Pair}
use Rattle.plain_form.specs.Shapes as shapes
use Rattle.plain_form.specs.Shapes.{still}
use Rattle.verified_form.specs.Straight.{getting, writing, printing, testing, bounding, stepping, entering, masking, flagging}
use Rattle.exchange_bound.specs.Bound.{one_if}
use Rattle.compiled_meaning.specs.Paid.{evaluating, evaluating_on, write_weighs, writes_weigh}

-- from each state that holds no read, and no write unless one may be
abbrev pub Costs : Run → (held : Bool) → List Instr → ℕ → Type 0
Costs t held is n = (f : Flat) → f.uniform.asks ≡ [] → MayHold held f → costs t is f ≤ n

-- and in which at most k processors are active
abbrev pub CostsOn : Run → (k : ℕ) → (held : Bool) → List Instr → ℕ → Type 0
CostsOn t k held is n = (f : Flat) → f.uniform.asks ≡ [] → MayHold held f → active f ≤ k → costs t is f ≤ n

-- Outside pardo: two exchanges for each level of reads, a send and a reply, and the words of the reads; the words of a write; and one
-- exchange for a write that has to go.
pub record StraightPartsCost : Type 0 where
  pub got : (t : Run) (keep held : Bool) (base : ℕ) (f : Formula) (destination : ℕ) →
      Costs t held (getting keep held Uniform base f destination) (evaluating t f)
  pub written : (t : Run) (keep held : Bool) (base entry : ℕ) (f g : Formula) →
      Costs t held (writing keep held Uniform base entry f g) (evaluating t (Pair f g) + write_weighs t)
  pub printed : (t : Run) (keep held : Bool) (base : ℕ) (f : Formula) → Costs t held (printing keep held base f) (evaluating t f)
  pub tested : (t : Run) (keep held : Bool) (free : ℕ) (f : Formula) →
      Costs t held (testing keep held free f) (evaluating t f + one_if (still held f))
  pub bounded : (t : Run) (keep held : Bool) (free : ℕ) (f g : Formula) →
      Costs t held (bounding keep held free f g) (evaluating t (Pair f g) + one_if (still held (Pair f g)))
  pub stepped : (t : Run) (keep : Bool) (free x : ℕ) → Costs t false (stepping keep free x) 0
  pub entered : (t : Run) (keep held : Bool) (base : ℕ) (f g : Formula) →
      Costs t held (entering keep held base f g) (evaluating t (Pair f g))
  -- inside, and one for a vote
  pub got_on : (t : Run) (k : ℕ) (keep held : Bool) (base : ℕ) (f : Formula) (destination : ℕ) →
      CostsOn t k held (getting keep held Private base f destination) (evaluating_on t k f)
  pub written_on : (t : Run) (k : ℕ) (keep held : Bool) (base entry : ℕ) (f g : Formula) →
      CostsOn t k held (writing keep held Private base entry f g) (evaluating_on t k (Pair f g) + writes_weigh t k)
  pub masked : (t : Run) (k : ℕ) (keep held : Bool) (base : ℕ) (f : Formula) →
      CostsOn t k held (masking keep held base f) (evaluating_on t k f)
  pub turned : (t : Run) (k : ℕ) (keep : Bool) (vote flag base : ℕ) (f : Formula) →
      CostsOn t k false (flagging keep vote flag base f) (evaluating_on t k f + 1)
  -- between statements
  pub sent : (t : Run) (held : Bool) → Costs t held (shapes.flush held) (one_if held)
  pub opened : (t : Run) (held : Bool) (flag : ℕ) → Costs t held (shapes.flagged held flag) (one_if held)
