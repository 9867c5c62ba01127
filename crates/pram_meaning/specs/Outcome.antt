-- The outcome of a program on an input, within a bound.
use Rattle.std.specs.Prelude.{◌≡◌, ℕ, ◌-◌, ◌≤◌, List, [], ◌++◌, ℤ, pos, replicate, length}
use Rattle.pram_model.specs.Layout.{total_size}
use Rattle.pram_check.specs.Checked.{Checked}
use Rattle.write_rules.specs.Verdict.{Verdict, Ended, Faulted, GoesOn}
use Rattle.pram_meaning.specs.Store.{State, no_team}
use Rattle.pram_meaning.specs.Meaning.{Fate, Ends, Stops, Reaches, MeansList}

-- the state before the first statement: the input is in the first cells, and all else is 0
abbrev pub opening : Checked → List ℤ → State
opening p input = record {
  count = 0;
  output = [];
  uniforms = replicate p.uniforms (pos 0);
  cells = input ++ replicate (total_size p.layout - length input) (pos 0);
  team = no_team;
}

-- what the whole body means
abbrev pub Body : Checked → List ℤ → Fate (Unit {0}) → Type 0
Body p input = MeansList p p.body (opening p input)

-- a verdict is the outcome: the end after at most n statements, a fault of one of the first n, or n statements and one that would begin
abbrev pub IsOutcome : Checked → List ℤ → ℕ → Verdict → Type 0
IsOutcome p input n (Ended output memory) =
    (m : State) × Body p input (Ends tt m) × (m.count ≤ n) × (m.output ≡ output) × (m.cells ≡ memory)
IsOutcome p input n (Faulted fault output) = (k : ℕ) × Body p input (Stops fault k output) × (k ≤ n)
IsOutcome p input n (GoesOn output) = Body p input (Reaches n output)

-- exactly one verdict is the outcome
pub record HasOneOutcome (p : Checked) (input : List ℤ) (n : ℕ) : Type 0 where
  pub outcome : Verdict
  pub is : IsOutcome p input n outcome
  pub alone : (v : Verdict) → IsOutcome p input n v → v ≡ outcome
