-- How a run comes out, as lists.
use Rattle.std.specs.Prelude.{ℤ, List}
use Rattle.write_rules.specs.declared.fault.Fault.{Fault}
use Rattle.write_rules.specs.declared.outcome.Outcome.{Outcome}
use Rattle.write_rules.specs.declared.outcome.Outcome.TheVariants as answer

-- the end with its output and memory; a fault, or one statement too many, with the output before it
pub data Verdict : Type 0 where
  Ended : (output memory : List ℤ) → Verdict
  Faulted : Fault → (output : List ℤ) → Verdict
  GoesOn : (output : List ℤ) → Verdict

-- what an outcome says
abbrev pub verdict_of : Outcome → Verdict
verdict_of (answer.Ended output memory) = Ended output.items memory.items
verdict_of (answer.Faulted fault output) = Faulted fault output.items
verdict_of (answer.GoesOn output) = GoesOn output.items
