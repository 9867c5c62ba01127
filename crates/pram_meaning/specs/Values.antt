-- Runs in which every value has 64 bits.
use Rattle.std.specs.Prelude.{ℕ, ◌^◌, List, ℤ, pos, neg_ℤ, ◌≤ℤ◌, ◌<ℤ◌}
use Rattle.std.specs.List.{AllByRecursion}
use Rattle.pram_check.specs.Bounded.{Names, IsBounded, IsStep, IsStatement}
use Rattle.pram_check.specs.Checked.{Checked}
use Rattle.pram_names.specs.declared.body.Statement.{Statement}
use Rattle.pram_names.specs.declared.body.Step.{Step}
use Rattle.write_rules.specs.Verdict.{Verdict, Ended, Faulted, GoesOn}
use Rattle.pram_meaning.specs.Bounded.{Done, Goes, Stops, Reaches, perform, perform_on}
use Rattle.pram_meaning.specs.Outcome.{IsOutcome}
use Rattle.pram_meaning.specs.Store.{Member, State}

-- a value of 64 bits
pub record IsValue (z : ℤ) : Type 0 where
  pub least : neg_ℤ (pos (2 ^ 63)) ≤ℤ z
  pub most : z <ℤ pos (2 ^ 63)

abbrev pub AreValues : List ℤ → Type 0
AreValues = AllByRecursion IsValue

-- a processor whose index and locals are such values
pub record IsMember (g : Member) : Type 0 where
  pub index : IsValue g.index
  pub locals : AreValues g.locals

-- a state in which all values are: the output, the uniform variables, the cells, and those of each processor
pub record HasValues (m : State) : Type 0 where
  pub output : AreValues m.output
  pub uniforms : AreValues m.uniforms
  pub cells : AreValues m.cells
  pub team : AllByRecursion IsMember m.team

-- a run that comes to such a state, or stops with such an output
abbrev pub ComesToValues : Done → Type 0
ComesToValues (Goes u m) = HasValues m
ComesToValues (Stops k out) = AreValues out
ComesToValues (Reaches out) = AreValues out

-- an outcome with such values
abbrev pub IsOfValues : Verdict → Type 0
IsOfValues (Ended output memory) = AreValues output × AreValues memory
IsOfValues (Faulted fault output) = AreValues output
IsOfValues (GoesOn output) = AreValues output

-- Every statement outside pardo, within any other, keeps to values of 64 bits.
abbrev pub StatementsKeepValues : Type 0
StatementsKeepValues =
    (p : Checked) (n : ℕ) (s : Names) (x : Statement) (m : State) → IsStatement s x → HasValues m → ComesToValues (perform p n x m)

-- So does every statement inside pardo, on every set of its processors.
abbrev pub StepsKeepValues : Type 0
StepsKeepValues =
    (p : Checked) (n : ℕ) (s : Names) (x : Step) (vs : List ℕ) (m : State) → IsStep s x → HasValues m →
    ComesToValues (perform_on p n x vs m)

-- The outcome of a program on an input of values of 64 bits has such values alone.
abbrev pub OutcomesHaveValues : Type 0
OutcomesHaveValues =
    (p : Checked) (input : List ℤ) (n : ℕ) (v : Verdict) → IsBounded p → AreValues input → IsOutcome p input n v → IsOfValues v
