-- The rules of concurrent access are ordered: what is lawful under a stricter one is so, with the same effect, under a weaker one.
-- JáJá, An Introduction to Parallel Algorithms, chapter 1 (the machines from EREW to priority CRCW). The sum is this project's own profile.
use Rattle.std.specs.Prelude.{◌≡◌, ◌≢◌, ◌⊎◌, true, ℕ, ℤ, List}
use Rattle.pram_model.specs.declared.rule.Rule.{Rule}
use Rattle.pram_model.specs.declared.rule.Rule.TheVariants.{Erew, Crew, Common, Priority, Sum}
use Rattle.pram_values.specs.declared.kind.Kind.{Kind}
use Rattle.pram_values.specs.declared.kind.Kind.TheVariants.{ReadConflict, WriteConflict}
use Rattle.write_rules.specs.Rule.{is_sum, shares_reads}
use Rattle.write_rules.specs.Verdict.{Verdict, Ended, Faulted, GoesOn}
use Rattle.pram_check.specs.Bounded.{IsBounded}
use Rattle.pram_trees.specs.Program.{IsTree, limit}
use Rattle.pram_check.specs.Checked.{Checked, IsResolved}
use Rattle.pram_check.specs.Faults.{IsAccepted}
use Rattle.pram_check.specs.OtherRule.{under}
use Rattle.pram_meaning.specs.Outcome.{IsOutcome}
use Rattle.pram_meaning.specs.Values.{AreValues}

-- a verdict that tells of no fault of this kind
abbrev pub IsFreeOf : Kind → Verdict → Type 0
IsFreeOf kind (Ended output memory) = Unit {0}
IsFreeOf kind (Faulted fault output) = fault.kind ≢ kind
IsFreeOf kind (GoesOn output) = Unit {0}

-- Under sum a value that one processor alone writes is tested too, as a sum of one. So there the program has to be within bounds and the
-- values of the input of 64 bits, as those of every text and every run are.
abbrev pub SuitsSum : Rule → Checked → List ℤ → Type 0
SuitsSum rule p input = is_sum rule ≡ true → IsBounded p × AreValues input

-- a verdict that is the outcome under the first rule is the outcome under the second
abbrev pub IsKept : Rule → Rule → Checked → List ℤ → ℕ → Verdict → Type 0
IsKept strict weak p input n v = IsOutcome (under strict p) input n v → IsOutcome (under weak p) input n v

-- An outcome under erew that is no conflict is the outcome under every rule.
abbrev pub ErewIsEveryRule : Type 0
ErewIsEveryRule =
    (rule : Rule) (p : Checked) (input : List ℤ) (n : ℕ) (v : Verdict) → SuitsSum rule p input → IsFreeOf ReadConflict v →
    IsFreeOf WriteConflict v → IsKept Erew rule p input n v

-- An outcome under crew that is no write conflict is the outcome under every rule that shares reads.
abbrev pub CrewIsConcurrent : Type 0
CrewIsConcurrent =
    (rule : Rule) → shares_reads rule ≡ true → (p : Checked) (input : List ℤ) (n : ℕ) (v : Verdict) → SuitsSum rule p input →
    IsFreeOf WriteConflict v → IsKept Crew rule p input n v

-- An outcome under common that is no write conflict is the outcome under priority.
abbrev pub CommonIsPriority : Type 0
CommonIsPriority =
    (p : Checked) (input : List ℤ) (n : ℕ) (v : Verdict) → IsFreeOf WriteConflict v → IsKept Common Priority p input n v

-- the first rule is the second, or stricter
pub data IsWithin : Rule → Rule → Type 0 where
  itself : {rule : Rule} → IsWithin rule rule
  from_erew : {rule : Rule} → IsWithin Erew rule
  from_crew : {rule : Rule} → shares_reads rule ≡ true → IsWithin Crew rule
  to_priority : IsWithin Common Priority

-- a program as `check` gives it: of a tree of the grammar in which nothing is wrong
pub record IsAcceptedProgram (p : Checked) : Type 0 where
  pub tree : IsTree limit limit p.tree
  pub accepted : IsAccepted p.tree
  pub says : IsResolved p

-- Of every such program, on an input of values of 64 bits: each outcome under the first rule that is no conflict is that under the second.
abbrev pub IsAlwaysKept : Rule → Rule → Type 0
IsAlwaysKept strict weak =
    (p : Checked) (input : List ℤ) (n : ℕ) (v : Verdict) → IsAcceptedProgram p → AreValues input → IsFreeOf ReadConflict v →
    IsFreeOf WriteConflict v → IsKept strict weak p input n v

-- some such program ends on the input under the first rule, and doesn't come to that end under the second
pub record AreToldApart (strict weak : Rule) (input : List ℤ) : Type 0 where
  pub program : Checked
  pub is_accepted : IsAcceptedProgram program
  pub bound : ℕ
  pub output : List ℤ
  pub memory : List ℤ
  pub first : IsOutcome (under strict program) input bound (Ended output memory)
  pub not_second : IsOutcome (under weak program) input bound (Ended output memory) → ⊥

-- Outcomes are kept from a rule to each that it is within.
abbrev pub OrderIsKept : Type 0
OrderIsKept = (strict weak : Rule) → IsWithin strict weak → IsAlwaysKept strict weak

-- And to no other: it and any other rule are told apart on an input of values of 64 bits.
abbrev pub OrderIsAll : Type 0
OrderIsAll = (strict weak : Rule) → IsWithin strict weak ⊎ ((input : List ℤ) × AreValues input × AreToldApart strict weak input)

-- On an input of greater values erew and sum are told apart.
abbrev pub SumNeedsValues : Type 0
SumNeedsValues = (input : List ℤ) × AreToldApart Erew Sum input
