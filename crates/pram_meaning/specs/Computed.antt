-- What the bounded run of a program comes to, as an outcome.
use Rattle.std.specs.Prelude.{◌≡◌, ◌↔◌, ℕ, List, ℤ}
use Rattle.pram_check.specs.Checked.{Checked, IsResolved}
use Rattle.write_rules.specs.Verdict.{Verdict, Ended, Faulted, GoesOn}
use Rattle.pram_meaning.specs.Bounded.{Done, Goes, Stops, Reaches, perform_list}
use Rattle.pram_meaning.specs.Outcome.{HasOneOutcome, IsOutcome, opening}

-- the verdict of a bounded run
abbrev pub verdict_at : Done → Verdict
verdict_at (Goes u m) = Ended m.output m.cells
verdict_at (Stops k out) = Faulted k out
verdict_at (Reaches out) = GoesOn out

-- where the body comes to from the state before the first statement, by at most n statements
abbrev pub body_done : Checked → List ℤ → ℕ → Done
body_done p input n = perform_list p n p.body (opening p input)

-- Every program has exactly one outcome on every input, within every bound.
abbrev pub OneOutcome : Type 0
OneOutcome = (p : Checked) (input : List ℤ) (n : ℕ) → HasOneOutcome p input n

-- The bounded run comes to that outcome.
abbrev pub OutcomeIsComputed : Type 0
OutcomeIsComputed = (p : Checked) (input : List ℤ) (n : ℕ) (v : Verdict) → IsOutcome p input n v ↔ (v ≡ verdict_at (body_done p input n))

-- Two programs that say one tree have the same outcome.
abbrev pub TreeHasOneOutcome : Type 0
TreeHasOneOutcome =
    (p q : Checked) → IsResolved p → IsResolved q → p.tree ≡ q.tree → (input : List ℤ) (n : ℕ) (v w : Verdict) →
    IsOutcome p input n v → IsOutcome q input n w → v ≡ w
