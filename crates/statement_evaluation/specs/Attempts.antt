-- What an attempt is, by the whole evaluation.
use Rattle.std.specs.Prelude.{◌≡◌, ℕ, List}
use Rattle.pram_names.specs.declared.body.Expression.{Expression}
use Rattle.pram_names.specs.declared.body.Target.{Target}
use Rattle.pram_names.specs.declared.body.StepTarget.{StepTarget}
use Rattle.pram_check.specs.Checked.{Checked}
use Rattle.pram_meaning.specs.Store.{State, View}
use Rattle.pram_meaning.specs.Attempt.{Trail, attempt, attempt_value, attempt_assign, attempt_step, attempt_bounds, attempt_range}
use Rattle.pram_meaning.specs.Together.{parts}
use Rattle.statement_evaluation.specs.Terms.{Gets, term_of, assignment, inner_assignment}
use Rattle.statement_evaluation.specs.Whole.{value, steps, whole, whole_bounds, whole_range, upto, cut}
use Rattle.statement_evaluation.specs.Rows.{cut_parts}

-- behind any trail, as the second operand of another expression
abbrev pub ExpressionsAreWhole : Type 0
ExpressionsAreWhole = (s : View) (e : Expression) (t : Trail) → attempt s e t ≡ upto t (steps s (term_of e)) (value s (term_of e))

-- a print, a test, a value for a variable or a local
abbrev pub ValuesAreWhole : Type 0
ValuesAreWhole = (s : View) (e : Expression) → attempt_value s e ≡ cut (whole s (Gets (term_of e)))

abbrev pub AssignmentsAreWhole : Type 0
AssignmentsAreWhole = (s : View) (x : Target) (e : Expression) → attempt_assign s x e ≡ cut (whole s (assignment x e))

abbrev pub InnerAssignmentsAreWhole : Type 0
InnerAssignmentsAreWhole = (s : View) (x : StepTarget) (e : Expression) → attempt_step s x e ≡ cut (whole s (inner_assignment x e))

abbrev pub BoundsAreWhole : Type 0
BoundsAreWhole = (s : View) (e f : Expression) → attempt_bounds s e f ≡ cut (whole_bounds s (term_of e) (term_of f))

abbrev pub RangesAreWhole : Type 0
RangesAreWhole = (procs : ℕ) (s : View) (e f : Expression) → attempt_range procs s e f ≡ cut (whole_range procs s (term_of e) (term_of f))

-- ---- on a set of processors

-- a test inside pardo
abbrev pub TestPartsAreCut : Type 0
TestPartsAreCut = (p : Checked) (m : State) (e : Expression) (vs : List ℕ) →
    parts p m (λ s. attempt_value s e) vs ≡ cut_parts p m (Gets (term_of e)) vs

-- an assignment inside pardo
abbrev pub AssignmentPartsAreCut : Type 0
AssignmentPartsAreCut = (p : Checked) (m : State) (x : StepTarget) (e : Expression) (vs : List ℕ) →
    parts p m (λ s. attempt_step s x e) vs ≡ cut_parts p m (inner_assignment x e) vs
