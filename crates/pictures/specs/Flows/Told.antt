-- That one read is told for each that a processor makes.
use Rattle.std.specs.Prelude.{◌≡◌, ℕ, ◌+◌, [], ◌∷◌, length, Bool, Some, None, ℤ}
use Rattle.pram_names.specs.declared.body.Expression.{Expression}
use Rattle.pram_names.specs.declared.body.Target.{Target}
use Rattle.pram_names.specs.declared.body.StepTarget.{StepTarget}
use Rattle.pram_meaning.specs.Store.{View}
use Rattle.pram_meaning.specs.Attempt.{Effect, Gives, Trail, attempt, attempt_assign, attempt_bounds, attempt_step}
use Rattle.pictures.specs.Flows.Subscripts.{asides, assign_asides, bounds_asides, step_assign_asides}

-- how many cells are read along a trail
abbrev pub reads_in : Trail → ℕ
reads_in [] = 0
reads_in (None ∷ t) = reads_in t
reads_in (Some c ∷ t) = 1 + reads_in t

-- by an expression that comes to a value ..
abbrev pub EachOfExpressions : Type 0
EachOfExpressions = (s : View) (inside : Bool) (e : Expression) (t u : Trail) (v : ℤ) → attempt s e t ≡ Gives u v →
    reads_in u ≡ reads_in t + length (asides inside e)

-- .. by two bounds, and by an assignment outside pardo and inside
abbrev pub EachOfBounds : Type 0
EachOfBounds = (s : View) (e f : Expression) (u : Trail) (v : ℤ × ℤ) → attempt_bounds s e f ≡ Gives u v →
    reads_in u ≡ length (bounds_asides e f)

abbrev pub EachOfAssignments : Type 0
EachOfAssignments = (s : View) (x : Target) (e : Expression) (u : Trail) (v : Effect) → attempt_assign s x e ≡ Gives u v →
    reads_in u ≡ length (assign_asides x e)

abbrev pub EachOfSteps : Type 0
EachOfSteps = (s : View) (x : StepTarget) (e : Expression) (u : Trail) (v : Effect) → attempt_step s x e ≡ Gives u v →
    reads_in u ≡ length (step_assign_asides x e)
