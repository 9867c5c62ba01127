-- What an attempt gives of which something is known.
use Rattle.std.proofs.Common.{◌≡◌, Option, Some, None, subst}
use Rattle.intervals.specs.Intervals.{IsIn}
use Rattle.pram_meaning.specs.Attempt as meant
use Rattle.pram_meaning.specs.Attempt.{Attempt, Gives, Fails}
use Rattle.pram_meaning.specs.Conflict.{Part}
use Rattle.pram_meaning.specs.Together.{value_in}
use Rattle.abstract_runs.specs.declared.effect.Effect.{Effect}
use Rattle.abstract_runs.specs.declared.findings.Findings.{Findings}
use Rattle.abstract_runs.specs.declared.row.Row.{Row}
use Rattle.abstract_runs.specs.Effects.{IsGivenBy}
use Rattle.abstract_runs.specs.Given.{IsGiving}
use Rattle.abstract_runs.specs.Rows.{IsPartBy}
use Rattle.abstract_runs.specs.Tried.{IsTried}
use Rattle.abstract_runs.proofs.Trails as trails

value_among : (rs : trails.Reaches) (f : Findings) (known : Option Effect) (e : Effect) (a : Attempt meant.Effect) → known ≡ Some e →
    IsTried (IsGivenBy known) rs f a → IsGiving a → IsIn (value_in a) e.value
value_among rs f known e (Gives t g) is h i = let k = subst (λ k. IsGivenBy k g) is h.0 in k.value
value_among rs f known e (Fails t kind) is h i = absurd i

none_given : (rs : trails.Reaches) (f : Findings) (known : Option Effect) (a : Attempt meant.Effect) → known ≡ None →
    IsTried (IsGivenBy known) rs f a → IsGiving a → ⊥
none_given rs f known (Gives t g) is h i = subst (λ k. IsGivenBy k g) is h.0
none_given rs f known (Fails t kind) is h i = absurd i

-- its value lies in the interval
pub part_value : (f : Findings) (row : Row) (e : Effect) (x : Part) → row.effect ≡ Some e → IsPartBy f row x → IsGiving x.attempt →
    IsIn (value_in x.attempt) e.value
part_value f row e x is p i = value_among row.trail.items f row.effect e x.attempt is p.tried i

-- nothing is given where nothing is known
pub part_none : (f : Findings) (row : Row) (x : Part) → row.effect ≡ None → IsPartBy f row x → IsGiving x.attempt → ⊥
part_none f row x is p i = none_given row.trail.items f row.effect x.attempt is p.tried i
