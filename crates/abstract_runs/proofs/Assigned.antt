-- Writes, from what is known.
use Rattle.std.proofs.Common.{◌≡◌, ℕ, ◌++◌, ◌∷◌, [], length, ℤ, true, Option, Some, None, subst, sym}
use Rattle.pram_values.specs.declared.kind.Kind.TheVariants.{OutOfRange}
use Rattle.pram_meaning.specs.Attempt.{Attempt, Trail, and_then, write}
use Rattle.intervals.specs.declared.interval.Interval.{Interval}
use Rattle.intervals.specs.Intervals.{IsIn}
use Rattle.abstract_runs.specs.declared.effect.Effect.{Effect}
use Rattle.abstract_runs.specs.declared.findings.Findings.{Findings}
use Rattle.abstract_runs.specs.declared.placing.Place.{Place}
use Rattle.abstract_runs.specs.declared.reach.Reach.{Reach}
use Rattle.abstract_runs.specs.Covers.{IsAmong}
use Rattle.abstract_runs.specs.Effects.{IsGivenBy}
use Rattle.abstract_runs.specs.Finding.{MayBy, AreKept}
use Rattle.abstract_runs.specs.Placed.{IsPlacedBy}
use Rattle.abstract_runs.specs.Tried.{IsReadIn, GoesThrough, IsTried, IsLonger}
use Rattle.abstract_runs.proofs.Trails.{Reaches, ends_last, may_last, through_next, tried_then}

-- what a write gives where these cells are reached
abbrev pub IsWrittenTo : Option Reach → Interval → Option Effect → Type 0
IsWrittenTo None value effect = Unit {0}
IsWrittenTo (Some reach) value effect = effect ≡ Some (record { value = value; reach = Some reach })

given_by : (reach : Option Reach) (value : Interval) (effect : Option Effect) (c : ℕ) (v : ℤ) → IsReadIn reach (Some c) →
    IsWrittenTo reach value effect → IsIn v value → IsGivenBy effect (record { value = v; cell = Some c })
given_by None value effect c v r w i = absurd r
given_by (Some reach) value effect c v r w i =
    subst (λ e. IsGivenBy e (record { value = v; cell = Some c })) (sym w) (record { value = i; cell = r })

pub write_tried : (place : Place) (found : Option ℕ) (value : Interval) (effect : Option Effect) (rs more : Reaches) (faults : Findings)
    (t : Trail) (v : ℤ) → IsPlacedBy place found → (place.may_be_outside ≡ true → MayBy OutOfRange (length more) faults) →
    more ≡ rs ++ None ∷ [] →
    IsWrittenTo place.reach value effect → IsIn v value → GoesThrough rs t → IsTried (IsGivenBy effect) more faults (write found t v)
write_tried place None value effect rs more faults t v p may m w i g =
    (ends_last rs more t None None g tt m, may_last OutOfRange faults rs more t None None g m (may p))
write_tried place (Some c) value effect rs more faults t v p may m w i g =
    (given_by place.reach value effect c v p w i, through_next rs more t None None g tt tt m)

-- a value that is some interval's, and then what is made of it
pub given_then : {B : Type 0} (Q : B → Type 0) (mid end : Reaches) (some all : Findings) (a : Attempt ℤ) (f : Trail → ℤ → Attempt B)
    (o : Option Interval) (z : Interval) → o ≡ Some z → IsTried (IsAmong o) mid some a → IsLonger mid end → AreKept some all →
    ((t : Trail) (v : ℤ) → IsIn v z → GoesThrough mid t → IsTried Q end all (f t v)) → IsTried Q end all (and_then a f)
given_then Q mid end some all a f o z is tried longer kept told =
    tried_then (IsAmong (Some z)) Q mid end some all a f (subst (λ o. IsTried (IsAmong o) mid some a) is tried) longer kept told
