-- Two bounds, from what is known of each.
use Rattle.std.proofs.Common.{◌≡◌, ℤ, [], Option, Some}
use Rattle.pram_names.specs.declared.body.Expression.{Expression}
use Rattle.pram_meaning.specs.Attempt.{Trail, attempt, attempt_bounds}
use Rattle.pram_meaning.specs.Store.{View}
use Rattle.intervals.specs.declared.interval.Interval.{Interval}
use Rattle.intervals.specs.Intervals.{IsIn}
use Rattle.abstract_runs.specs.declared.findings.Findings.{Findings}
use Rattle.abstract_runs.specs.Covers.{IsAmong}
use Rattle.abstract_runs.specs.Finding.{AreKept}
use Rattle.abstract_runs.specs.Tried.{GoesThrough, IsTried, IsLonger}
use Rattle.abstract_runs.proofs.Assigned.{given_then}
use Rattle.abstract_runs.proofs.Trails.{Reaches, tried_then, longer_same}

pub bounds_tried : (Q : ℤ × ℤ → Type 0) (s : View) (e f : Expression) (mid end : Reaches) (some all : Findings) (o q : Option Interval)
    (a : Interval) → o ≡ Some a → IsTried (IsAmong o) mid some (attempt s e []) → IsLonger mid end → AreKept some all →
    ((t : Trail) → GoesThrough mid t → IsTried (IsAmong q) end all (attempt s f t)) →
    ((x y : ℤ) → IsIn x a → IsAmong q y → Q (x, y)) → IsTried Q end all (attempt_bounds s e f)
bounds_tried Q s e f mid end some all o q a is low longer kept high both =
    given_then Q mid end some all (attempt s e []) _ o a is low longer kept
    (λ t x i g. tried_then (IsAmong q) Q end end all all (attempt s f t) _ (high t g) (longer_same end) (λ kind at may. may)
    (λ t y j g. (both x y i j, g)))

pub pair_is : {x y a b : ℤ} → x ≡ a → y ≡ b → ◌≡◌ {A = ℤ × ℤ} (x, y) (a, b)
pair_is e f = λ i. (e i, f i)
