-- Reads, and chains of operations, from what is known.
use Rattle.std.proofs.Common.{◌≡◌, ℕ, ◌++◌, ◌∷◌, [], length, ℤ, pos, true, Option, Some, None, sym, subst, Global, Box}
use Rattle.std.specs.Prelude.{slice_index_or}
use Rattle.pram_values.specs.declared.kind.Kind.TheVariants.{OutOfRange}
use Rattle.pram_meaning.specs.Attempt.{Trail, attempt, and_then, operation, read}
use Rattle.pram_meaning.specs.Operation.{operate_before}
use Rattle.pram_model.specs.Layout.{cell_of}
use Rattle.pram_names.specs.declared.body.Expression.{Expression, Element}
use Rattle.pram_names.specs.declared.body.Expression as expression
use Rattle.pram_trees.specs.declared.tree.Prefix.{Prefix}
use Rattle.pram_meaning.specs.Store.{View}
use Rattle.intervals.specs.declared.interval.Interval.{Interval}
use Rattle.intervals.specs.Intervals.{IsIn}
use Rattle.abstract_runs.specs.declared.findings.Findings.{Findings}
use Rattle.abstract_runs.specs.declared.placing.Place.{Place}
use Rattle.abstract_runs.specs.declared.reach.Reach.{Reach}
use Rattle.abstract_runs.specs.Covers.{IsAmong, IsReached}
use Rattle.abstract_runs.specs.Finding.{MayBy, AreKept}
use Rattle.abstract_runs.specs.Placed.{IsPlacedBy}
use Rattle.abstract_runs.specs.Tried.{IsRead, IsReadIn, GoesThrough, IsTried, IsLonger}
use Rattle.abstract_runs.proofs.Trails.{Reaches, ends_last, may_last, through_next, tried_then}

-- what the cells that are reached give
abbrev pub AreReadBy : Option Reach → Option Interval → View → Type 0
AreReadBy None value s = Unit {0}
AreReadBy (Some reach) value s = (c : ℕ) → IsReached c reach → IsAmong value (slice_index_or s.cells c (pos 0))

value_read : (reach : Option Reach) (value : Option Interval) (s : View) (c : ℕ) → IsReadIn reach (Some c) → AreReadBy reach value s →
    IsAmong value (slice_index_or s.cells c (pos 0))
value_read None value s c i h = absurd i
value_read (Some reach) value s c i h = h c i

is_read : (r : Option Reach) (c : ℕ) → IsRead r (Some c)
is_read None c = tt
is_read (Some reach) c = tt

pub read_tried : (s : View) (place : Place) (found : Option ℕ) (value : Option Interval) (rs more : Reaches) (faults : Findings)
    (t : Trail) →
    IsPlacedBy place found → (place.may_be_outside ≡ true → MayBy OutOfRange (length more) faults) → more ≡ rs ++ place.reach ∷ [] →
    AreReadBy place.reach value s → GoesThrough rs t → IsTried (IsAmong value) more faults (read s found t)
read_tried s place None value rs more faults t p may m h g =
    (ends_last rs more t place.reach None g tt m, may_last OutOfRange faults rs more t place.reach None g m (may p))
read_tried s place (Some c) value rs more faults t p may m h g =
    (value_read place.reach value s c p h, through_next rs more t place.reach (Some c) g p (is_read place.reach c) m)

-- a subscript, and then the read
pub element_tried : (s : View) (e x : Expression) (a : ℕ) (subscript : Box Expression Global) (t : Trail) (mid end : Reaches)
    (some all : Findings) (o value : Option Interval) (z : Interval) → e ≡ Element a subscript → x ≡ subscript.value → o ≡ Some z →
    IsTried (IsAmong o) mid some (attempt s x t) → IsLonger mid end → AreKept some all →
    ((t : Trail) (v : ℤ) → IsIn v z → GoesThrough mid t → IsTried (IsAmong value) end all (read s (cell_of s.layout a v) t)) →
    IsTried (IsAmong value) end all (attempt s e t)
element_tried s e x a subscript t mid end some all o value z is from o_is tried longer kept told =
    subst (λ e. IsTried (IsAmong value) end all (attempt s e t)) (sym is)
    (subst (λ x. IsTried (IsAmong value) end all (and_then (attempt s x t) (λ t z. read s (cell_of s.layout a z) t))) from
    (tried_then (IsAmong (Some z)) (IsAmong value) mid end some all (attempt s x t) _
    (subst (λ o. IsTried (IsAmong o) mid some (attempt s x t)) o_is tried) longer kept told))

-- an operand, and then the operation
pub prefix_tried : (s : View) (e x : Expression) (operator : Prefix) (operand : Box Expression Global) (t : Trail) (mid end : Reaches)
    (some all : Findings) (o value : Option Interval) (z : Interval) → e ≡ expression.Prefix operator operand → x ≡ operand.value →
    o ≡ Some z →
    IsTried (IsAmong o) mid some (attempt s x t) → IsLonger mid end → AreKept some all →
    ((t : Trail) (v : ℤ) → IsIn v z → GoesThrough mid t → IsTried (IsAmong value) end all (operation (operate_before operator v) t)) →
    IsTried (IsAmong value) end all (attempt s e t)
prefix_tried s e x operator operand t mid end some all o value z is from o_is tried longer kept told =
    subst (λ e. IsTried (IsAmong value) end all (attempt s e t)) (sym is)
    (subst (λ x. IsTried (IsAmong value) end all (and_then (attempt s x t) (λ t v. operation (operate_before operator v) t))) from
    (tried_then (IsAmong (Some z)) (IsAmong value) mid end some all (attempt s x t) _
    (subst (λ o. IsTried (IsAmong o) mid some (attempt s x t)) o_is tried) longer kept told))
