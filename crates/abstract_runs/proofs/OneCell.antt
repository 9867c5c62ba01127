-- Expressions that are the value of one variable or cell.
use Rattle.std.proofs.Common.{◌≡◌, ℕ, ℤ, pos, Option, Some, None, IfSome, List, refl, sym, subst, ap, ◌∙◌, arith}
use Rattle.std.proofs.Common.{Global, Box}
use Rattle.std.specs.Prelude.{slice_index_or}
use Rattle.pram_model.specs.Layout.{SharedEntry, cell_of}
use Rattle.pram_names.specs.declared.body.Expression.{Element, Expression}
use Rattle.pram_names.specs.declared.body.Expression as expression
use Rattle.pram_meaning.specs.Attempt.{Gives, Trail, and_then, attempt, read}
use Rattle.pram_meaning.specs.Store.{View}
use Rattle.intervals.specs.declared.interval.Interval.{Interval}
use Rattle.intervals.specs.Intervals.{IsIn}
use Rattle.abstract_runs.specs.declared.outlook as outlook
use Rattle.abstract_runs.specs.declared.placing.Place.{Place}
use Rattle.abstract_runs.specs.declared.reach.Reach.{Reach}
use Rattle.abstract_runs.specs.declared.slot.Slot.{Slot}
use Rattle.abstract_runs.specs.Covers.{IsReached, Shows}
use Rattle.abstract_runs.specs.Placed.{IsPlacedBy}
use Rattle.abstract_runs.specs.Tests.{IsValueOf, value_at}
use Rattle.abstract_runs.specs.Tried.{IsReadIn}
use Rattle.abstract_runs.proofs.Operands.{then_gives}

-- a read that can lead to one cell alone
pub read_alone : (s : View) (place : Place) (found : Option ℕ) (reach : Reach) (t u : Trail) (v : ℤ) → IsPlacedBy place found →
    place.reach ≡ Some reach → reach.least ≡ reach.most → read s found t ≡ Gives u v → v ≡ slice_index_or s.cells reach.least (pos 0)
read_alone s place None reach t u v p some one e = absurd (cc e)
read_alone s place (Some c) reach t u v p some one e =
    let r : IsReached c reach = subst (λ r. IsReadIn r (Some c)) some p in
    let l = r.least in
    let m = r.most in
    let same : c ≡ reach.least = omega (arith, l, m, one) in
    let value : slice_index_or s.cells c (pos 0) ≡ v = cc e in
    sym value ∙ ap (λ c. slice_index_or s.cells c (pos 0)) same

-- what is known of a cell that is read at each subscript of an interval
abbrev pub IsOnlyCell : Interval → List SharedEntry → ℕ → Slot → Type 0
IsOnlyCell subscript layout a slot =
    (s : View) (t u : Trail) (z v : ℤ) → s.layout ≡ layout → IsIn z subscript → read s (cell_of s.layout a z) t ≡ Gives u v →
    v ≡ value_at slot s.uniforms s.cells

pub uniform_is : (s : View) (e : Expression) (x : ℕ) (z : ℤ) → e ≡ expression.Uniform x → IsValueOf s e z →
    z ≡ slice_index_or s.uniforms x (pos 0)
uniform_is s e x z is h =
    let g : Gives h.from (slice_index_or s.uniforms x (pos 0)) ≡ Gives h.behind z = ap (λ e. attempt s e h.from) (sym is) ∙ h.gives in
    let same : slice_index_or s.uniforms x (pos 0) ≡ z = cc g in sym same

pub cell_is : (s : View) (e : Expression) (a : ℕ) (z : ℤ) (subscript : Interval) (layout : List SharedEntry) (found : Option Slot) (slot : Slot) →
    e ≡ expression.Cell a → IfSome found (IsOnlyCell subscript layout a) → found ≡ Some slot → IsIn (pos 0) subscript →
    s.layout ≡ layout → IsValueOf s e z → z ≡ value_at slot s.uniforms s.cells
cell_is s e a z subscript layout found slot is only some i same h =
    subst (λ f. IfSome f (IsOnlyCell subscript layout a)) some only s h.from h.behind (pos 0) z same i
    (ap (λ e. attempt s e h.from) (sym is) ∙ h.gives)

pub element_is : (s : View) (e x : Expression) (a : ℕ) (operand : Box Expression Global) (z : ℤ) (subscript : Interval)
    (layout : List SharedEntry) (found : Option Slot) (slot : Slot) → e ≡ Element a operand → x ≡ operand.value →
    IfSome found (IsOnlyCell subscript layout a) → found ≡ Some slot → ((w : ℤ) → IsValueOf s x w → IsIn w subscript) →
    s.layout ≡ layout → IsValueOf s e z → z ≡ value_at slot s.uniforms s.cells
element_is s e x a operand z subscript layout found slot is from only some among same h =
    let whole : and_then (attempt s x h.from) (λ t w. read s (cell_of s.layout a w) t) ≡ Gives h.behind z =
    ap (λ x. and_then (attempt s x h.from) (λ t w. read s (cell_of s.layout a w) t)) from ∙ ap (λ e. attempt s e h.from) (sym is) ∙ h.gives in
    let g = then_gives (attempt s x h.from) (λ t w. read s (cell_of s.layout a w) t) h.behind z whole in
    subst (λ f. IfSome f (IsOnlyCell subscript layout a)) some only s g.0 h.behind g.1 z same
    (among g.1 (record { from = h.from; behind = g.0; gives = g.2 })) g.3

-- what holds wherever something is found
pub found_is : {A : Type 0} (P : A → Type 0) (found : Option A) → ((a : A) → found ≡ Some a → P a) → IfSome found P
found_is P None h = tt
found_is P (Some a) h = h a refl

pub slot_value : (o : outlook.Outlook.Outlook) (e : Expression) (found : Option Slot) (slot : Slot) (s : View) (z : ℤ) →
    IfSome found (λ slot. (s : View) (z : ℤ) → Shows o s → IsValueOf s e z → z ≡ value_at slot s.uniforms s.cells) → found ≡ Some slot →
    Shows o s → IsValueOf s e z → z ≡ value_at slot s.uniforms s.cells
slot_value o e found slot s z h some shows g =
    subst (λ f. IfSome f (λ slot. (s : View) (z : ℤ) → Shows o s → IsValueOf s e z → z ≡ value_at slot s.uniforms s.cells)) some h s z shows g

pub local_is : (s : View) (e : Expression) (x : ℕ) (z : ℤ) → e ≡ expression.Local x → IsValueOf s e z → z ≡ slice_index_or s.locals x (pos 0)
local_is s e x z is h =
    let g : Gives h.from (slice_index_or s.locals x (pos 0)) ≡ Gives h.behind z = ap (λ e. attempt s e h.from) (sym is) ∙ h.gives in
    let same : slice_index_or s.locals x (pos 0) ≡ z = cc g in sym same
