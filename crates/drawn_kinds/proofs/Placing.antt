-- One value more at the places of an order.
use Rattle.std.proofs.Common.{◌≡◌, ◌⊎◌, ◌∙◌, ◌+◌, ◌<◌, ◌≤◌, inl, inr, ℕ, ℤ, List, length, get_or, set, pos, ap, sym, arith}
use Rattle.std.proofs.lemmas.Bool.{cases_lt}
use Rattle.std.proofs.lemmas.List.{get_or-set_same, get_or-set_other}
use Rattle.drawn_kinds.specs.Orders.{IsOrder}
use Rattle.drawn_kinds.specs.Kinds.{at}
use Rattle.drawn_kinds.proofs.Distinct.{order_apart, order_below}

-- the values beside the first so many places stand at these
abbrev pub AreBelow : (turn : ℕ) → (order : List ℕ) → (beside values : List ℤ) → Type 0
AreBelow turn order beside values = (k : ℕ) → k < turn → at values (get_or order k 0) ≡ at beside k

pub place_value : (turn : ℕ) (order : List ℕ) (beside values : List ℤ) (value : ℤ) → IsOrder (length order) order →
    length values ≡ length order → turn < length order → value ≡ at beside turn → AreBelow turn order beside values →
    AreBelow (turn + 1) order beside (set values (get_or order turn 0) value)
place_value turn order beside values value is same below value_is before k l =
    by (cases_lt k turn)
  where
    by : (k < turn) ⊎ (turn ≤ k) → at (set values (get_or order turn 0) value) (get_or order k 0) ≡ at beside k
    by (inl less) =
        get_or-set_other values (get_or order turn 0) (get_or order k 0) value (pos 0)
        (λ e.
        let one = order_apart (length order) order is k turn (omega (arith, less, below)) below e in
        absurd (omega (arith, one, less)))
        ∙ before k less
    by (inr more) =
        let one : k ≡ turn = omega (arith, more, l) in
        ap (λ i. at (set values (get_or order turn 0) value) (get_or order i 0)) one
        ∙ get_or-set_same values (get_or order turn 0) value (pos 0) (omega (arith, same, order_below (length order) order turn is below))
        ∙ value_is ∙ ap (at beside) (sym one)
