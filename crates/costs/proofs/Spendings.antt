-- What events spend.
use Rattle.std.proofs.Common.{◌≡◌, ◌+◌, List, [], ◌∷◌, false, refl, ap, arith}
use Rattle.exchange_bound.specs.Events.{Event}
use Rattle.exchange_bound.specs.Bound.{one_if, shares}
use Rattle.exchange_bound.specs.Spent.{held_after, held_behind, spent, spent_by}
use Rattle.exchange_bound.proofs.Shared.{spent_is_shared}
use Rattle.costs.specs.Spending.{Spending, closed, spend, spend_all, unspent}

-- what is spent behind some events is what they spend
count_behind : (es : List Event) (s : Spending) → (spend_all es s).count ≡ s.count + spent es s.held
count_behind [] s = omega arith
count_behind (e ∷ es) s =
    let h : (spend_all (e ∷ es) s).count ≡ s.count + spent_by e s.held + spent es (held_after e s.held) = count_behind es (spend e s) in
    omega (arith, h)

held_is : (es : List Event) (s : Spending) → (spend_all es s).held ≡ held_behind es s.held
held_is [] s = refl
held_is (e ∷ es) s = held_is es (spend e s)

-- a run's spending, closed, is the sum of its shares, and one
pub closed_is : (es : List Event) → closed (spend_all es unspent) ≡ 1 + shares es
closed_is es =
    let a : (spend_all es unspent).count ≡ 0 + spent es false = count_behind es unspent in
    let b : one_if (spend_all es unspent).held ≡ one_if (held_behind es false) = ap one_if (held_is es unspent) in
    let d : spent es false + one_if (held_behind es false) ≡ shares es + 0 = spent_is_shared es false in
    omega (arith, a, b, d)
