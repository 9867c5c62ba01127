-- What is spent along a list of events.
use Rattle.std.proofs.Common.{◌≡◌, zero, suc, ◌+◌, [], ◌∷◌, ◌++◌, true, false, refl, arith}
use Rattle.exchange_bound.specs.Events.{Runs, Cut, Votes}
use Rattle.exchange_bound.specs.Bound.{alone, one_if, shares}
use Rattle.exchange_bound.specs.Spent.{held_after, held_behind, spent, HeldJoins, SpentJoins, SpentIsShared}

pub held_joins : HeldJoins
held_joins [] ys held = refl
held_joins (e ∷ es) ys held = held_joins es ys (held_after e held)

pub spent_joins : SpentJoins
spent_joins [] ys held = omega arith
spent_joins (e ∷ es) ys held =
    let h : spent (es ++ ys) (held_after e held) ≡ spent es (held_after e held) + spent ys (held_behind es (held_after e held)) =
    spent_joins es ys (held_after e held) in
    omega (arith, h)

-- one event, by whether a write is held: its own share, and what is owed behind it
pub spent_is_shared : SpentIsShared
spent_is_shared [] true = refl
spent_is_shared [] false = refl
spent_is_shared (Runs zero true set reads ∷ es) true =
    let h : spent es true + one_if (held_behind es true) ≡ shares es + one_if (alone es) = spent_is_shared es true in omega (arith, h)
spent_is_shared (Runs zero true set reads ∷ es) false =
    let h : spent es true + one_if (held_behind es true) ≡ shares es + one_if (alone es) = spent_is_shared es true in omega (arith, h)
spent_is_shared (Runs zero false set reads ∷ es) true =
    let h : spent es true + one_if (held_behind es true) ≡ shares es + one_if (alone es) = spent_is_shared es true in omega (arith, h)
spent_is_shared (Runs zero false set reads ∷ es) false =
    let h : spent es false + one_if (held_behind es false) ≡ shares es + 0 = spent_is_shared es false in omega (arith, h)
spent_is_shared (Runs (suc k) true set reads ∷ es) true =
    let h : spent es true + one_if (held_behind es true) ≡ shares es + one_if (alone es) = spent_is_shared es true in omega (arith, h)
spent_is_shared (Runs (suc k) true set reads ∷ es) false =
    let h : spent es true + one_if (held_behind es true) ≡ shares es + one_if (alone es) = spent_is_shared es true in omega (arith, h)
spent_is_shared (Runs (suc k) false set reads ∷ es) true =
    let h : spent es false + one_if (held_behind es false) ≡ shares es + 0 = spent_is_shared es false in omega (arith, h)
spent_is_shared (Runs (suc k) false set reads ∷ es) false =
    let h : spent es false + one_if (held_behind es false) ≡ shares es + 0 = spent_is_shared es false in omega (arith, h)
spent_is_shared (Cut ∷ es) true =
    let h : spent es false + one_if (held_behind es false) ≡ shares es + 0 = spent_is_shared es false in omega (arith, h)
spent_is_shared (Cut ∷ es) false =
    let h : spent es false + one_if (held_behind es false) ≡ shares es + 0 = spent_is_shared es false in omega (arith, h)
spent_is_shared (Votes ∷ es) true =
    let h : spent es true + one_if (held_behind es true) ≡ shares es + one_if (alone es) = spent_is_shared es true in omega (arith, h)
spent_is_shared (Votes ∷ es) false =
    let h : spent es false + one_if (held_behind es false) ≡ shares es + 0 = spent_is_shared es false in omega (arith, h)
