-- Brent's scheduling principle, step by step.
use Rattle.std.proofs.Common.{◌≡◌, ℕ, ◌+◌, ◌-◌, ◌/◌, ◌<◌, ◌≤◌, List, [], ◌∷◌, arith}
use Rattle.std.proofs.lemmas.Nat.{le-div}
use Rattle.std.proofs.Math.Nat.{add-mul, div-mul-le_self}
use Rattle.std.proofs.lemmas.List.Sums.{sum_by-cons}
use Rattle.costs.specs.declared.time_step.TimeStep.{TimeStep}
use Rattle.costs.specs.Cost.{rounds, rounds_for, time, work}
use Rattle.costs.specs.Totals.{Totals, added_all, nothing}
use Rattle.costs.proofs.Sums.{rounds_are, time_is, work_is}

-- two quotients, added, are no more than the quotient of the sum
joined : (q a b : ℕ) → 0 < q → a / q + b / q ≤ (a + b) / q
joined q a b h =
    let u = div-mul-le_self a q in
    let v = div-mul-le_self b q in
    let w = add-mul (a / q) (b / q) q in
    le-div (a / q + b / q) (a + b) q h (omega (arith, u, v, w))

one_less : (q k : ℕ) → 0 < q → (k - 1) / q ≤ k / q
one_less q k h =
    let u = div-mul-le_self (k - 1) q in
    le-div ((k - 1) / q) k q h (omega (arith, u))

pub brent : (q : ℕ) (ss : List TimeStep) → 0 < q → rounds q ss ≤ work ss / q + time ss
brent q [] h = omega arith
brent q (s ∷ ss) h =
    let a = brent q ss h in
    let b = joined q s.processors (work ss) h in
    let c = one_less q s.processors h in
    let d : rounds q (s ∷ ss) ≡ rounds_for q s.processors + rounds q ss = sum_by-cons (λ s. rounds_for q s.processors) s ss in
    let e : work (s ∷ ss) ≡ s.processors + work ss = sum_by-cons (λ s. s.processors) s ss in
    rw (d, e) (omega (arith, a, b, c))

-- the same of what was counted
pub kept_brent : (q : ℕ) (ss : List TimeStep) (t : Totals) (a b : ℕ) → 0 < q → t ≡ added_all q ss nothing → a ≡ q → b ≡ t.time →
    t.rounds ≤ t.work / a + b
kept_brent q ss t a b h is c d =
    let x : t.rounds ≡ rounds q ss = rounds_are q ss t is in
    let y : t.work ≡ work ss = work_is q ss t is in
    let z : t.time ≡ time ss = time_is q ss t is in
    let u = brent q ss h in
    rw (x, y, c, d, z) u
