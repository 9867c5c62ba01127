use Rattle.std.proofs.Common.{◌≡◌, ◌+◌, ◌^◌, arith, ap, ⊎_elim}
use Rattle.std.proofs.lemmas.Bool.{cases_eq}
use Rattle.prepared_division.proofs.Factors.{doubled}
use Rattle.prepared_division.proofs.divisor.shift_for.Goals as goal

pub shifts-preserved : goal.shifts-preserved
shifts-preserved c s l = ⊎_elim
    (λ e.
    let new = c.if-divisor-shift.false in
    let in_range = c.shifts-test.true in
    let is = doubled c.shifts.shift (omega (arith, in_range)) in
    let same : 2 ^ (s + 1) ≡ 2 ^ (c.shifts.shift + 1) = ap (λ k. 2 ^ (k + 1)) e in
    omega (arith, new, is, same))
    (λ other. c.shifts.invariant s (omega (arith, l, other)))
    (cases_eq s c.shifts.shift)
