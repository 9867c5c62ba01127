use Rattle.std.proofs.Common.{◌≡◌, ◌∙◌, ◌+◌, ◌<◌, ◌+ℤ◌, ◌-ℤ◌, ℕ, ℤ, pos, FitsSigned, IsTrue, arith, get_or, length, subst, sym}
use Rattle.std.specs.Int.{w128}
use Rattle.std.proofs.lemmas.Int.{ints, to_z-of_z}
use Rattle.sweeps.specs.declared.row.Row.{Row}
use Rattle.sweeps.specs.Tables.{Doubles, GrowsBy}
use Rattle.sweeps.proofs.doubling.doubling.Goals as goal

one_step : (m n : ℕ) (s t : ℤ) → pos m ≡ pos n +ℤ s → t ≡ pos m -ℤ pos n → s ≡ t
one_step m n s t e d = omega (arith, ints)

pub returns-else-grows_by-clause-found : goal.returns-else-grows_by-clause-found
returns-else-grows_by-clause-found c = λ step fits grows.
    let table = c.args.table.now in
    let d : Row = record { size = 0; number = 0 } in
    let two : 0 + 1 < length table = omega (arith, grows.enough) in
    let first : Doubles step (get_or table 0 d) (get_or table 1 d) = grows.rows 0 d two in
    let same : step ≡ c.in_ok-step.step =
    one_step (get_or table 1 d).number (get_or table 0 d).number step c.in_ok-step.step first.number c.in_ok-step.ensures.1 in
    let kept : FitsSigned w128 c.in_ok-step.step = subst (FitsSigned w128) same fits in
    let back = to_z-of_z w128 c.in_ok-step.step kept in
    let is : IsTrue c.grows_by.result = c.grows_by.ensures.1 (subst (λ s. GrowsBy s table) (same ∙ sym back) grows) in
    let no = c.if-grows_by.false in cc
