use Rattle.std.proofs.Common.{◌∙◌, ℕ, ◌<◌, ◌≤◌, refl, sym, subst, ap}
use Rattle.std.specs.List.{flat_map, range_with_len}
use Rattle.text_out.proofs.Printed.{printed_all, printed_more, prints_then}
use Rattle.mpi_export.specs.Alone.{number_row}
use Rattle.mpi_export.proofs.Printed.{past_range, range_read, within_range}
use Rattle.mpi_export.proofs.printer.Printer.numbers_of_columns.Goals as goal

pub loop-register-preserved : goal.loop-register-preserved
loop-register-preserved g c = (
  c.number_row.ensures.same_out ∙ c.loop-register.invariant.0,
  printed_more
      (flat_map (number_row c.args.plan.now)) (number_row c.args.plan.now) (λ y ys. refl) _ _ _ (range_with_len 0 c.args.plan.now.private_registers) c.loop-register.register
      c.loop-register.register c.loop-register.invariant.1 (within_range _ _ (subst (λ n. c.loop-register.register < n) (c.private_registers-register-end.ensures.value ∙ ap (λ k. k.private_registers) c.code.ensures.value) c.loop-register-test.true))
      (range_read c.args.plan.now.private_registers c.loop-register.register (subst (λ n. c.loop-register.register < n) (c.private_registers-register-end.ensures.value ∙ ap (λ k. k.private_registers) c.code.ensures.value) c.loop-register-test.true)) c.number_row.ensures.prints,
)

pub returns-clause-prints : goal.returns-clause-prints
returns-clause-prints g c =
    printed_all (flat_map (number_row c.args.plan.now)) _ _ (range_with_len 0 c.args.plan.now.private_registers) c.loop-register.register refl
    (past_range _ _ (subst (λ n. n ≤ c.loop-register.register) (c.private_registers-register-end.ensures.value ∙ ap (λ k. k.private_registers) c.code.ensures.value)
    c.loop-register-test.false)) c.loop-register.invariant.1
