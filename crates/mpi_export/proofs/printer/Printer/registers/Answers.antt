use Rattle.std.proofs.Common.{◌∙◌, ℕ, ◌<◌, ◌≤◌, refl, sym, subst, ap}
use Rattle.std.specs.List.{flat_map, range_with_len}
use Rattle.text_out.proofs.Printed.{printed_all, printed_more, prints_then}
use Rattle.mpi_export.specs.Alone.{register_row}
use Rattle.mpi_export.proofs.Printed.{past_range, range_read, within_range}
use Rattle.mpi_export.proofs.printer.Printer.registers.Goals as goal

pub loop-register-preserved : goal.loop-register-preserved
loop-register-preserved g c = (
  c.text.ensures.same_out ∙ c.name.ensures.same_out ∙ c.loop-register.invariant.0,
  printed_more (flat_map register_row) register_row (λ y ys. refl) _ _ _ (range_with_len 0 c.args.count) c.loop-register.register
      c.loop-register.register c.loop-register.invariant.1 (within_range _ _ c.loop-register-test.true)
      (range_read c.args.count c.loop-register.register c.loop-register-test.true) (prints_then c.name.ensures.prints c.text.ensures.prints),
)

pub returns-clause-prints : goal.returns-clause-prints
returns-clause-prints g c =
    printed_all (flat_map register_row) _ _ (range_with_len 0 c.args.count) c.loop-register.register refl
    (past_range _ _ c.loop-register-test.false) c.loop-register.invariant.1
