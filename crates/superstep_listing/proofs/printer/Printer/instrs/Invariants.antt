use Rattle.std.proofs.Common.{◌≡◌}
use Rattle.text_out.specs.Printing.{printing}
use Rattle.superstep_listing.proofs.Printed.{InstrsTo}
use Rattle.superstep_listing.proofs.printer.Printer.instrs.Given as goal

abbrev pub invariant-loop-place : goal.invariant-loop-place
invariant-loop-place g l =
    (l.self.out.ghost_name ≡ l.fn.self.out.ghost_name)
    × InstrsTo (printing (g.W.Out.state l.fn.self.out.now) l.fn.self.failed) (printing (g.W.Out.state l.self.out.now) l.self.failed)
    l.instrs l.place
