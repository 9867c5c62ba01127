use Rattle.std.proofs.Common.{◌≡◌, map}
use Rattle.text_out.specs.Printing.{printing}
use Rattle.text_out.proofs.Printed.{PrintedTo}
use Rattle.superstep_listing.specs.Listing.{ended, entry_line}
use Rattle.superstep_listing.proofs.printer.Printer.entries.Given as goal

abbrev pub invariant-loop-i : goal.invariant-loop-i
invariant-loop-i g l =
    (l.self.out.ghost_name ≡ l.fn.self.out.ghost_name)
    × PrintedTo (λ xs. ended (map entry_line xs)) (printing (g.W.Out.state l.fn.self.out.now) l.fn.self.failed)
    (printing (g.W.Out.state l.self.out.now) l.self.failed) l.layout l.i
