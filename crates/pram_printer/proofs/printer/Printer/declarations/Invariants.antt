use Rattle.std.proofs.Common.{◌≡◌}
use Rattle.text_out.specs.Printing.{printing}
use Rattle.pram_printer.specs.Spelling.{spelling}
use Rattle.pram_trees.specs.Program.{declarations_tokens}
use Rattle.text_out.proofs.Printed.{PrintedTo}
use Rattle.pram_printer.proofs.printer.Printer.declarations.Given as goal

abbrev pub invariant-loop-declaration : goal.invariant-loop-declaration
invariant-loop-declaration g l =
    (l.self.out.ghost_name ≡ l.fn.self.out.ghost_name)
    × PrintedTo (λ xs. spelling (declarations_tokens xs)) (printing (g.W.Out.state l.fn.self.out.now) l.fn.self.failed)
    (printing (g.W.Out.state l.self.out.now) l.self.failed) l.declarations l.declaration-index
