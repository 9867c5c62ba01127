use Rattle.std.proofs.Common.{◌≡◌}
use Rattle.text_out.specs.Printing.{printing}
use Rattle.pram_printer.specs.Spelling.{spelling}
use Rattle.pram_trees.specs.Blocks.{block_tokens}
use Rattle.text_out.proofs.Printed.{PrintedTo}
use Rattle.pram_printer.proofs.printer.Printer.+block.Given as goal

abbrev pub invariant-statements-loop-statement : goal.invariant-statements-loop-statement
invariant-statements-loop-statement g l =
    (l.self.out.ghost_name ≡ l.fn.self.out.ghost_name)
    × PrintedTo (λ xs. spelling (block_tokens xs)) (printing (g.W.Out.state l.fn.self.out.now) l.fn.self.failed)
    (printing (g.W.Out.state l.self.out.now) l.self.failed) l.statements l.statement-index
