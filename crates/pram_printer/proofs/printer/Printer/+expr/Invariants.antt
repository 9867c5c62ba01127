use Rattle.std.proofs.Common.{◌≡◌}
use Rattle.text_out.specs.Printing.{printing}
use Rattle.pram_printer.specs.Spelling.{spelling}
use Rattle.pram_trees.specs.Grammar.{step_tokens}
use Rattle.text_out.proofs.Printed.{PrintedTo}
use Rattle.pram_printer.proofs.printer.Printer.+expr.Given as goal

abbrev pub invariant-steps-loop-step : goal.invariant-steps-loop-step
invariant-steps-loop-step g l =
    (l.self.out.ghost_name ≡ l.fn.self.out.ghost_name)
    × PrintedTo (λ xs. spelling (step_tokens xs)) (printing (g.W.Out.state l.fn.self.out.now) l.fn.self.failed)
    (printing (g.W.Out.state l.self.out.now) l.self.failed) l.steps l.step-index
