use Rattle.std.proofs.Common.{◌∙◌}
use Rattle.pram_trees.specs.Grammar.{step_tokens}
use Rattle.pram_printer.specs.Spelling.{spelling}
use Rattle.text_out.proofs.Printed.{printed_as, printed_more, prints_then}
use Rattle.pram_printer.proofs.Printed.{as_chain, as_paren, as_prefix, step_more, step_text}
use Rattle.pram_printer.proofs.printer.Printer.+expr.Goals as goal

pub element-returns-clause-prints : goal.element-returns-clause-prints
element-returns-clause-prints g t c =
    prints_then c.name.ensures.prints (prints_then c.mark.ensures.prints (prints_then c.expr.ensures.prints c.mark-2.ensures.prints))

pub expr-returns-in-Paren-clause-prints : goal.expr-returns-in-Paren-clause-prints
expr-returns-in-Paren-clause-prints g t c =
    printed_as (as_paren c.args.e.now _ _ c.in-Paren.is c.get-in-Paren.ensures)
    (prints_then c.mark.ensures.prints (prints_then c.expr.ensures.prints c.mark-in-Paren.ensures.prints))

pub expr-returns-in-Prefix-clause-prints : goal.expr-returns-in-Prefix-clause-prints
expr-returns-in-Prefix-clause-prints g t c =
    printed_as (as_prefix c.args.e.now c.in-Prefix.prefix _ _ c.in-Prefix.is c.get-in-Prefix.ensures)
    (prints_then c.prefix.ensures.prints c.expr-in-Prefix.ensures.prints)

pub expr-returns-in-Chain-clause-prints : goal.expr-returns-in-Chain-clause-prints
expr-returns-in-Chain-clause-prints g t c =
    printed_as (as_chain c.args.e.now _ _ _ _ c.in-Chain.is c.get-in-Chain.ensures c.as_slice.ensures)
    (prints_then c.expr-in-Chain.ensures.prints c.steps.ensures.prints)

pub steps-loop-step-preserved : goal.steps-loop-step-preserved
steps-loop-step-preserved g t c = (
  c.expr.ensures.same_out ∙ c.binary.ensures.same_out ∙ c.loop-step.invariant.0,
  printed_more (λ xs. spelling (step_tokens xs)) step_text step_more _ _ _ c.args.steps.now c.loop-step.step-index c.step-item.result
      c.loop-step.invariant.1 c.loop-step-test.true c.step-item.is
      (prints_then c.binary.ensures.prints c.expr.ensures.prints),
)
