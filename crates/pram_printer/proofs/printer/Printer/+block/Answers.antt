use Rattle.std.proofs.Common.{None, Some, ap, sym, ◌∙◌}
use Rattle.pram_trees.specs.declared.tree.Stmt.TheVariants as s
use Rattle.pram_trees.specs.Blocks.{block_tokens, local_tokens, statement_tokens}
use Rattle.pram_printer.specs.Spelling.{spelling}
use Rattle.text_out.proofs.Printed.{printed_as, printed_more, prints_then}
use Rattle.pram_printer.proofs.Printed.{spelling-append, spelling-assign, spelling-assign_element, spelling-for, spelling-if}
use Rattle.pram_printer.proofs.Printed.{spelling-pardo, spelling-print, spelling-while}
use Rattle.pram_printer.proofs.printer.Printer.+block.Goals as goal

pub statement-returns-in-Assign-clause-prints : goal.statement-returns-in-Assign-clause-prints
statement-returns-in-Assign-clause-prints g t c =
    printed_as (ap (λ z. spelling (statement_tokens z)) c.in-Assign.is ∙ spelling-assign c.in-Assign.target c.in-Assign.value)
    (prints_then c.name.ensures.prints c.assigned.ensures.prints)

pub statement-returns-in-AssignElement-clause-prints : goal.statement-returns-in-AssignElement-clause-prints
statement-returns-in-AssignElement-clause-prints g t c =
    printed_as (ap (λ z. spelling (statement_tokens z)) c.in-AssignElement.is
    ∙ spelling-assign_element c.in-AssignElement.target c.in-AssignElement.subscript c.in-AssignElement.value)
    (prints_then c.element.ensures.prints c.assigned-in-AssignElement.ensures.prints)

pub statement-returns-in-Print-clause-prints : goal.statement-returns-in-Print-clause-prints
statement-returns-in-Print-clause-prints g t c =
    printed_as (ap (λ z. spelling (statement_tokens z)) c.in-Print.is ∙ spelling-print c.in-Print.location c.in-Print.value)
    (prints_then c.opening.ensures.prints (prints_then c.expr.ensures.prints c.mark.ensures.prints))

pub statement-returns-in-While-clause-prints : goal.statement-returns-in-While-clause-prints
statement-returns-in-While-clause-prints g t c =
    let body = printed_as (ap (λ l. spelling (block_tokens l)) (sym c.as_slice.ensures)) c.statements.ensures.prints in
    printed_as (ap (λ z. spelling (statement_tokens z)) c.in-While.is ∙ spelling-while c.in-While.location c.in-While.test c.in-While.body)
    (prints_then c.opening-in-While.ensures.prints
    (prints_then c.expr-in-While.ensures.prints
    (prints_then c.mark-in-While.ensures.prints (prints_then body c.mark-in-While-2.ensures.prints))))

pub statement-returns-in-Some-clause-prints : goal.statement-returns-in-Some-clause-prints
statement-returns-in-Some-clause-prints g t c =
    let first = printed_as (ap (λ l. spelling (block_tokens l)) (sym c.as_slice-in-If.ensures)) c.statements-in-If.ensures.prints in
    let second = printed_as (ap (λ l. spelling (block_tokens l)) (sym c.as_slice-in-Some.ensures)) c.statements-in-Some.ensures.prints in
    printed_as (ap (λ z. spelling (statement_tokens z)) (c.in-If.is
    ∙ ap (s.If c.in-If.location c.in-If.test c.in-If.then_part) c.in-Some.is)
    ∙ spelling-if c.in-If.location c.in-If.test c.in-If.then_part (Some c.in-Some.body))
    (prints_then c.opening-in-If.ensures.prints (prints_then c.expr-in-If.ensures.prints (prints_then c.mark-in-If.ensures.prints
    (prints_then first (prints_then (prints_then c.mark-in-Some.ensures.prints second) c.mark-in-Some-2.ensures.prints)))))

pub statement-returns-in-None-clause-prints : goal.statement-returns-in-None-clause-prints
statement-returns-in-None-clause-prints g t c =
    let first = printed_as (ap (λ l. spelling (block_tokens l)) (sym c.as_slice-in-If.ensures)) c.statements-in-If.ensures.prints in
    printed_as (ap (λ z. spelling (statement_tokens z)) (c.in-If.is
    ∙ ap (s.If c.in-If.location c.in-If.test c.in-If.then_part) c.in-None.is)
    ∙ spelling-if c.in-If.location c.in-If.test c.in-If.then_part None)
    (prints_then c.opening-in-If.ensures.prints
    (prints_then c.expr-in-If.ensures.prints
    (prints_then c.mark-in-If.ensures.prints (prints_then first c.mark-in-None.ensures.prints))))

pub statement-returns-in-For-clause-prints : goal.statement-returns-in-For-clause-prints
statement-returns-in-For-clause-prints g t c =
    let body = printed_as (ap (λ l. spelling (block_tokens l)) (sym c.as_slice-in-For.ensures)) c.statements-in-For.ensures.prints in
    printed_as (ap (λ z. spelling (statement_tokens z)) c.in-For.is
    ∙ spelling-for c.in-For.location c.in-For.variable c.in-For.low c.in-For.high c.in-For.body)
    (prints_then c.opening-in-For.ensures.prints (prints_then c.turns.ensures.prints (prints_then body c.mark-in-For.ensures.prints)))

pub statement-returns-in-Pardo-clause-prints : goal.statement-returns-in-Pardo-clause-prints
statement-returns-in-Pardo-clause-prints g t c =
    let locals = printed_as (ap (λ l. spelling (local_tokens l)) (sym c.as_slice-in-Pardo.ensures)) c.locals.ensures.prints in
    let body = printed_as (ap (λ l. spelling (block_tokens l)) (sym c.as_slice-in-Pardo-2.ensures)) c.statements-in-Pardo.ensures.prints in
    printed_as (ap (λ z. spelling (statement_tokens z)) c.in-Pardo.is
    ∙ spelling-pardo c.in-Pardo.location c.in-Pardo.low c.in-Pardo.index c.in-Pardo.high c.in-Pardo.locals c.in-Pardo.body)
    (prints_then c.opening-in-Pardo.ensures.prints
    (prints_then c.range.ensures.prints (prints_then locals (prints_then body c.mark-in-Pardo.ensures.prints))))

pub statements-loop-statement-preserved : goal.statements-loop-statement-preserved
statements-loop-statement-preserved g t c = (
  c.statement.ensures.same_out ∙ c.loop-statement.invariant.0,
  printed_more (λ xs. spelling (block_tokens xs)) (λ x. spelling (statement_tokens x))
      (λ y ys. spelling-append (statement_tokens y) (block_tokens ys)) _ _ _
      c.args.statements.now c.loop-statement.statement-index c.statement-item.result c.loop-statement.invariant.1 c.loop-statement-test.true
      c.statement-item.is c.statement.ensures.prints,
)
