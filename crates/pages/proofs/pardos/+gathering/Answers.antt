use Rattle.std.proofs.Common.{◌∙◌, ap, sym, Some, None}
use Rattle.pages.proofs.StatementPardos.{assign_pardos, element_pardos, for_pardos, if_pardos, led, pardo_form, print_pardos}
use Rattle.pages.proofs.StatementPardos.{while_pardos}
use Rattle.pages.proofs.pardos.+gathering.Goals as goal

pub push_of_statement-returns-in-Assign : goal.push_of_statement-returns-in-Assign
push_of_statement-returns-in-Assign t c = sym (assign_pardos _ c.args.statement.now c.in-Assign.target c.in-Assign.value c.in-Assign.is)

pub push_of_statement-returns-in-AssignElement : goal.push_of_statement-returns-in-AssignElement
push_of_statement-returns-in-AssignElement t c =
    sym (element_pardos _ c.args.statement.now c.in-AssignElement.target c.in-AssignElement.subscript c.in-AssignElement.value
    c.in-AssignElement.is)

pub push_of_statement-returns-in-Print : goal.push_of_statement-returns-in-Print
push_of_statement-returns-in-Print t c = sym (print_pardos _ c.args.statement.now c.in-Print.location c.in-Print.value c.in-Print.is)

pub push_of_statement-returns-in-While : goal.push_of_statement-returns-in-While
push_of_statement-returns-in-While t c =
    led c.push_of_block.result _ (while_pardos _ c.args.statement.now c.in-While.location c.in-While.test c.in-While.body _ c.in-While.is
    c.as_slice.ensures) c.push_of_block.ensures

pub push_of_statement-returns-in-For : goal.push_of_statement-returns-in-For
push_of_statement-returns-in-For t c =
    led c.push_of_block-in-For.result _ (for_pardos _ c.args.statement.now c.in-For.location c.in-For.variable c.in-For.low c.in-For.high
    c.in-For.body _ c.in-For.is c.as_slice-in-For.ensures) c.push_of_block-in-For.ensures

pub push_of_statement-returns-in-None : goal.push_of_statement-returns-in-None
push_of_statement-returns-in-None t c =
    sym (if_pardos _ c.args.statement.now c.in-If.location c.in-If.test c.in-If.then_part _ c.in-If.else_part None _ c.in-If.is
    c.as_slice-in-If.ensures (sym c.in-None.is) c.in_ok-push_of_block-in-If.ensures)

pub push_of_statement-returns-in-Some : goal.push_of_statement-returns-in-Some
push_of_statement-returns-in-Some t c =
    let given = ap Some c.as_slice-in-Some.ensures ∙ sym c.in-Some.is in
    led c.push_of_block-in-Some.result _ (if_pardos _ c.args.statement.now c.in-If.location c.in-If.test c.in-If.then_part _
    c.in-If.else_part
    (Some c.as_slice-in-Some.result.now) _ c.in-If.is c.as_slice-in-If.ensures given c.in_ok-push_of_block-in-If.ensures)
    c.push_of_block-in-Some.ensures

pub push_of_statement-returns-in_ok-push_pardo-in-Pardo : goal.push_of_statement-returns-in_ok-push_pardo-in-Pardo
push_of_statement-returns-in_ok-push_pardo-in-Pardo t c =
    led c.push_of_block-in-Pardo.result _ (pardo_form _ c.args.statement.now c.in-Pardo.location c.in-Pardo.low c.in-Pardo.index
    c.in-Pardo.high c.in-Pardo.locals _ c.in-Pardo.body _ _ c.in-Pardo.is c.as_slice-in-Pardo.ensures c.as_slice-in-Pardo-2.ensures
    c.in_ok-push_pardo-in-Pardo.ensures) c.push_of_block-in-Pardo.ensures
