use Rattle.std.proofs.Common.{◌∙◌, ap, sym, Some, None}
use Rattle.help.proofs.StatementLocals.{assign_locals, element_locals, for_locals, if_locals, pardo_form, print_locals, while_locals}
use Rattle.help.proofs.locals.+finding.Goals as goal

pub find_in_statement-returns-in-Assign : goal.find_in_statement-returns-in-Assign
find_in_statement-returns-in-Assign t c =
    sym (assign_locals c.args.at c.args.found.now c.args.statement.now c.in-Assign.target c.in-Assign.value c.in-Assign.is)

pub find_in_statement-returns-in-AssignElement : goal.find_in_statement-returns-in-AssignElement
find_in_statement-returns-in-AssignElement t c =
    sym (element_locals c.args.at c.args.found.now c.args.statement.now c.in-AssignElement.target c.in-AssignElement.subscript
    c.in-AssignElement.value c.in-AssignElement.is)

pub find_in_statement-returns-in-Print : goal.find_in_statement-returns-in-Print
find_in_statement-returns-in-Print t c =
    sym (print_locals c.args.at c.args.found.now c.args.statement.now c.in-Print.location c.in-Print.value c.in-Print.is)

pub find_in_statement-returns-in-While : goal.find_in_statement-returns-in-While
find_in_statement-returns-in-While t c =
    c.find_in_block.ensures ∙ sym (while_locals c.args.at c.args.found.now c.args.statement.now c.in-While.location c.in-While.test
    c.in-While.body _ c.in-While.is c.as_slice.ensures)

pub find_in_statement-returns-in-For : goal.find_in_statement-returns-in-For
find_in_statement-returns-in-For t c =
    c.find_in_block-in-For.ensures ∙ sym (for_locals c.args.at c.args.found.now c.args.statement.now c.in-For.location c.in-For.variable
    c.in-For.low c.in-For.high c.in-For.body _ c.in-For.is c.as_slice-in-For.ensures)

pub find_in_statement-returns-in-None : goal.find_in_statement-returns-in-None
find_in_statement-returns-in-None t c =
    sym (if_locals c.args.at c.args.found.now c.args.statement.now c.in-If.location c.in-If.test c.in-If.then_part _ c.in-If.else_part
    None _ c.in-If.is c.as_slice-in-If.ensures (sym c.in-None.is) c.find_in_block-behind.ensures)

pub find_in_statement-returns-in-Some : goal.find_in_statement-returns-in-Some
find_in_statement-returns-in-Some t c =
    let given = ap Some c.as_slice-in-Some.ensures ∙ sym c.in-Some.is in
    c.find_in_block-in-Some.ensures ∙ sym (if_locals c.args.at c.args.found.now c.args.statement.now c.in-If.location c.in-If.test
    c.in-If.then_part _ c.in-If.else_part (Some c.as_slice-in-Some.result.now) _ c.in-If.is c.as_slice-in-If.ensures given
    c.find_in_block-behind.ensures)

pub find_in_statement-returns-in-Pardo : goal.find_in_statement-returns-in-Pardo
find_in_statement-returns-in-Pardo t c =
    c.find_in_block-in-Pardo.ensures ∙ sym (pardo_form c.args.at c.args.found.now c.args.statement.now c.in-Pardo.location c.in-Pardo.low
    c.in-Pardo.index c.in-Pardo.high c.in-Pardo.locals _ c.in-Pardo.body _ _ c.in-Pardo.is c.as_slice-in-Pardo.ensures
    c.as_slice-in-Pardo-2.ensures c.pardo_locals-mine.ensures)
