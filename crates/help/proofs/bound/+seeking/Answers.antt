use Rattle.std.proofs.Common.{◌∙◌, ap, sym, Some, None}
use Rattle.std.specs.Option.{option_map}
use Rattle.help.specs.InScope.{known_is}
use Rattle.help.proofs.StatementBound.{assign_bound, element_bound, for_bound, if_bound, pardo_form, print_bound, while_bound}
use Rattle.help.proofs.bound.+seeking.Goals as goal

pub seek_in_statement-returns-in-Assign : goal.seek_in_statement-returns-in-Assign
seek_in_statement-returns-in-Assign t c =
    sym (assign_bound c.args.word.now (option_map known_is c.args.found) c.args.statement.now c.in-Assign.target c.in-Assign.value
    c.in-Assign.is)

pub seek_in_statement-returns-in-AssignElement : goal.seek_in_statement-returns-in-AssignElement
seek_in_statement-returns-in-AssignElement t c =
    sym (element_bound c.args.word.now (option_map known_is c.args.found) c.args.statement.now c.in-AssignElement.target
    c.in-AssignElement.subscript
    c.in-AssignElement.value c.in-AssignElement.is)

pub seek_in_statement-returns-in-Print : goal.seek_in_statement-returns-in-Print
seek_in_statement-returns-in-Print t c =
    sym (print_bound c.args.word.now (option_map known_is c.args.found) c.args.statement.now c.in-Print.location c.in-Print.value
    c.in-Print.is)

pub seek_in_statement-returns-in-While : goal.seek_in_statement-returns-in-While
seek_in_statement-returns-in-While t c =
    c.seek_in_block.ensures ∙ sym (while_bound c.args.word.now (option_map known_is c.args.found) c.args.statement.now c.in-While.location
    c.in-While.test
    c.in-While.body _ c.in-While.is c.as_slice.ensures)

pub seek_in_statement-returns-in-For : goal.seek_in_statement-returns-in-For
seek_in_statement-returns-in-For t c =
    c.seek_in_block-in-For.ensures ∙ sym (for_bound c.args.word.now (option_map known_is c.args.found) c.args.statement.now
    c.in-For.location c.in-For.variable
    c.in-For.low c.in-For.high c.in-For.body _ c.in-For.is c.as_slice-in-For.ensures)

pub seek_in_statement-returns-in-None : goal.seek_in_statement-returns-in-None
seek_in_statement-returns-in-None t c =
    sym (if_bound c.args.word.now (option_map known_is c.args.found) c.args.statement.now c.in-If.location c.in-If.test c.in-If.then_part _
    c.in-If.else_part
    None _ c.in-If.is c.as_slice-in-If.ensures (sym c.in-None.is) c.seek_in_block-behind.ensures)

pub seek_in_statement-returns-in-Some : goal.seek_in_statement-returns-in-Some
seek_in_statement-returns-in-Some t c =
    let given = ap Some c.as_slice-in-Some.ensures ∙ sym c.in-Some.is in
    c.seek_in_block-in-Some.ensures ∙ sym (if_bound c.args.word.now (option_map known_is c.args.found) c.args.statement.now c.in-If.location
    c.in-If.test
    c.in-If.then_part _ c.in-If.else_part (Some c.as_slice-in-Some.result.now) _ c.in-If.is c.as_slice-in-If.ensures given
    c.seek_in_block-behind.ensures)

pub seek_in_statement-returns-in-Pardo : goal.seek_in_statement-returns-in-Pardo
seek_in_statement-returns-in-Pardo t c =
    c.seek_in_block-in-Pardo.ensures ∙ sym (pardo_form c.args.word.now (option_map known_is c.args.found) c.args.statement.now
    c.in-Pardo.location c.in-Pardo.low
    c.in-Pardo.index c.in-Pardo.high c.in-Pardo.locals _ c.in-Pardo.body _ _ c.in-Pardo.is c.as_slice-in-Pardo.ensures
    c.as_slice-in-Pardo-2.ensures c.pardo_bound-mine.ensures)
