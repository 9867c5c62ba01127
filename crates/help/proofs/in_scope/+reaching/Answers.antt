use Rattle.std.proofs.Common.{◌∙◌, ap, sym, Some, None, refl, map}
use Rattle.help.specs.InScope.{known_is, pardo_names, reached_locals}
use Rattle.help.proofs.StatementNames.{assign_names, element_names, for_names, if_names, led, pardo_form, print_names, while_names}
use Rattle.help.proofs.in_scope.+reaching.Goals as goal

pub reach_statement-returns-in-Assign : goal.reach_statement-returns-in-Assign
reach_statement-returns-in-Assign t c =
    led c.reach.result _ (assign_names c.args.at _ _ c.args.statement.now c.in-Assign.target c.in-Assign.value c.in-Assign.is)
    c.reach.ensures

pub reach_statement-returns-in-AssignElement : goal.reach_statement-returns-in-AssignElement
reach_statement-returns-in-AssignElement t c =
    led c.reach-in-AssignElement.result _ (element_names c.args.at _ _ c.args.statement.now c.in-AssignElement.target
    c.in-AssignElement.subscript c.in-AssignElement.value c.in-AssignElement.is) c.reach-in-AssignElement.ensures

pub reach_statement-returns-in-Print : goal.reach_statement-returns-in-Print
reach_statement-returns-in-Print t c =
    led c.reach-in-Print.result _ (print_names c.args.at _ _ c.args.statement.now c.in-Print.location c.in-Print.value c.in-Print.is)
    c.reach-in-Print.ensures

pub reach_statement-returns-in_ok-reach-in-While : goal.reach_statement-returns-in_ok-reach-in-While
reach_statement-returns-in_ok-reach-in-While t c =
    led c.reach_block.result _ (while_names c.args.at _ _ c.args.statement.now c.in-While.location c.in-While.test c.in-While.body _ _
    c.in-While.is c.as_slice.ensures c.in_ok-reach-in-While.ensures) c.reach_block.ensures

pub reach_statement-returns-in_ok-reach-in-For : goal.reach_statement-returns-in_ok-reach-in-For
reach_statement-returns-in_ok-reach-in-For t c =
    led c.reach_block-in-For.result _ (for_names c.args.at _ _ c.args.statement.now c.in-For.location c.in-For.variable c.in-For.low
    c.in-For.high c.in-For.body _ _ c.in-For.is c.as_slice-in-For.ensures c.in_ok-reach-in-For.ensures) c.reach_block-in-For.ensures

pub reach_statement-returns-in-None : goal.reach_statement-returns-in-None
reach_statement-returns-in-None t c =
    sym (if_names c.args.at _ _ c.args.statement.now c.in-If.location c.in-If.test c.in-If.then_part _ c.in-If.else_part None _ _
    c.in-If.is c.as_slice-in-If.ensures (sym c.in-None.is) c.in_ok-reach-in-If.ensures c.in_ok-reach_block-in-If.ensures)

pub reach_statement-returns-in-Some : goal.reach_statement-returns-in-Some
reach_statement-returns-in-Some t c =
    let given = ap Some c.as_slice-in-Some.ensures ∙ sym c.in-Some.is in
    led c.reach_block-in-Some.result _ (if_names c.args.at _ _ c.args.statement.now c.in-If.location c.in-If.test c.in-If.then_part _
    c.in-If.else_part (Some c.as_slice-in-Some.result.now) _ _ c.in-If.is c.as_slice-in-If.ensures given c.in_ok-reach-in-If.ensures
    c.in_ok-reach_block-in-If.ensures) c.reach_block-in-Some.ensures

pub reach_statement-returns-in_ok-reach_locals-in-Pardo : goal.reach_statement-returns-in_ok-reach_locals-in-Pardo
reach_statement-returns-in_ok-reach_locals-in-Pardo t c =
    let at = c.args.at in
    let here = map known_is c.args.here.now in
    let mid = map known_is c.reach-in-Pardo.new.names.items in
    let index = c.in-Pardo.index in
    let locals = c.in-Pardo.locals in
    let one = c.deref.result.now in
    let two = c.deref-in-Pardo.result.now in
    let named = ap (map known_is) c.deref-in-Pardo.ensures.value ∙ c.in_ok-inner-in-Pardo.ensures
    ∙ ap (pardo_names at here index) c.as_slice-in-Pardo.ensures in
    let behind = c.in_ok-reach_locals-in-Pardo.ensures
    ∙ ap (λ ls. reached_locals at ls (map known_is one) mid) c.as_slice-in-Pardo-2.ensures
    ∙ ap (λ i. reached_locals at locals (map known_is i) mid) (c.deref.ensures.value ∙ sym c.deref-in-Pardo.ensures.value) in
    led c.reach_block-in-Pardo.result _ (pardo_form at _ _ c.args.statement.now c.in-Pardo.location c.in-Pardo.low index c.in-Pardo.high
    locals locals c.in-Pardo.body _ (map known_is two) mid _ c.in-Pardo.is refl c.as_slice-in-Pardo-3.ensures named
    c.in_ok-reach-in-Pardo.ensures behind)
    c.reach_block-in-Pardo.ensures
