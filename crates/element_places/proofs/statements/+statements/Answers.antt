use Rattle.std.proofs.Common.{◌∙◌, ◌++◌, Some, None, ap, sym}
use Rattle.element_places.proofs.Joined.{nothing, on_ok, three, two}
use Rattle.element_places.proofs.StatementForms.{as-For, as-If, as-Pardo, as-While, of-Assign, of-AssignElement, of-Print}
use Rattle.element_places.specs.Elements.{block_elements, elements, here, statement_elements}
use Rattle.element_places.proofs.statements.+statements.Goals as goal

pub add_statement-returns-in-Assign : goal.add_statement-returns-in-Assign
add_statement-returns-in-Assign t c =
    let all = c.args.all.now.items in
    let w = c.args.word.now in
    on_ok c.add_here.result (λ h. h ∙ ap (λ l. all ++ l) (sym (ap (statement_elements w c.args.at) c.in-Assign.is
    ∙ of-Assign w c.args.at c.in-Assign.target c.in-Assign.value))) c.add_here.ensures

pub add_statement-returns-in-AssignElement : goal.add_statement-returns-in-AssignElement
add_statement-returns-in-AssignElement t c =
    let all = c.args.all.now.items in
    let w = c.args.word.now in
    on_ok c.add_assigned_here.result (λ h. h ∙ ap (λ l. all ++ l) (sym (ap (statement_elements w c.args.at) c.in-AssignElement.is
    ∙ of-AssignElement w c.args.at c.in-AssignElement.target c.in-AssignElement.subscript c.in-AssignElement.value)))
    c.add_assigned_here.ensures

pub add_statement-returns-in-Print : goal.add_statement-returns-in-Print
add_statement-returns-in-Print t c =
    let all = c.args.all.now.items in
    let w = c.args.word.now in
    on_ok c.add_here-in-Print.result (λ h. h ∙ ap (λ l. all ++ l) (sym (ap (statement_elements w c.args.at) c.in-Print.is
    ∙ of-Print w c.args.at c.in-Print.location c.in-Print.value))) c.add_here-in-Print.ensures

pub add_statement-returns-in_ok-add_here-in-While : goal.add_statement-returns-in_ok-add_here-in-While
add_statement-returns-in_ok-add_here-in-While t c =
    let all = c.args.all.now.items in
    on_ok c.add_block.result (λ h. two all c.add_here-in-While.new.all.items c.add_block.new.all.items _ _
    c.in_ok-add_here-in-While.ensures h
    ∙ ap (λ l. all ++ l) (sym (as-While c.args.word.now c.args.at c.args.s.now c.in-While.location c.in-While.test c.in-While.body
    c.as_slice.result.now c.in-While.is c.as_slice.ensures))) c.add_block.ensures

pub add_statement-returns-in-None : goal.add_statement-returns-in-None
add_statement-returns-in-None t c =
    let all = c.args.all.now.items in
    let w = c.args.word.now in
    let given = block_elements w c.args.at c.as_slice-in-If.result.now in
    let own = here c.in-If.location c.args.at (elements w c.in-If.test) in
    two all c.add_here-in-If.new.all.items c.add_block-in-If.new.all.items _ _ c.in_ok-add_here-in-If.ensures
    c.in_ok-add_block-in-If.ensures
    ∙ ap (λ l. all ++ (own ++ l)) (nothing given)
    ∙ ap (λ l. all ++ l) (sym (as-If w c.args.at c.args.s.now c.in-If.location c.in-If.test c.in-If.then_part
    c.as_slice-in-If.result.now c.in-If.else_part None c.in-If.is c.as_slice-in-If.ensures (sym c.in-None.is)))

pub add_statement-returns-in-Some : goal.add_statement-returns-in-Some
add_statement-returns-in-Some t c =
    let all = c.args.all.now.items in
    on_ok c.add_block-in-Some.result (λ h. three all c.add_here-in-If.new.all.items c.add_block-in-If.new.all.items
    c.add_block-in-Some.new.all.items _ _ _ c.in_ok-add_here-in-If.ensures c.in_ok-add_block-in-If.ensures h
    ∙ ap (λ l. all ++ l) (sym (as-If c.args.word.now c.args.at c.args.s.now c.in-If.location c.in-If.test c.in-If.then_part
    c.as_slice-in-If.result.now c.in-If.else_part (Some c.as_slice-in-Some.result.now) c.in-If.is c.as_slice-in-If.ensures
    (ap Some c.as_slice-in-Some.ensures ∙ sym c.in-Some.is)))) c.add_block-in-Some.ensures

pub add_statement-returns-in_ok-add_bounds_here-in-For : goal.add_statement-returns-in_ok-add_bounds_here-in-For
add_statement-returns-in_ok-add_bounds_here-in-For t c =
    let all = c.args.all.now.items in
    on_ok c.add_block-in-For.result (λ h. two all c.add_bounds_here.new.all.items c.add_block-in-For.new.all.items _ _
    c.in_ok-add_bounds_here-in-For.ensures h
    ∙ ap (λ l. all ++ l) (sym (as-For c.args.word.now c.args.at c.args.s.now c.in-For.location c.in-For.variable c.in-For.low c.in-For.high
    c.in-For.body c.as_slice-in-For.result.now c.in-For.is c.as_slice-in-For.ensures))) c.add_block-in-For.ensures

pub add_statement-returns-in_ok-add_bounds_here-in-Pardo : goal.add_statement-returns-in_ok-add_bounds_here-in-Pardo
add_statement-returns-in_ok-add_bounds_here-in-Pardo t c =
    let all = c.args.all.now.items in
    on_ok c.add_block-in-Pardo.result (λ h. two all c.add_bounds_here-in-Pardo.new.all.items c.add_block-in-Pardo.new.all.items _ _
    c.in_ok-add_bounds_here-in-Pardo.ensures h
    ∙ ap (λ l. all ++ l) (sym (as-Pardo c.args.word.now c.args.at c.args.s.now c.in-Pardo.location c.in-Pardo.low c.in-Pardo.index
    c.in-Pardo.high c.in-Pardo.locals c.in-Pardo.body c.as_slice-in-Pardo.result.now c.in-Pardo.is c.as_slice-in-Pardo.ensures)))
    c.add_block-in-Pardo.ensures
