use Rattle.std.proofs.Common.{◌∙◌, ◌++◌, ap, sym}
use Rattle.element_places.proofs.ExpressionForms.{as-Chain, as-Element, as-Paren, as-Prefix, of-Name, of-Number}
use Rattle.element_places.specs.Elements.{elements}
use Rattle.element_places.proofs.Joined.{nothing, on_ok, two}
use Rattle.element_places.proofs.expressions.+expressions.Goals as goal

pub add_elements-returns-in-Number : goal.add_elements-returns-in-Number
add_elements-returns-in-Number t c =
    let w = c.args.word.now in
    let all = c.args.all.now.items in
    nothing all ∙ ap (λ l. all ++ l) (sym (ap (elements w) c.in-Number.is ∙ of-Number w c.in-Number.field-0))

pub add_elements-returns-in-Name : goal.add_elements-returns-in-Name
add_elements-returns-in-Name t c =
    let w = c.args.word.now in
    let all = c.args.all.now.items in
    nothing all ∙ ap (λ l. all ++ l) (sym (ap (elements w) c.in-Name.is ∙ of-Name w c.in-Name.field-0))

pub add_elements-returns-in_ok-add_elements-in-Element : goal.add_elements-returns-in_ok-add_elements-in-Element
add_elements-returns-in_ok-add_elements-in-Element t c =
    let all = c.args.all.now.items in
    on_ok c.add_named.result (λ h. two all c.add_elements.new.all.items c.add_named.new.all.items _ _
    c.in_ok-add_elements-in-Element.ensures h
    ∙ ap (λ l. all ++ l) (sym (as-Element c.args.word.now c.args.e.now c.in-Element.x c.in-Element.subscript c.get.result.now
    c.in-Element.is
    c.get.ensures))) c.add_named.ensures

pub add_elements-returns-in-Paren : goal.add_elements-returns-in-Paren
add_elements-returns-in-Paren t c =
    let all = c.args.all.now.items in
    on_ok c.add_elements-in-Paren.result (λ h. h ∙ ap (λ l. all ++ l) (sym (as-Paren c.args.word.now c.args.e.now c.in-Paren.inner
    c.get-in-Paren.result.now c.in-Paren.is c.get-in-Paren.ensures))) c.add_elements-in-Paren.ensures

pub add_elements-returns-in-Prefix : goal.add_elements-returns-in-Prefix
add_elements-returns-in-Prefix t c =
    let all = c.args.all.now.items in
    on_ok c.add_elements-in-Prefix.result (λ h. h ∙ ap (λ l. all ++ l) (sym (as-Prefix c.args.word.now c.args.e.now c.in-Prefix.field-0
    c.in-Prefix.operand c.get-in-Prefix.result.now c.in-Prefix.is c.get-in-Prefix.ensures))) c.add_elements-in-Prefix.ensures

pub add_elements-returns-in_ok-add_elements-in-Chain : goal.add_elements-returns-in_ok-add_elements-in-Chain
add_elements-returns-in_ok-add_elements-in-Chain t c =
    let all = c.args.all.now.items in
    on_ok c.add_links.result (λ h. two all c.add_elements-in-Chain.new.all.items c.add_links.new.all.items _ _
    c.in_ok-add_elements-in-Chain.ensures h
    ∙ ap (λ l. all ++ l) (sym (as-Chain c.args.word.now c.args.e.now c.in-Chain.first c.get-in-Chain.result.now c.in-Chain.rest
    c.as_slice.result.now c.in-Chain.is c.get-in-Chain.ensures c.as_slice.ensures))) c.add_links.ensures
