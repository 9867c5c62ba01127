use Rattle.std.proofs.Common.{◌<◌, length, ap, ◌∙◌, rules}
use Rattle.std.specs.List.{filter}
use Rattle.sized_texts.specs.Sizes.{value_in}
use Rattle.sized_texts.specs.SizeTables.{bound, is_in_chain}
use Rattle.sized_texts.proofs.SizeTables.{found_in_chain}
use Rattle.sized_texts.proofs.size_table.SizeTable.value_of.Goals as goal

pub returns : goal.returns
returns c =
    let bindings = c.self.inside.bindings.items in
    let below : c.chain_of.result < length c.self.inside.chains.items = search rules in
    let chain =
    c.as_slice.ensures.value ∙ (ap (λ v. v.items) c.index.ensures ∙ (c.self.invariant.each c.chain_of.result c.index.result.now below
    ∙ ap (λ h. filter (is_in_chain h) bindings) c.chain_of.ensures.value)) in
    c.find.ensures ∙ (ap (λ l. value_in (bound l) c.args.name.now) chain
    ∙ (found_in_chain bindings c.args.name.now ∙ ap (λ s. value_in s c.args.name.now) c.self.view_is))
