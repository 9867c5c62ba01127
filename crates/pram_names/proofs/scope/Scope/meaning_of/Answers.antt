use Rattle.std.proofs.Common.{◌<◌, length, ap, ◌∙◌, rules}
use Rattle.std.specs.List.{filter}
use Rattle.pram_names.specs.Scope.{meaning_of}
use Rattle.pram_names.specs.ScopeFields.{bound, is_in_chain}
use Rattle.pram_names.proofs.Chains.{found_in_chain}
use Rattle.pram_names.proofs.scope.Scope.meaning_of.Goals as goal

pub returns : goal.returns
returns c =
    let bindings = c.self.inside.bindings.items in
    let below : c.chain_of.result < length c.self.inside.chains.items = search rules in
    let chain =
    c.as_slice.ensures.value ∙ (ap (λ v. v.items) c.index.ensures ∙ (c.self.invariant.each c.chain_of.result c.index.result.now below
    ∙ ap (λ h. filter (is_in_chain h) bindings) c.chain_of.ensures.value)) in
    c.find.ensures ∙ (ap (λ l. meaning_of (bound l) c.args.name.now) chain
    ∙ (found_in_chain bindings c.args.name.now ∙ ap (λ s. meaning_of s c.args.name.now) c.self.view_is))
