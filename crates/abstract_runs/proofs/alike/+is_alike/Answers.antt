use Rattle.std.proofs.Common.{refl, subst}
use Rattle.std.specs.List.{AllByRecursion}
use Rattle.std.proofs.lemmas.List.{take_all}
use Rattle.pram_names.specs.declared.body.Link.{Link}
use Rattle.abstract_runs.specs.Alike.{IsAlike}
use Rattle.abstract_runs.proofs.AlikeParts.{chain_alike}
use Rattle.abstract_runs.proofs.alike.+is_alike.Goals as goal

pub returns-after-loop-link : goal.returns-after-loop-link
returns-after-loop-link t c = λ e.
    let items = c.deref-link-items.result.now in
    chain_alike c.args.e.now c.deref-in-Chain.result.now c.in-Chain.first c.in-Chain.links items c.in-Chain.is c.deref-in-Chain.ensures
    c.deref-link-items.ensures.value (c.if-not-is_alike.ensures refl)
    (subst (AllByRecursion (λ (link : Link). IsAlike link.operand)) (take_all c.loop-link.link-index items c.loop-link-test.false)
    c.loop-link.invariant)
