use Rattle.std.proofs.Common.{rules, ◌≡◌, get_or, length, pos, refl}
use Rattle.abstract_runs.specs.Tests.{ComesTo}
use Rattle.pram_names.specs.declared.body.Link.{Link}
use Rattle.abstract_runs.proofs.Operands.{before_comes, compared, each_at, first_comes, links_come}
use Rattle.abstract_runs.proofs.narrowing_members.+narrow_locals.Goals as goal

pub returns-then-not-split_all : goal.returns-then-not-split_all
returns-then-not-split_all t c = λ s shows cover come.
    let one : length c.in-Chain.links.items ≡ 1 = search rules in
    let at : c.index-link.result.now ≡ get_or c.in-Chain.links.items 0 c.index-link.result.now = search rules in
    let w = compared s c.args.e.now c.deref-then-not-split_all.result.now c.in-Chain.first c.in-Chain.links
    c.in-Chain.links.items c.index-link.result.now come.value c.in-Chain.is c.deref-then-not-split_all.ensures (λ i. c.in-Chain.links.items) one at
    come.is in
    c.in_ok-narrow_locals_compared-in-Chain.ensures s w.left w.right come.value shows cover w.left_is w.right_is w.gives come.goes

pub loop-link-init : goal.loop-link-init
loop-link-init t c = λ s shows cover come. c.in_ok-narrow_locals-in-Chain.ensures s shows cover
    (first_comes s c.args.e.now c.deref-in-Chain-2.result.now c.in-Chain.first c.in-Chain.links c.deref-in-Chain.result.now
    c.args.way c.in-Chain.is c.deref-in-Chain-2.ensures c.deref-in-Chain.ensures.value come (c.if-not-split_all.ensures refl))

pub loop-link-preserved : goal.loop-link-preserved
loop-link-preserved t c = λ s shows cover come. c.in_ok-narrow_locals-in-Chain-2.ensures s shows (c.loop-link.invariant s shows cover come)
    (each_at (λ (l : Link). ComesTo s l.operand c.args.way) c.deref-in-Chain.result.now c.loop-link.link-index c.link-item.result
    (links_come s c.args.e.now c.deref-in-Chain-2.result.now c.in-Chain.first c.in-Chain.links c.deref-in-Chain.result.now
    c.args.way c.in-Chain.is c.deref-in-Chain-2.ensures c.deref-in-Chain.ensures.value come (c.if-not-split_all.ensures refl))
    (search rules) (search rules))

pub returns-in_ok-narrow_locals-in-Prefix : goal.returns-in_ok-narrow_locals-in-Prefix
returns-in_ok-narrow_locals-in-Prefix t c = λ s shows cover come.
    c.in_ok-narrow_locals-in-Prefix.ensures s shows cover
    (before_comes s c.args.e.now c.deref.result.now c.in-Prefix.operator c.in-Prefix.operand c.args.way
    c.way_before.result c.in-Prefix.is c.deref.ensures c.way_before.ensures come)

pub returns-in-Number : goal.returns-in-Number
returns-in-Number t c = λ s shows cover come. c.narrow_local.ensures s come.value (pos 0) cover come.is
    ((c.point.ensures.member (pos 0)).1 refl) (c.held_alone.ensures come.value (pos 0) come.goes refl)
