use Rattle.std.proofs.Common.{rules, arith, tests, ◌≡◌, get_or, length, refl}
use Rattle.pram_meaning.specs.Store.{seen}
use Rattle.abstract_runs.specs.Tests.{ComesTo}
use Rattle.pram_names.specs.declared.body.Link.{Link}
use Rattle.abstract_runs.proofs.Following.{follows_then}
use Rattle.abstract_runs.proofs.Operands.{before_comes, compared, each_at, first_comes, links_come}
use Rattle.abstract_runs.proofs.narrowing_tests.+narrow.Goals as goal

pub returns-then-not-split_all-clause-kept : goal.returns-then-not-split_all-clause-kept
returns-then-not-split_all-clause-kept t c = λ m stands come.
    let one : length c.in-Chain.links.items ≡ 1 = search rules in
    let at : c.index-link.result.now ≡ get_or c.in-Chain.links.items 0 c.index-link.result.now = search rules in
    let w = compared (seen c.args.program.now m) c.args.e.now c.deref-then-not-split_all.result.now c.in-Chain.first c.in-Chain.links
    c.in-Chain.links.items c.index-link.result.now come.value c.in-Chain.is c.deref-then-not-split_all.ensures (λ i. c.in-Chain.links.items) one at
    come.is in
    c.in_ok-on-in-Chain.ensures.kept m w.left w.right come.value stands w.left_is w.right_is w.gives come.goes

pub returns-then-not-branch-clause-kept : goal.returns-then-not-branch-clause-kept
returns-then-not-branch-clause-kept t c = λ m stands come.
    let on = (c.in_ok-narrow-in-Chain.ensures.kept m stands
    (first_comes (seen c.args.program.now m) c.args.e.now c.deref-in-Chain-2.result.now c.in-Chain.first c.in-Chain.links c.deref-in-Chain.result.now
    c.args.way c.in-Chain.is c.deref-in-Chain-2.ensures c.deref-in-Chain.ensures.value come (c.if-not-split_all.ensures refl))).0 in
    let off = c.if-not-branch.true in absurd (grind (arith, tests, on, off))

pub loop-link-init : goal.loop-link-init
loop-link-init t c = (
  (λ m stands come. (c.in_ok-narrow-in-Chain.ensures.kept m stands
      (first_comes (seen c.args.program.now m) c.args.e.now c.deref-in-Chain-2.result.now c.in-Chain.first c.in-Chain.links
      c.deref-in-Chain.result.now c.args.way c.in-Chain.is c.deref-in-Chain-2.ensures c.deref-in-Chain.ensures.value come
      (c.if-not-split_all.ensures refl))).1),
  c.in_ok-narrow-in-Chain.ensures.follows,
)

pub returns-then-not-branch-2-clause-kept : goal.returns-then-not-branch-2-clause-kept
returns-then-not-branch-2-clause-kept t c = λ m stands come.
    let on = (c.in_ok-narrow-in-Chain-2.ensures.kept m (c.loop-link.invariant.0 m stands come)
    (each_at (λ (l : Link). ComesTo (seen c.args.program.now m) l.operand c.args.way) c.deref-in-Chain.result.now c.loop-link.link-index
    c.link-item.result
    (links_come (seen c.args.program.now m) c.args.e.now c.deref-in-Chain-2.result.now c.in-Chain.first c.in-Chain.links
    c.deref-in-Chain.result.now c.args.way c.in-Chain.is c.deref-in-Chain-2.ensures c.deref-in-Chain.ensures.value come
    (c.if-not-split_all.ensures refl)) (search rules) (search rules))).0 in
    let off = c.if-not-branch-2.true in absurd (grind (arith, tests, on, off))

pub loop-link-preserved : goal.loop-link-preserved
loop-link-preserved t c = (
  (λ m stands come. (c.in_ok-narrow-in-Chain-2.ensures.kept m (c.loop-link.invariant.0 m stands come)
      (each_at (λ (l : Link). ComesTo (seen c.args.program.now m) l.operand c.args.way) c.deref-in-Chain.result.now c.loop-link.link-index
      c.link-item.result
      (links_come (seen c.args.program.now m) c.args.e.now c.deref-in-Chain-2.result.now c.in-Chain.first c.in-Chain.links
      c.deref-in-Chain.result.now c.args.way c.in-Chain.is c.deref-in-Chain-2.ensures c.deref-in-Chain.ensures.value come
      (c.if-not-split_all.ensures refl)) (search rules) (search rules))).1),
  follows_then _ _ _ c.loop-link.invariant.1 c.in_ok-narrow-in-Chain-2.ensures.follows,
)

pub returns-in_ok-on-in-Prefix-clause-kept : goal.returns-in_ok-on-in-Prefix-clause-kept
returns-in_ok-on-in-Prefix-clause-kept t c = λ m stands come.
    c.in_ok-on-in-Prefix.ensures.kept m stands
    (before_comes (seen c.args.program.now m) c.args.e.now c.deref.result.now c.in-Prefix.operator c.in-Prefix.operand c.args.way
    c.way_before.result c.in-Prefix.is c.deref.ensures c.way_before.ensures come)
