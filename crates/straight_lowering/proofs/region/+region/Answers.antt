use Rattle.std.proofs.Common.{ap, sym, ◌∙◌, arith, rules, ◌+◌, ◌<◌, ◌≤◌, ◌^◌}
use Rattle.pram_names.specs.declared.body.Expression.{the_lemmas}
use Rattle.plain_form.specs.Formulas.{formula_of, positions}
use Rattle.plain_form.specs.Regions.{place, region}
use Rattle.straight_lowering.specs.Cursors.{behind, so_far}
use Rattle.straight_lowering.specs.Written.{added}
use Rattle.straight_lowering.proofs.Appended.{region_more, behind_more}
use Rattle.straight_lowering.proofs.Chains.{so_far_more}
use Rattle.straight_lowering.proofs.Rooms.{first_part, link_part, part_room, operand_room, operator_position}
use Rattle.straight_lowering.proofs.region.+region.Goals as goal

pub region-requires-in-Chain : goal.region-requires-in-Chain
region-requires-in-Chain t c =
    let part = first_part c.args.e.now c.deref-in-Chain.result.now c.in-Chain.first c.in-Chain.links c.in-Chain.is
    c.deref-in-Chain.ensures in
    (search (rules, the_lemmas), part_room _ _ c.args.at.read c.args.base c.args.at.position part c.requires.room)

pub region-requires-in-loop-link : goal.region-requires-in-loop-link
region-requires-in-loop-link t c =
    let e = c.args.e.now in
    let items = c.deref-link-items.result.now in
    let i = c.loop-link.link-index in
    let l = c.link-item.result in
    let part =
    link_part e c.in-Chain.first c.in-Chain.links items i l c.in-Chain.is c.deref-link-items.ensures.value c.loop-link-test.true
    c.link-item.is in
    let up : c.next_register-above.result ≤ c.args.base + 1 = omega (arith, c.next_register-above.ensures) in (
      search (rules, the_lemmas),
      operand_room l.operator (so_far e items i) (formula_of l.operand) (formula_of e) c.args.at c.loop-link.left.behind c.args.base
          c.next_register-above.result part c.loop-link.invariant.behind up c.requires.room,
    )

pub behind_operator-behind-requires-in-loop-link : goal.behind_operator-behind-requires-in-loop-link
behind_operator-behind-requires-in-loop-link t c =
    let e = c.args.e.now in
    let items = c.deref-link-items.result.now in
    let i = c.loop-link.link-index in
    let l = c.link-item.result in
    let part =
    link_part e c.in-Chain.first c.in-Chain.links items i l c.in-Chain.is c.deref-link-items.ensures.value c.loop-link-test.true
    c.link-item.is in
    let numbers : c.args.at.position + positions (formula_of e) < 2 ^ 32 = omega (arith, c.requires.room.positions) in
    operator_position l.operator (so_far e items i) (formula_of l.operand) (formula_of e) c.args.at c.loop-link.left.behind
    c.in_ok-right-in-Chain.right.behind part c.loop-link.invariant.behind c.in_ok-right-in-Chain.ensures.behind numbers

pub loop-link-preserved : goal.loop-link-preserved
loop-link-preserved t c =
    let s = c.args.side in
    let at = c.args.at in
    let b = c.args.base in
    let l = c.link-item.result in
    let f = so_far c.args.e.now c.deref-link-items.result.now c.loop-link.link-index in
    let more = so_far_more c.args.e.now c.deref-link-items.result.now c.loop-link.link-index l c.loop-link-test.true c.link-item.is in
    let so = c.loop-link.invariant in
    let right = c.in_ok-right-in-Chain.ensures in
    let above = c.next_register-above.ensures in
    let cursor = c.behind_operator-behind-in-loop-link.ensures in
    record {
      written =
          region_more s f (formula_of l.operand) l.operator b at _ _ _ _ _ _ _ _ _ so.behind right.behind so.register
          (right.register ∙ ap (place s (formula_of l.operand) c.loop-link.left.behind.read) above) (ap (λ c. c.position) cursor) so.written
          (right.written
          ∙ ap (λ b. added (region s (formula_of l.operand) c.loop-link.left.behind.read b
          c.loop-link.left.behind.position) c.loop-link.out) above)
          c.in_ok-between-in-Chain.ensures
          ∙ ap (λ f. added (region s f at.read b at.position) c.args.out.now) (sym more);
      register = sym (ap (λ f. place s f at.read b) more);
      behind =
          behind_more l.operator f (formula_of l.operand) at _ _ _ so.behind right.behind cursor ∙ ap (λ f. behind f at) (sym more);
    }
