use Rattle.std.proofs.Common.{ap, sym, ◌∙◌, arith, rules, ◌+◌, ◌<◌, ◌≤◌, ◌^◌}
use Rattle.pram_names.specs.declared.body.Expression.{the_lemmas}
use Rattle.plain_form.specs.Formulas.{formula_of, positions}
use Rattle.plain_form.specs.Groups as groups
use Rattle.straight_lowering.specs.Cursors.{so_far}
use Rattle.straight_lowering.specs.Depths.{depth_of}
use Rattle.straight_lowering.specs.Written.{added}
use Rattle.straight_lowering.proofs.Appended.{asks_more, depth_more}
use Rattle.straight_lowering.proofs.Chains.{so_far_more}
use Rattle.straight_lowering.proofs.Rooms.{first_part, link_part, part_room, operand_room, operator_position}
use Rattle.straight_lowering.proofs.reads.+asks.Goals as goal

pub asks-requires-in-Chain : goal.asks-requires-in-Chain
asks-requires-in-Chain t c =
    let part = first_part c.args.e.now c.deref-in-Chain.result.now c.in-Chain.first c.in-Chain.links c.in-Chain.is
    c.deref-in-Chain.ensures in
    (search (rules, the_lemmas), part_room _ _ c.args.at.read c.args.base c.args.at.position part c.requires.room)

pub asks-requires-in-loop-link : goal.asks-requires-in-loop-link
asks-requires-in-loop-link t c =
    let e = c.args.e.now in
    let items = c.deref-link-items.result.now in
    let i = c.loop-link.link-index in
    let l = c.link-item.result in
    let part =
    link_part e c.in-Chain.first c.in-Chain.links items i l c.in-Chain.is c.deref-link-items.ensures.value c.loop-link-test.true
    c.link-item.is in
    let up : c.args.base ≤ c.args.base + 1 = omega arith in (
      search (rules, the_lemmas),
      operand_room l.operator (so_far e items i) (formula_of l.operand) (formula_of e) c.args.at c.loop-link.left.behind c.args.base
          c.args.base
          part (ap (λ d. d.behind) c.loop-link.invariant.depth) up c.requires.room,
    )

pub behind_operator-behind-requires-in-loop-link : goal.behind_operator-behind-requires-in-loop-link
behind_operator-behind-requires-in-loop-link t c =
    let e = c.args.e.now in
    let items = c.deref-link-items.result.now in
    let i = c.loop-link.link-index in
    let l = c.link-item.result in
    let part =
    link_part e c.in-Chain.first c.in-Chain.links items i l c.in-Chain.is c.deref-link-items.ensures.value c.loop-link-test.true
    c.link-item.is in
    let numbers : c.args.at.position + positions (formula_of e) < 2 ^ 32 = omega (arith, c.requires.room.positions) in
    operator_position l.operator (so_far e items i) (formula_of l.operand) (formula_of e) c.args.at c.loop-link.left.behind
    c.in_ok-right-in-Chain.right.behind part (ap (λ d. d.behind) c.loop-link.invariant.depth)
    (ap (λ d. d.behind) c.in_ok-right-in-Chain.ensures.depth) numbers

pub loop-link-preserved : goal.loop-link-preserved
loop-link-preserved t c =
    let s = c.args.side in
    let at = c.args.at in
    let l = c.link-item.result in
    let f = so_far c.args.e.now c.deref-link-items.result.now c.loop-link.link-index in
    let more = so_far_more c.args.e.now c.deref-link-items.result.now c.loop-link.link-index l c.loop-link-test.true c.link-item.is in
    let so = c.loop-link.invariant in
    let right = c.in_ok-right-in-Chain.ensures in
    record {
      written =
          asks_more s c.args.level l.operator f (formula_of l.operand) c.args.base at c.loop-link.left.behind _ _ _
          (ap (λ d. d.behind) so.depth) so.written right.written
          ∙ ap (λ f. added (groups.asks s c.args.level f at.read c.args.base at.position) c.args.out.now) (sym more);
      depth =
          depth_more l.operator f (formula_of l.operand) at c.loop-link.left c.in_ok-right-in-Chain.right _ _ so.depth right.depth
          c.greater.ensures c.behind_operator-behind-in-loop-link.ensures
          ∙ ap (λ f. depth_of f at) (sym more);
    }
