use Rattle.std.proofs.Common.{arith, rules}
use Rattle.pram_names.specs.declared.body.Expression.{the_lemmas}
use Rattle.plain_form.specs.Formulas.{formula_of}
use Rattle.straight_lowering.specs.Cursors.{so_far}
use Rattle.straight_lowering.proofs.Rooms.{first_part, link_part, operand_reads, operand_positions, operator_position}
use Rattle.straight_lowering.proofs.cursor.+passed.Goals as goal

pub passed-now-requires : goal.passed-now-requires
passed-now-requires t c =
    let part = first_part c.args.e.now c.deref-in-Chain.result.now c.in-Chain.first c.in-Chain.links c.in-Chain.is
    c.deref-in-Chain.ensures in
    (search (rules, the_lemmas), (omega (arith, part.reads, c.requires.registers), omega (arith, part.positions, c.requires.numbers)))

pub passed-operand-requires : goal.passed-operand-requires
passed-operand-requires t c =
    let e = c.args.e.now in
    let items = c.deref-link-items.result.now in
    let i = c.loop-link.link-index in
    let l = c.link-item.result in
    let f = so_far e items i in
    let g = formula_of l.operand in
    let part =
    link_part e c.in-Chain.first c.in-Chain.links items i l c.in-Chain.is c.deref-link-items.ensures.value c.loop-link-test.true
    c.link-item.is in
    let all = operand_positions l.operator f g (formula_of e) c.args.at c.loop-link.now part c.loop-link.invariant c.requires.numbers in (
      search (rules, the_lemmas),
      (
        operand_reads l.operator f g (formula_of e) c.args.at c.loop-link.now part c.loop-link.invariant c.requires.registers,
        omega (arith, all),
      ),
    )

pub behind_operator-now-requires : goal.behind_operator-now-requires
behind_operator-now-requires t c =
    let e = c.args.e.now in
    let items = c.deref-link-items.result.now in
    let i = c.loop-link.link-index in
    let l = c.link-item.result in
    operator_position l.operator (so_far e items i) (formula_of l.operand) (formula_of e) c.args.at c.loop-link.now c.passed-operand.result
    (link_part e c.in-Chain.first c.in-Chain.links items i l c.in-Chain.is c.deref-link-items.ensures.value c.loop-link-test.true
    c.link-item.is)
    c.loop-link.invariant c.passed-operand.ensures c.requires.numbers
