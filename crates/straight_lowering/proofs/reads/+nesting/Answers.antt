use Rattle.std.proofs.Common.{arith, rules, ◌+◌, ◌≤◌}
use Rattle.pram_names.specs.declared.body.Expression.{the_lemmas}
use Rattle.plain_form.specs.Formulas.{formula_of, reads}
use Rattle.straight_lowering.specs.Cursors.{so_far}
use Rattle.straight_lowering.proofs.Rooms.{first_part, link_part}
use Rattle.straight_lowering.proofs.reads.+nesting.Goals as goal

pub nesting-most-requires : goal.nesting-most-requires
nesting-most-requires t c =
    let part = first_part c.args.e.now c.deref-in-Chain.result.now c.in-Chain.first c.in-Chain.links c.in-Chain.is
    c.deref-in-Chain.ensures in
    (search (rules, the_lemmas), omega (arith, part.reads, c.requires))

pub nesting-operand-requires : goal.nesting-operand-requires
nesting-operand-requires t c =
    let e = c.args.e.now in
    let items = c.deref-link-items.result.now in
    let i = c.loop-link.link-index in
    let l = c.link-item.result in
    let part =
    link_part e c.in-Chain.first c.in-Chain.links items i l c.in-Chain.is c.deref-link-items.ensures.value c.loop-link-test.true
    c.link-item.is in
    let all : reads (so_far e items i) + reads (formula_of l.operand) ≤ reads (formula_of e) = part.reads in
    (search (rules, the_lemmas), omega (arith, all, c.requires))
