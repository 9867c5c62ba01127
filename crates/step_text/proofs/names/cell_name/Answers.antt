use Rattle.std.proofs.Common.{◌<◌, ◌∙◌, sym, subst}
use Rattle.step_text.proofs.Naming.{name_behind, name_here}
use Rattle.step_text.proofs.names.cell_name.Goals as goal

-- the cell is one of the declaration at i
pub returns-then-rest-size : goal.returns-then-rest-size
returns-then-rest-size c =
    let below = subst (λ n. c.loop-i.i < n) c.len-i-end.ensures c.loop-i-test.true in
    name_here c.args.layout.now c.loop-i.i c.loop-i.rest _ c.name.result.now below c.size-size.ensures c.if-rest-size.true c.name.ensures
    ∙ sym c.loop-i.invariant

-- it is behind those of the declaration at i
pub loop-i-preserved : goal.loop-i-preserved
loop-i-preserved c =
    let below = subst (λ n. c.loop-i.i < n) c.len-i-end.ensures c.loop-i-test.true in
    c.loop-i.invariant
    ∙ name_behind c.args.layout.now c.loop-i.i c.loop-i.rest _ below c.size-size.ensures c.if-rest-size.false
