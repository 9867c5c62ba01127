use Rattle.std.proofs.Common.{◌<◌, ◌∙◌, subst, sym}
use Rattle.memory_texts.proofs.Entries.{declared_behind, declared_here}
use Rattle.command_runs.proofs.unlike.declared.Goals as goal

pub returns-then-is_same : goal.returns-then-is_same
returns-then-is_same c =
    let below = subst (λ n. c.loop-i.i < n) c.len-i-end.ensures c.loop-i-test.true in
    declared_here c.args.layout.now c.loop-i.i c.args.name.now c.name.result.now c.is_same.result below c.name.ensures c.is_same.ensures
    c.bounds.result c.bounds.ensures c.if-is_same.true ∙ c.loop-i.invariant

pub loop-i-preserved : goal.loop-i-preserved
loop-i-preserved c =
    let below = subst (λ n. c.loop-i.i < n) c.len-i-end.ensures c.loop-i-test.true in
    sym (declared_behind c.args.layout.now c.loop-i.i c.args.name.now c.name.result.now c.is_same.result below c.name.ensures
    c.is_same.ensures c.if-is_same.false) ∙ c.loop-i.invariant
