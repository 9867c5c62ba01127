use Rattle.std.proofs.Common.{◌<◌, ◌∙◌, ◌||◌, ◌+◌, ap, drop, subst, sym}
use Rattle.memory_texts.specs.Chosen.{declares}
use Rattle.memory_texts.proofs.Entries.{declares_more}
use Rattle.memory_texts.proofs.choice.declares.Goals as goal

pub returns-then-is_same : goal.returns-then-is_same
returns-then-is_same c =
    let below = subst (λ n. c.loop-i.i < n) c.len-i-end.ensures c.loop-i-test.true in
    sym (ap (λ b. b || declares (drop (c.loop-i.i + 1) c.args.layout.now) c.args.name.now) c.if-is_same.true)
    ∙ sym (declares_more c.args.layout.now c.loop-i.i c.args.name.now c.name.result.now c.is_same.result below c.name.ensures
    c.is_same.ensures) ∙ c.loop-i.invariant

pub loop-i-preserved : goal.loop-i-preserved
loop-i-preserved c =
    let below = subst (λ n. c.loop-i.i < n) c.len-i-end.ensures c.loop-i-test.true in
    sym (ap (λ b. b || declares (drop (c.loop-i.i + 1) c.args.layout.now) c.args.name.now) c.if-is_same.false)
    ∙ sym (declares_more c.args.layout.now c.loop-i.i c.args.name.now c.name.result.now c.is_same.result below c.name.ensures
    c.is_same.ensures) ∙ c.loop-i.invariant
