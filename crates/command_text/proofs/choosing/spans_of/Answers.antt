use Rattle.std.proofs.Common.{◌<◌, ◌∙◌, subst}
use Rattle.command_text.proofs.ChosenSpans.{one_more}
use Rattle.command_text.proofs.choosing.spans_of.Goals as goal

pub loop-i-preserved : goal.loop-i-preserved
loop-i-preserved c =
    one_more c.args.layout.now c.args.choice c.loop-i.i c.loop-i.spans.items c.add_declared.new.spans.items
    (subst (λ n. c.loop-i.i < n) c.len-i-end.ensures c.loop-i-test.true) c.in_ok-add_declared.ensures ∙ c.loop-i.invariant
