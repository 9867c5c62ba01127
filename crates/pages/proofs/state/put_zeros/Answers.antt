use Rattle.std.proofs.Common.{◌≡◌, ◌≤◌, ◌∙◌, ap, length, subst}
use Rattle.journal.specs.Replay.{with_value}
use Rattle.pages.proofs.Values.{with_zero}
use Rattle.pages.proofs.state.put_zeros.Goals as goal

pub loop-values-preserved : goal.loop-values-preserved
loop-values-preserved c v =
    let sized : c.len.result ≡ length c.loop-values.values.items = c.len.ensures ∙ c.loop-values.values.ok.0 in
    let few = subst (λ n. n ≤ c.args.at) sized c.loop-values-test.true in
    ap (λ xs. with_value xs c.args.at v) c.in_ok-push.ensures.items
    ∙ with_zero c.loop-values.values.items c.args.at v few ∙ c.loop-values.invariant v
