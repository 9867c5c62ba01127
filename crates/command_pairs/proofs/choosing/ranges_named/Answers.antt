use Rattle.std.proofs.Common.{◌≡◌, ◌∙◌, ◌++◌, ◌+◌, ◌<◌, List, ap, arith, [], length, suc, sym, take}
use Rattle.std.specs.List.{cons_option, filter_map}
use Rattle.comparing.specs.declared.compared.CommonRange.{CommonRange}
use Rattle.scopes.proofs.Lists.{chosen_until, there}
use Rattle.command_pairs.specs.Pairs.{range_named}
use Rattle.command_pairs.proofs.choosing.ranges_named.Goals as goal

pub loop-i-preserved : goal.loop-i-preserved
loop-i-preserved c =
    let first = c.args.first.now in
    let i = c.loop-i.i in
    let h = range_named c.args.only first c.args.second.now in
    let within : i < length first = omega arith in
    let e = (there first i within).0 in
    let at = (there first i within).1 in
    let next : suc i ≡ i + 1 = omega arith in
    c.in_ok-push_some.ensures
    ∙ ap (λ (rs : List CommonRange). rs ++ cons_option c.range_named.result []) c.loop-i.invariant
    ∙ ap (λ o. filter_map h (take i first) ++ cons_option o []) (c.range_named.ensures e at)
    ∙ sym (chosen_until h first i e at)
    ∙ ap (λ n. filter_map h (take n first)) next
