use Rattle.std.proofs.Common.{◌∙◌, ◌++◌, ◌∷◌, ◌<◌, ◌≤◌, [], List, ap, arith, length, map, sym, take}
use Rattle.comparing.specs.declared.compared.CommonRange.{CommonRange}
use Rattle.comparing.specs.Common.{range_or_none}
use Rattle.scopes.specs.Handed.{Placed, placed}
use Rattle.comparing.proofs.Commons.{whole_more}
use Rattle.scopes.proofs.Lists.{take_over, there}
use Rattle.scopes.proofs.Places.{placed_length}
use Rattle.comparing.proofs.common.whole_ranges.Goals as goal

pub loop-i-preserved : goal.loop-i-preserved
loop-i-preserved c =
    let m = c.args.second.now in
    let ps = placed 0 c.args.first.now in
    let i = c.loop-i.i in
    let within : i < length ps = omega (arith, placed_length 0 c.args.first.now) in
    let p = (there ps i within).0 in
    let at = (there ps i within).1 in
    c.in_ok-push.ensures.items
    ∙ ap (λ (rs : List CommonRange). rs ++ c.range_or_none.result ∷ []) c.loop-i.invariant
    ∙ ap (λ (r : CommonRange). map (range_or_none m) (take i ps) ++ r ∷ []) (c.range_or_none.ensures p at)
    ∙ sym (whole_more m ps i p at)

pub returns : goal.returns
returns c =
    let ps = placed 0 c.args.first.now in
    let over : length ps ≤ c.loop-i.i = omega (arith, placed_length 0 c.args.first.now) in
    c.loop-i.invariant ∙ ap (λ (qs : List Placed). map (range_or_none c.args.second.now) qs) (take_over ps c.loop-i.i over)
