use Rattle.std.proofs.Common.{◌∙◌, ◌++◌, ◌∷◌, ◌<◌, ◌≤◌, [], Global, List, Vec, ap, arith, length, map, sym}
use Rattle.std.specs.List.{filter_map}
use Rattle.comparing.specs.declared.compared.CommonRange.{CommonRange}
use Rattle.comparing.specs.Common.{range_of, shared_with}
use Rattle.scopes.specs.Handed.{Placed, placed}
use Rattle.comparing.proofs.Commons.{common_more, common_skip}
use Rattle.scopes.proofs.Lists.{take_over, there}
use Rattle.scopes.proofs.Places.{placed_length}
use Rattle.comparing.proofs.common.common_ranges.Goals as goal
use Rattle.comparing.proofs.common.common_ranges.Goals.{in-Some+in_ok-push, in_default}

pub loop-i-preserved : goal.loop-i-preserved
loop-i-preserved c =
    let m = c.args.second.now in
    let ps = placed 0 c.args.first.now in
    let i = c.loop-i.i in
    let within : i < length ps = omega (arith, placed_length 0 c.args.first.now) in
    let p = (there ps i within).0 in
    let at = (there ps i within).1 in
    elim c.match-range_with.branch [
      | in-Some+in_ok-push w ↦
          ap (λ (v : Vec CommonRange Global). v.items) w.ranges-is ∙ w.in_ok-push.ensures.items
          ∙ ap (λ (rs : List CommonRange). rs ++ w.in-Some.range ∷ []) c.loop-i.invariant
          ∙ sym (common_more m ps i p w.in-Some.range at (w.in-Some.ensures p at))
      | in_default w ↦
          ap (λ (v : Vec CommonRange Global). v.items) w.ranges-is ∙ c.loop-i.invariant
          ∙ sym (common_skip m ps i p at (sym w.in_default.is ∙ c.range_with.ensures p at))
    ]

pub returns : goal.returns
returns c =
    let ps = placed 0 c.args.first.now in
    let over : length ps ≤ c.loop-i.i = omega (arith, placed_length 0 c.args.first.now) in
    c.loop-i.invariant
    ∙ ap (λ (qs : List Placed). map range_of (filter_map (shared_with c.args.second.now) qs)) (take_over ps c.loop-i.i over)
