use Rattle.std.proofs.Common.{rules, ◌≡◌, ◌∙◌, ◌+◌, List, pos, subst, sym, take, to_z, of_z, w64}
use Rattle.std.specs.Prelude.{slice_index_or}
use Rattle.intervals.specs.declared.interval.Interval.{Interval}
use Rattle.all_inputs.specs.Overall.{AreJust}
use Rattle.abstract_runs.proofs.Just.{just_next}
use Rattle.abstract_runs.proofs.single.points.Goals as goal

pub loop-k-preserved : goal.loop-k-preserved
loop-k-preserved c =
    let value = slice_index_or c.args.values.now c.loop-k.k (pos 0) in
    let round : to_z w64 (of_z w64 value) ≡ value = search rules in
    subst (λ (is : List Interval). AreJust is (take (c.loop-k.k + 1) c.args.values.now)) (sym c.in_ok-push.ensures.items)
    (just_next c.loop-k.cells.items c.args.values.now c.loop-k.k c.point.result (pos 0) c.loop-k-test.true c.loop-k.invariant
    (c.point.ensures.ends.0 ∙ round) (c.point.ensures.ends.1 ∙ round))
