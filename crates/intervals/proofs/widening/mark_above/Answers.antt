use Rattle.std.proofs.Common.{rules, ◌≡◌, FitsSigned, ℤ, pos, get_or, to_z, of_z}
use Rattle.std.specs.Int.{w64}
use Rattle.std.proofs.lemmas.Int.{to_z-of_z}
use Rattle.intervals.proofs.Marks.{high_more, high_done}
use Rattle.intervals.proofs.widening.mark_above.Goals as goal

pub loop-mark-preserved : goal.loop-mark-preserved
loop-mark-preserved c =
    let item : ℤ = get_or c.args.marks.now c.loop-mark.mark-index (pos 0) in
    let f : FitsSigned w64 item = search rules in
    let g : FitsSigned w64 c.nearer_above-found.result = search rules in
    high_more c.args.marks.now c.loop-mark.mark-index (to_z w64 (of_z w64 c.args.value)) (to_z w64 c.loop-mark.found-bits) (to_z w64 (of_z w64 item)) _ c.nearer_above-found.result
    c.loop-mark-test.true (to_z-of_z w64 item f) (to_z-of_z w64 c.nearer_above-found.result g) c.nearer_above-found.ensures.at_least c.nearer_above-found.ensures.is_one c.nearer_above-found.ensures.kept c.nearer_above-found.ensures.nearest
    c.loop-mark.invariant.1.0 c.loop-mark.invariant.1.1

pub returns : goal.returns
returns c =
    let e : to_z w64 (of_z w64 c.args.value) ≡ c.args.value = to_z-of_z w64 c.args.value c.ranges.value in
    rw e at (high_done c.args.marks.now c.loop-mark.mark-index (to_z w64 (of_z w64 c.args.value)) (to_z w64 c.loop-mark.found-bits) c.loop-mark-test.false c.loop-mark.invariant)
