use Rattle.std.proofs.Common.{rules, ◌≡◌, FitsSigned, ℤ, pos, get_or, to_z, of_z}
use Rattle.std.specs.Int.{w64}
use Rattle.std.proofs.lemmas.Int.{to_z-of_z}
use Rattle.intervals.proofs.Marks.{low_more, low_done}
use Rattle.intervals.proofs.widening.mark_below.Goals as goal

pub loop-mark-preserved : goal.loop-mark-preserved
loop-mark-preserved c =
    let item : ℤ = get_or c.args.marks.now c.loop-mark.mark-index (pos 0) in
    let f : FitsSigned w64 item = search rules in
    let g : FitsSigned w64 c.nearer_below-found.result = search rules in
    low_more c.args.marks.now c.loop-mark.mark-index (to_z w64 (of_z w64 c.args.value)) (to_z w64 c.loop-mark.found-bits) (to_z w64 (of_z w64 item)) _ c.nearer_below-found.result
    c.loop-mark-test.true (to_z-of_z w64 item f) (to_z-of_z w64 c.nearer_below-found.result g) c.nearer_below-found.ensures.at_most c.nearer_below-found.ensures.is_one c.nearer_below-found.ensures.kept c.nearer_below-found.ensures.nearest
    c.loop-mark.invariant.1.0 c.loop-mark.invariant.1.1

pub returns : goal.returns
returns c =
    let e : to_z w64 (of_z w64 c.args.value) ≡ c.args.value = to_z-of_z w64 c.args.value c.ranges.value in
    rw e at (low_done c.args.marks.now c.loop-mark.mark-index (to_z w64 (of_z w64 c.args.value)) (to_z w64 c.loop-mark.found-bits) c.loop-mark-test.false c.loop-mark.invariant)
