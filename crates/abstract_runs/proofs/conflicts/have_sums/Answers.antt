use Rattle.std.proofs.Common.{rules, sym, ◌∙◌, ◌≡◌, to_z, of_z, w64, ◌+ℤ◌, pos}
use Rattle.std.specs.Int.{int_min, int_max}
use Rattle.abstract_runs.proofs.RowSums.{low_more, high_more}
use Rattle.abstract_runs.proofs.conflicts.have_sums.Goals as goal

pub loop-k-preserved : goal.loop-k-preserved
loop-k-preserved c =
    let less : to_z w64 (of_z w64 c.in-Some-checked_add.less) ≡ to_z w64 c.loop-k.low-bits +ℤ int_min c.in-Some.value.least (pos 0) =
    search rules in
    let more : to_z w64 (of_z w64 c.in-Some-checked_add-2.more) ≡ to_z w64 c.loop-k.high-bits +ℤ int_max c.in-Some.value.greatest (pos 0)
    = search rules in (
      low_more c.args.rows.now c.loop-k.k c.index-rows-k.result c.in-Some.value _ _ c.loop-k.invariant.0 c.loop-k-test.true
          c.index-rows-k.is
          (sym c.in-Some.is ∙ c.value_written.ensures) less,
      high_more c.args.rows.now c.loop-k.k c.index-rows-k.result c.in-Some.value _ _ c.loop-k.invariant.1 c.loop-k-test.true
          c.index-rows-k.is
          (sym c.in-Some.is ∙ c.value_written.ensures) more,
    )
