use Rattle.std.proofs.Common.{◌-◌, ◌∙◌, ap, arith}
use Rattle.superstep_machine.specs.Keys.{least}
use Rattle.write_rules.proofs.Writes.{same_item}
use Rattle.flat_run.specs.Views.{flat_of}
use Rattle.flat_run.proofs.ConflictLemmas.{reads_go}
use Rattle.flat_run.proofs.conflict.read_conflicts.Goals as goal

pub reads-preserved : goal.reads-preserved
reads-preserved c =
    let h = c.reads.invariant.0 in
    let k = c.reads.k - 1 in
    let reads = c.as_slice-reads.result.now in
    let m = c.args.machine.now in (
      omega (arith, h),
      c.least-noted.ensures ∙ ap (λ a. least a c.reads.noted) c.read_conflict.ensures
          ∙ reads_go c.args.code.now (flat_of m) reads k c.reads.k _ c.reads.noted
          (omega (arith, c.reads-test.true))
          (omega (arith, h, c.reads-test.true)) (same_item reads k _ _ (omega (arith, h, c.reads-test.true))) c.reads.invariant.1,
    )
