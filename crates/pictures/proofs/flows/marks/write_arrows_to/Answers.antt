use Rattle.std.proofs.Common.{map}
use Rattle.std.proofs.lemmas.List.{get_or_default}
use Rattle.text_out.proofs.Writing.{writes_stopped}
use Rattle.text_out.proofs.Progress.{goes_on, stops}
use Rattle.pictures.proofs.OfFlows.Kept.{kept_at}
use Rattle.std.specs.Prelude.{Some}
use Rattle.journal.specs.Entries.{act_is}
use Rattle.pictures.specs.Flows.Marks.{arrow_by, carries}
use Rattle.pictures.specs.Flows.MarkShapes.{arrow_shape}
use Rattle.pictures.proofs.flows.marks.write_arrows_to.Goals as goal

pub returns-in_err-write_arrow_if : goal.returns-in_err-write_arrow_if
returns-in_err-write_arrow_if g c =
    let at = kept_at (arrow_shape c.args.rows.now) (arrow_by c.args.column c.args.aside.now (map act_is c.args.acts.now) c.args.to)
    (λ from. carries (map act_is c.args.acts.now) from (Some c.args.to)) c.args.rows.now c.loop-from.from-index _ c.loop-from-test.true
    (get_or_default c.args.rows.now c.loop-from.from-index _ _ c.loop-from-test.true) in
    record {
      written = writes_stopped _ _ _ c.from_residual.result _ c.from_residual.ensures.1
          (stops _ _ _ _ _ _ _ c.loop-from.invariant at c.in_err-write_arrow_if.ensures.written);
    }

pub loop-from-preserved : goal.loop-from-preserved
loop-from-preserved g c =
    let at = kept_at (arrow_shape c.args.rows.now) (arrow_by c.args.column c.args.aside.now (map act_is c.args.acts.now) c.args.to)
    (λ from. carries (map act_is c.args.acts.now) from (Some c.args.to)) c.args.rows.now c.loop-from.from-index _ c.loop-from-test.true
    (get_or_default c.args.rows.now c.loop-from.from-index _ _ c.loop-from-test.true) in
    goes_on _ _ _ _ _ _ _ c.loop-from.invariant at c.in_ok-write_arrow_if.ensures.written
