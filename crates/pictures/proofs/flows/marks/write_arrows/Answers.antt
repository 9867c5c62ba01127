use Rattle.std.proofs.Common.{map}
use Rattle.std.proofs.lemmas.List.{get_or_default}
use Rattle.text_out.proofs.Writing.{writes_stopped}
use Rattle.text_out.proofs.Progress.{goes_on, stops}
use Rattle.pictures.proofs.OfFlows.Kept.{all_kept_at}
use Rattle.journal.specs.Entries.{act_is}
use Rattle.pictures.specs.Flows.Marks.{arrows_to, writes}
use Rattle.pictures.specs.Flows.MarkShapes.{arrow_shape}
use Rattle.pictures.proofs.flows.marks.write_arrows.Goals as goal

pub returns-in_err-write_arrows_if : goal.returns-in_err-write_arrows_if
returns-in_err-write_arrows_if g c =
    let at = all_kept_at (arrow_shape c.args.rows.now) (arrows_to c.args.rows.now c.args.column c.args.aside.now
    (map act_is c.args.acts.now)) (writes (map act_is c.args.acts.now)) c.args.rows.now c.loop-to.to-index _ c.loop-to-test.true
    (get_or_default c.args.rows.now c.loop-to.to-index _ _ c.loop-to-test.true) in
    record {
      written = writes_stopped _ _ _ c.from_residual.result _ c.from_residual.ensures.1
          (stops _ _ _ _ _ _ _ c.loop-to.invariant at c.in_err-write_arrows_if.ensures.written);
    }

pub loop-to-preserved : goal.loop-to-preserved
loop-to-preserved g c =
    let at = all_kept_at (arrow_shape c.args.rows.now) (arrows_to c.args.rows.now c.args.column c.args.aside.now
    (map act_is c.args.acts.now)) (writes (map act_is c.args.acts.now)) c.args.rows.now c.loop-to.to-index _ c.loop-to-test.true
    (get_or_default c.args.rows.now c.loop-to.to-index _ _ c.loop-to-test.true) in
    goes_on _ _ _ _ _ _ _ c.loop-to.invariant at c.in_ok-write_arrows_if.ensures.written
