use Rattle.std.proofs.Common.{map}
use Rattle.std.proofs.lemmas.List.{get_or_default}
use Rattle.text_out.proofs.Writing.{writes_stopped}
use Rattle.text_out.proofs.Progress.{goes_on, stops}
use Rattle.pictures.proofs.OfFlows.Kept.{kept_at}
use Rattle.journal.specs.Entries.{act_is}
use Rattle.pictures.specs.Flows.Marks.{node, value_in, writes}
use Rattle.pictures.specs.Flows.MarkShapes.{node_shape}
use Rattle.pictures.proofs.flows.marks.write_nodes.Goals as goal

pub returns-in_err-write_node_if : goal.returns-in_err-write_node_if
returns-in_err-write_node_if g c =
    let at = kept_at (node_shape c.args.rows.now) (node c.args.column (value_in (map act_is c.args.acts.now) c.args.written.now))
    (writes (map act_is c.args.acts.now)) c.args.rows.now c.loop-cell.cell-index _ c.loop-cell-test.true
    (get_or_default c.args.rows.now c.loop-cell.cell-index _ _ c.loop-cell-test.true) in
    record {
      written = writes_stopped _ _ _ c.from_residual.result _ c.from_residual.ensures.1
          (stops _ _ _ _ _ _ _ c.loop-cell.invariant at c.in_err-write_node_if.ensures.written);
    }

pub loop-cell-preserved : goal.loop-cell-preserved
loop-cell-preserved g c =
    let at = kept_at (node_shape c.args.rows.now) (node c.args.column (value_in (map act_is c.args.acts.now) c.args.written.now))
    (writes (map act_is c.args.acts.now)) c.args.rows.now c.loop-cell.cell-index _ c.loop-cell-test.true
    (get_or_default c.args.rows.now c.loop-cell.cell-index _ _ c.loop-cell-test.true) in
    goes_on _ _ _ _ _ _ _ c.loop-cell.invariant at c.in_ok-write_node_if.ensures.written
