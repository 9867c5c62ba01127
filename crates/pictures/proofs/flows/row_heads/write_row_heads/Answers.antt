use Rattle.std.proofs.lemmas.List.{get_or_default}
use Rattle.text_out.proofs.Writing.{writes_stopped}
use Rattle.text_out.proofs.Progress.{stops}
use Rattle.pictures.specs.Flows.Values.{value_at}
use Rattle.pictures.proofs.OfFlows.ColumnLists.{row_heads_at, row_head_written}
use Rattle.pictures.proofs.flows.row_heads.write_row_heads.Goals as goal

pub returns-in_err-write_row : goal.returns-in_err-write_row
returns-in_err-write_row g c =
    let value = value_at c.args.before.now in
    let at = row_heads_at c.args.layout.now c.args.wide value c.args.rows.now c.loop-cell.cell-index c.loop-cell.row _
    c.loop-cell-test.true (get_or_default c.args.rows.now c.loop-cell.cell-index _ _ c.loop-cell-test.true) in
    record {
      written = writes_stopped _ _ _ c.from_residual.result _ c.from_residual.ensures.1
          (stops _ _ _ _ _ _ _ c.loop-cell.invariant.progress at c.in_err-write_row.ensures.written);
    }

pub loop-cell-preserved : goal.loop-cell-preserved
loop-cell-preserved g c =
    let value = value_at c.args.before.now in
    row_head_written _ _ _ _ c.args.layout.now c.args.wide value c.args.rows.now c.loop-cell.cell-index c.loop-cell.row _
    c.loop-cell.invariant c.loop-cell-test.true (get_or_default c.args.rows.now c.loop-cell.cell-index _ _ c.loop-cell-test.true)
    c.in_ok-write_row.ensures.written
