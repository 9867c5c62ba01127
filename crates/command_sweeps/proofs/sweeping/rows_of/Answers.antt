use Rattle.command_sweeps.specs.Sweeps.{IsRow}
use Rattle.command_facts.proofs.Same.{same_through}
use Rattle.command_sweeps.proofs.SweptRows.{next_row, row_held}
use Rattle.command_sweeps.proofs.sweeping.rows_of.Goals as goal

pub loop-size-preserved : goal.loop-size-preserved
loop-size-preserved g c =
    let now = g.S.Sources.holds c.loop-size.sources in
    let before = g.S.Sources.holds c.args.sources.now in
    let file = c.args.file.now in
    let row = row_held now before c.loop-size.invariant.1 file c.args.words _ c.in_ok-row.row c.in_ok-row.ensures.row in (
      next_row (IsRow before file c.args.words) c.args.sizes.now c.loop-size.size-index _ c.loop-size.rows.items
          c.add_row.new.rows.items
          c.in_ok-row.row c.loop-size-test.true c.loop-size.invariant.0 row c.in_ok-add_row.ensures,
      same_through before now (g.S.Sources.holds c.row_at.new.sources) c.row_at.ensures.same c.loop-size.invariant.1,
    )
