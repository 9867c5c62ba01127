use Rattle.std.proofs.Common.{drop, map}
use Rattle.text_out.proofs.Progress.{Progress}
use Rattle.sweeps.specs.CsvText.{records_text, row_fields}
use Rattle.sweeps.proofs.csv_text.write_rows.Given as goal

abbrev pub invariant-loop-row : goal.invariant-loop-row
invariant-loop-row g l =
    Progress (g.W.Out.state l.fn.out) (g.W.Out.state l.out) (records_text (map row_fields l.fn.rows))
    (records_text (map row_fields (drop l.row-index l.fn.rows)))
