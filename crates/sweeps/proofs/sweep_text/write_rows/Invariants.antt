use Rattle.std.proofs.Common.{drop}
use Rattle.text_out.proofs.Progress.{Progress}
use Rattle.sweeps.specs.SweepText.{rows_text}
use Rattle.sweeps.proofs.sweep_text.write_rows.Given as goal

abbrev pub invariant-loop-row : goal.invariant-loop-row
invariant-loop-row g l =
    Progress (g.W.Out.state l.fn.out) (g.W.Out.state l.out) (rows_text l.fn.name l.fn.rows) (rows_text l.fn.name (drop l.row-index
    l.fn.rows))
