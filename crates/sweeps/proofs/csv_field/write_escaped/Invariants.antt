use Rattle.std.proofs.Common.{drop}
use Rattle.text_out.proofs.Progress.{Progress}
use Rattle.sweeps.specs.CsvText.{escaped}
use Rattle.sweeps.proofs.csv_field.write_escaped.Given as goal

abbrev pub invariant-loop-byte : goal.invariant-loop-byte
invariant-loop-byte g l =
    Progress (g.W.Out.state l.fn.out) (g.W.Out.state l.out) (escaped l.fn.field) (escaped (drop l.byte-index l.fn.field))
