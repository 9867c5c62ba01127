use Rattle.std.proofs.Common.{drop, map}
use Rattle.text_out.proofs.Progress.{Progress}
use Rattle.sweeps.specs.CsvText.{next_fields}
use Rattle.sweeps.proofs.csv_field.write_next_fields.Given as goal

abbrev pub invariant-loop-field : goal.invariant-loop-field
invariant-loop-field g l =
    Progress (g.W.Out.state l.fn.out) (g.W.Out.state l.out) (next_fields (map (λ f. f.now) l.fn.fields))
    (next_fields (map (λ f. f.now) (drop l.field-index l.fn.fields)))
