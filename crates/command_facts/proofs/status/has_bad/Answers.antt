use Rattle.std.proofs.Common.{sym, ap, ◌∙◌}
use Rattle.std.proofs.Math.ListN.{drop_of_length-le}
use Rattle.std.specs.List.{list_any}
use Rattle.sweeps.specs.declared.size_row.SizeRow.{SizeRow}
use Rattle.command_facts.specs.Statuses.{is_bad}
use Rattle.command_facts.proofs.status.has_bad.Goals as goal

pub returns : goal.returns
returns c =
    ap (list_any (λ (r : SizeRow). is_bad r.ending)) (sym (drop_of_length-le c.args.rows.now c.loop-row-test.false))
    ∙ c.loop-row.invariant
