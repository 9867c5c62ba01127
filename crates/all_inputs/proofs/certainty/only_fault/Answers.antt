use Rattle.std.proofs.Common.{◌∙◌, ap, sym}
use Rattle.all_inputs.specs.Overall.{single_fault}
use Rattle.all_inputs.proofs.Single.{certain}
use Rattle.all_inputs.proofs.certainty.only_fault.Goals as goal

pub returns-clause-certain : goal.returns-clause-certain
returns-clause-certain c =
    certain c.args.overall.now c.single_fault.result (sym c.may_go_on.ensures ∙ c.if-may_go_on.false)
    (sym c.is_some.ensures ∙ c.if-is_some.false) (c.single_fault.ensures ∙ ap single_fault c.lines.ensures)
