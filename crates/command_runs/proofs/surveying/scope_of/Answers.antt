use Rattle.std.proofs.Common.{◌∙◌, ap, arith, refl, subst}
use Rattle.std.specs.Option.{unwrap_or}
use Rattle.pram_model.specs.Layout.{total_size}
use Rattle.command_runs.specs.Overalls.{IsUnfitFor}
use Rattle.command_runs.proofs.surveying.scope_of.Goals as goal

pub returns-then-cells-values-clause-refused : goal.returns-then-cells-values-clause-refused
returns-then-cells-values-clause-refused c =
    let why = c.too_long.result in
    let size = c.cells-cells.ensures.total ∙ ap total_size c.layout.ensures in
    let values = c.unwrap_or-values.ensures ∙ ap (unwrap_or c.args.words.cells) size in
    subst (λ v. IsUnfitFor v (total_size c.args.program.now.layout) why.stop why.about) values
    (subst (λ n. IsUnfitFor c.unwrap_or-values.result n why.stop why.about) size c.too_long.ensures)

pub returns-clause-asked : goal.returns-clause-asked
returns-clause-asked c =
    let size = c.cells-cells.ensures.total ∙ ap total_size c.layout.ensures in
    let within = c.if-cells-values.false in
    record {
      values = c.unwrap_or-values.ensures ∙ ap (unwrap_or c.args.words.cells) size;
      interval = refl;
      fit = omega (arith, size, within);
    }
