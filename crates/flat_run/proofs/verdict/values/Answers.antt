use Rattle.std.proofs.Common.{◌∙◌, ap, take}
use Rattle.pram_model.specs.Layout.{total_size}
use Rattle.flat_run.proofs.OutcomeLemmas.{first_values}
use Rattle.flat_run.proofs.verdict.values.Goals as goal

pub returns : goal.returns
returns c =
    let memory = c.args.memory.items in
    c.truncate.ensures.items ∙ ap (λ n. take n memory) (c.cells.ensures.total ∙ ap total_size c.layout.ensures.value)
    ∙ first_values memory (total_size c.args.code.now.layout) c.requires
