use Rattle.std.proofs.Common.{ap, ◌∙◌, zero-add}
use Rattle.pram_model.specs.Layout.{total_size}
use Rattle.pram_model.proofs.Layouts.{numbered_total}
use Rattle.pram_model.proofs.layout.Layout.cells.Goals as goal

pub returns-clause-total : goal.returns-clause-total
returns-clause-total c =
    numbered_total 0 c.self.inside.entries.items c.self.inside.cells c.self.invariant.0 ∙ (zero-add _ ∙ ap total_size c.self.view_is)
