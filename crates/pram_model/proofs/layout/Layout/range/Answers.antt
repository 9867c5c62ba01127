use Rattle.std.proofs.Common.{sym, ap, ◌∙◌, Some}
use Rattle.std.proofs.lemmas.Option.{slice_get-get_or}
use Rattle.pram_model.specs.Layout.{cell_of}
use Rattle.pram_model.proofs.Layouts.{found_cell, declared_length, range_bounds}
use Rattle.pram_model.proofs.layout.Layout.range.Goals as goal

pub returns-clause-bounds : goal.returns-clause-bounds
returns-clause-bounds c =
    range_bounds c.self.inside.entries.items c.self.inside.cells c.args.i c.index.result.now c.args.self.now c.self.invariant.0
    c.self.view_is c.requires c.index.ensures

pub returns-clause-cells : goal.returns-clause-cells
returns-clause-cells c z =
    let es = c.self.inside.entries.items in
    let below = declared_length es c.args.i c.args.self.now c.self.view_is c.requires in
    let there = slice_get-get_or es c.args.i c.index.result.now below ∙ ap Some (sym c.index.ensures) in
    ap (λ l. cell_of l c.args.i z) (sym c.self.view_is)
    ∙ found_cell 0 es c.self.inside.cells c.args.i z c.index.result.now c.self.invariant.0 there
