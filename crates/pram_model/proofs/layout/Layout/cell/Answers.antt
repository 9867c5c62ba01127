use Rattle.std.proofs.Common.{◌≡◌, sym, ap, ◌∙◌, Some, None}
use Rattle.std.specs.List.{slice_get}
use Rattle.std.specs.Int.{w64}
use Rattle.std.proofs.lemmas.Int.{to_z-of_z}
use Rattle.pram_model.specs.Layout.{cell_of, cell_at}
use Rattle.pram_model.proofs.Layouts.{found_cell, no_cell}
use Rattle.pram_model.proofs.layout.Layout.cell.Goals as goal

pub returns-in-None : goal.returns-in-None
returns-in-None c =
    let nothing : slice_get c.self.inside.entries.items c.args.entry ≡ None =
    ap (λ l. slice_get l c.args.entry) (sym c.as_slice.ensures.value) ∙ sym c.in-None.ensures in
    sym (no_cell 0 c.self.inside.entries.items c.args.entry c.args.subscript nothing)
    ∙ ap (λ l. cell_of l c.args.entry c.args.subscript) c.self.view_is

pub returns-in-Some : goal.returns-in-Some
returns-in-Some c =
    let there : slice_get c.self.inside.entries.items c.args.entry ≡ Some c.in-Some.entry.now =
    ap (λ l. slice_get l c.args.entry) (sym c.as_slice.ensures.value) ∙ sym c.in-Some.ensures in
    let range = c.in-Some.entry.now.range in
    let same : c.cell.result ≡ cell_at range.first range.low range.high c.args.subscript =
    c.cell.ensures ∙ ap (λ z. cell_at range.first range.low range.high z) (to_z-of_z w64 c.args.subscript c.ranges.subscript) in
    same
    ∙ (sym (found_cell 0 c.self.inside.entries.items c.self.inside.cells c.args.entry c.args.subscript c.in-Some.entry.now
    c.self.invariant.0 there)
    ∙ ap (λ l. cell_of l c.args.entry c.args.subscript) c.self.view_is)
