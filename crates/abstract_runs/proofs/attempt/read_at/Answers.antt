use Rattle.std.proofs.Common.{rules, ◌≡◌, length, Some, None, sym, subst}
use Rattle.pram_model.specs.Layout.{cell_of}
use Rattle.all_inputs.specs.Overall.{Cover}
use Rattle.pram_values.specs.declared.kind.Kind.TheVariants.{OutOfRange}
use Rattle.abstract_runs.specs.Finding.{MayBy}
use Rattle.abstract_runs.specs.Placed.{IsPlacedBy}
use Rattle.abstract_runs.proofs.Attempted.{AreReadBy, read_tried}
use Rattle.abstract_runs.proofs.attempt.read_at.Goals as goal

pub returns-in-Some-clause-tried : goal.returns-in-Some-clause-tried
returns-in-Some-clause-tried c = λ s t z shows i g.
    let here : c.len.result ≡ length c.push.new.self.items = search rules in
    read_tried s c.cells_at-place.result (cell_of s.layout c.args.entry z) (Some c.read_cells.result) c.args.trail.now.items
    c.push.new.self.items c.note_if.new.faults t
    (subst (λ l. IsPlacedBy c.cells_at-place.result (cell_of l c.args.entry z)) (sym shows.layout) (c.cells_at-place.ensures z i))
    (λ e. subst (λ n. MayBy OutOfRange n c.note_if.new.faults) here (c.note_if.ensures.noted e)) c.in_ok-push.ensures.items
    (subst (λ r. AreReadBy r (Some c.read_cells.result) s) (sym c.in-Some.is)
    (λ d. c.read_cells.ensures s.cells d (subst (λ k. Cover k s.cells) (sym c.deref.ensures.value) shows.cells))) g

pub returns-in-None-clause-tried : goal.returns-in-None-clause-tried
returns-in-None-clause-tried c = λ s t z shows i g.
    let here : c.len.result ≡ length c.push.new.self.items = search rules in
    read_tried s c.cells_at-place.result (cell_of s.layout c.args.entry z) None c.args.trail.now.items
    c.push.new.self.items c.note_if.new.faults t
    (subst (λ l. IsPlacedBy c.cells_at-place.result (cell_of l c.args.entry z)) (sym shows.layout) (c.cells_at-place.ensures z i))
    (λ e. subst (λ n. MayBy OutOfRange n c.note_if.new.faults) here (c.note_if.ensures.noted e)) c.in_ok-push.ensures.items (subst (λ r. AreReadBy r None s) (sym c.in-None.is) tt) g
