use Rattle.std.proofs.Common.{rules, ◌≡◌, length, Some, None, sym, subst, refl}
use Rattle.pram_model.specs.Layout.{cell_of}
use Rattle.pram_values.specs.declared.kind.Kind.TheVariants.{OutOfRange}
use Rattle.abstract_runs.specs.Finding.{MayBy}
use Rattle.abstract_runs.specs.Placed.{IsPlacedBy}
use Rattle.abstract_runs.proofs.Assigned.{IsWrittenTo, write_tried}
use Rattle.abstract_runs.proofs.assigning.write_at.Goals as goal

pub returns-in-Some-clause-tried : goal.returns-in-Some-clause-tried
returns-in-Some-clause-tried c = λ s t z v shows i j g.
    let here : c.len.result ≡ length c.push.new.self.items = search rules in
    write_tried c.cells_at-place.result (cell_of s.layout c.args.entry z) c.args.value _ c.args.trail.now.items c.push.new.self.items
    c.note_if.new.faults t v
    (subst (λ l. IsPlacedBy c.cells_at-place.result (cell_of l c.args.entry z)) (sym shows.layout) (c.cells_at-place.ensures z i))
    (λ e. subst (λ n. MayBy OutOfRange n c.note_if.new.faults) here (c.note_if.ensures.noted e)) c.in_ok-push.ensures.items
    (subst (λ r. IsWrittenTo r c.args.value (Some (record { value = c.args.value; reach = Some c.in-Some.reach }))) (sym c.in-Some.is)
    refl) j g

pub returns-in-None-clause-tried : goal.returns-in-None-clause-tried
returns-in-None-clause-tried c = λ s t z v shows i j g.
    let here : c.len.result ≡ length c.push.new.self.items = search rules in
    write_tried c.cells_at-place.result (cell_of s.layout c.args.entry z) c.args.value _ c.args.trail.now.items c.push.new.self.items
    c.note_if.new.faults t v
    (subst (λ l. IsPlacedBy c.cells_at-place.result (cell_of l c.args.entry z)) (sym shows.layout) (c.cells_at-place.ensures z i))
    (λ e. subst (λ n. MayBy OutOfRange n c.note_if.new.faults) here (c.note_if.ensures.noted e)) c.in_ok-push.ensures.items (subst (λ r. IsWrittenTo r c.args.value None) (sym c.in-None.is) tt) j g
