use Rattle.std.proofs.Common.{◌≡◌, ◌+◌, zero-add, refl, sym, ap, ◌∙◌, subst, arith}
use Rattle.std.specs.Int.{w64}
use Rattle.std.proofs.Common.{to_z, of_z}
use Rattle.std.proofs.lemmas.Int.{to_z-of_z}
use Rattle.pram_model.specs.Layout.{total_size, width}
use Rattle.pram_model.specs.LayoutFields.{IsNumbered}
use Rattle.pram_model.proofs.Layouts.{numbered_total, range_fits, numbered_push}
use Rattle.pram_model.proofs.layout.Layout.push.Goals as goal

pub invariant_of-push : goal.invariant_of-push
invariant_of-push c =
    let total : c.self.inside.cells ≡ total_size c.args.self.now =
    numbered_total 0 c.self.inside.entries.items c.self.inside.cells c.self.invariant.0 ∙ (zero-add _ ∙ ap total_size c.self.view_is) in
    let low = to_z-of_z w64 c.args.low c.ranges.low in
    let high = to_z-of_z w64 c.args.high c.ranges.high in
    record {
      ordered = rw (low, high) c.requires.ordered;
      placed = rw (low, high) (range_fits c.self.inside.cells (total_size c.args.self.now) c.args.low c.args.high total c.requires.ordered
          c.requires.room);
    }

pub invariant_of-self-2 : goal.invariant_of-self-2
invariant_of-self-2 c =
    let total : c.self.inside.cells ≡ total_size c.args.self.now =
    numbered_total 0 c.self.inside.entries.items c.self.inside.cells c.self.invariant.0 ∙ (zero-add _ ∙ ap total_size c.self.view_is) in
    let low = to_z-of_z w64 c.args.low c.ranges.low in
    let high = to_z-of_z w64 c.args.high c.ranges.high in
    let count : c.cell_count-more.result ≡ width c.args.low c.args.high = c.cell_count-more.ensures
    ∙ (ap (λ l. width l (to_z w64 (of_z w64 c.args.high))) low ∙ ap (width c.args.low) high) in (
      subst (λ l. IsNumbered 0 l (c.self.inside.cells + c.cell_count-more.result)) (sym c.in_ok-push.ensures.items)
          (numbered_push c.self.inside.entries.items c.self.inside.cells _ _ c.args.low c.args.high c.self.invariant.0 refl low high
          c.requires.ordered c.requires.single
          (ap (λ n. c.self.inside.cells + n) count)),
      omega (arith, count, total, c.requires.room),
    )
