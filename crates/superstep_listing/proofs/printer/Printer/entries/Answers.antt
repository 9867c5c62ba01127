use Rattle.std.proofs.Common.{◌∷◌, ◌++◌, [], ◌∙◌, refl, map, subst, ◌<◌}
use Rattle.superstep_listing.specs.Listing.{ended, entry_line}
use Rattle.superstep_listing.proofs.Printed.{printed_entry}
use Rattle.superstep_listing.proofs.printer.Printer.entries.Goals as goal

pub loop-i-preserved : goal.loop-i-preserved
loop-i-preserved g c = (
  c.entry.ensures.same_out ∙ c.loop-i.invariant.0,
  printed_entry (λ xs. ended (map entry_line xs)) (λ e. entry_line e ++ 10 ∷ []) (λ y ys. refl) _ _ _
      c.args.layout.now c.loop-i.i c.loop-i.invariant.1 (subst (λ n. c.loop-i.i < n) c.len-i-end.ensures c.loop-i-test.true)
      c.entry.ensures.prints,
)
