use Rattle.std.proofs.Common.{subst}
use Rattle.abstract_runs.specs.Covers.{IsAmong}
use Rattle.abstract_runs.proofs.OneCell.{element_is, found_is}
use Rattle.abstract_runs.proofs.slot.slot_of.Goals as goal

pub returns-in-Some : goal.returns-in-Some
returns-in-Some c =
    found_is _ c.only_cell-in-Some.result
    (λ slot some s z shows h. element_is s c.args.e.now c.deref.result.now c.in-Element.a c.in-Element.subscript z c.in-Some.z
    c.args.known.now.layout.now c.only_cell-in-Some.result slot c.in-Element.is c.deref.ensures c.only_cell-in-Some.ensures some
    (λ w g. subst (λ f. IsAmong f w) c.in-Some.is (c.in_ok-z-in-Element.ensures s w shows g)) shows.layout h)
