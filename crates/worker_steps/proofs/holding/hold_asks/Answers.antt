use Rattle.std.proofs.Common.{◌≤◌, ◌^◌, ◌∷◌, [], sym, ap, ◌∙◌, arith}
use Rattle.std.proofs.lemmas.List.{length-take}
use Rattle.combining.specs.Adding.{by_read, asked_after}
use Rattle.worker_bank.specs.Cells.{cell_in}
use Rattle.combining.proofs.AscendingAsks.{below_take}
use Rattle.worker_steps.proofs.ReadLemmas.{asks_more, cells_of_cut}
use Rattle.worker_steps.proofs.holding.hold_asks.Goals as goal

pub processors-preserved : goal.processors-preserved
processors-preserved c =
    let cells = c.args.cells.now in
    let j = c.processors.j in
    let before = c.processors.invariant in
    let few = c.hold_ask.ensures.few in
    let old = before.few in
    record {
      held = c.hold_ask.ensures.held
          ∙ ap (asked_after (by_read c.args.ordinal (cell_in cells j ∷ []))) before.held
          ∙ sym (asks_more c.args.ordinal cells j c.args.asks.now.held);
      few = omega (arith, few, old);
      room = c.hold_ask.ensures.room ∙ before.room;
    }

pub add_ascending-first-requires-clause-below : goal.add_ascending-first-requires-clause-below
add_ascending-first-requires-clause-below c = below_take (2 ^ 20) c.args.many c.args.cells.now c.requires.below

pub processors-init : goal.processors-init
processors-init c =
    let n = c.add_ascending-first.result in
    let cells = c.args.cells.now in
    let many = c.args.many in
    let added = c.add_ascending-first.ensures in
    let small : n ≤ many = (let f = added.few in let t = length-take many cells in omega (arith, f, t)) in
    record {
      held = added.held ∙ ap (λ cs. asked_after (by_read c.args.ordinal cs) c.args.asks.now.held)
          (sym (cells_of_cut cells n many small c.requires.count));
      few = added.most;
      room = added.room;
    }
