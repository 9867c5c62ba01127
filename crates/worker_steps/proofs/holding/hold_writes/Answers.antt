use Rattle.std.proofs.Common.{◌≡◌, ◌∷◌, [], sym, ap, ◌∙◌, arith, to_z, of_z, w64}
use Rattle.std.proofs.lemmas.Int.{to_z-of_z}
use Rattle.superstep_machine.specs.Steps.{index_of, write_to}
use Rattle.superstep_machine.specs.Worker.{by_processor}
use Rattle.instruction_steps.specs.Views.{uniform_of}
use Rattle.combining.specs.Held.{held_after}
use Rattle.worker_bank.specs.Cells.{cell_in}
use Rattle.worker_bank.specs.Columns.{value_of}
use Rattle.worker_bank.specs.Bank.{number_of}
use Rattle.worker_steps.specs.Held.{write_at, made}
use Rattle.worker_steps.proofs.WriteLemmas.{writes_more}
use Rattle.worker_steps.proofs.holding.hold_writes.Goals as goal

pub processors-preserved : goal.processors-preserved
processors-preserved g c =
    let rule = g.R.WriteRule.rule c.args.rule.now in
    let u = uniform_of c.args.u.now in
    let bank = c.args.bank.now in
    let cells = c.args.cells.now in
    let values = c.args.values.now in
    let j = c.processors.j in
    let before = c.processors.invariant in
    let few = c.hold_write.ensures.few in
    let old = before.few in
    let index : to_z w64 (of_z w64 c.index_of-index.result) ≡ index_of u (number_of bank j) =
    to_z-of_z w64 c.index_of-index.result c.index_of-index.ensures.fits ∙ c.index_of-index.ensures.value ∙ ap (index_of u)
    c.number.ensures in
    let write : c.write_to-write.result ≡ write_to (cell_in cells j) (value_of values j) = c.write_to-write.ensures
    ∙ ap (write_to (cell_in cells j)) (to_z-of_z w64 c.value_at.result c.value_at.ensures.fits ∙ c.value_at.ensures.value) in
    record {
      held = c.hold_write.ensures.held
          ∙ (λ k. held_after rule (made (by_processor (index k) (write k) ∷ [])) c.processors.puts.held)
          ∙ ap (held_after rule (made (write_at u bank cells values j ∷ []))) before.held
          ∙ sym (writes_more rule u bank cells values j c.args.puts.now.held);
      few = omega (arith, few, old);
      room = c.hold_write.ensures.room ∙ before.room;
    }
