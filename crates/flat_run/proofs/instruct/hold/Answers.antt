use Rattle.std.proofs.Common.{◌≡◌, ℕ, ◌<◌, ◌≤◌, ◌∙◌, sym, ap, cond, arith, ⊎_elim}
use Rattle.pram_model.specs.Layout.{total_size}
use Rattle.flat_machine.specs.Flat.{written}
use Rattle.flat_run.specs.Views.{held_of, flat_of}
use Rattle.flat_run.proofs.CellLemmas.{past_held}
use Rattle.flat_run.proofs.ListLemmas.{below_or_past}
use Rattle.flat_machine.proofs.Ranges.{none_written}
use Rattle.flat_run.proofs.instruct.hold.Goals as goal

pub returns-in_ok-machine-clause-held : goal.returns-in_ok-machine-clause-held
returns-in_ok-machine-clause-held c =
    let code = c.args.code.now in
    let f = flat_of c.args.machine.now in
    let held = c.in_ok-machine.field-0.items in
    let by_cell : (k : ℕ) → held_of held k ≡ written code c.args.instr f k =
    λ k. ⊎_elim
    (λ (m : k < total_size code.layout). c.in_ok-machine.ensures.each k m)
    (λ (m : total_size code.layout ≤ k). past_held held k (omega (arith, m, c.in_ok-machine.ensures.cells))
    ∙ sym (none_written code c.args.instr f k m))
    (below_or_past k (total_size code.layout)) in
    λ i k. (by_cell k ∙ sym (ap (λ b. cond b (written code c.args.instr f k) (f.held k)) (sym c.is_put.ensures ∙ c.if-is_put.true))) i
