use Rattle.std.proofs.Common.{◌∙◌, sym, ap, refl, None, [], ◌∷◌, pos, cond, eqb}
use Rattle.superstep_instructions.specs.declared.instr.Side.TheVariants.{Uniform}
use Rattle.superstep_instructions.specs.declared.instr.Instr.TheVariants.{Put}
use Rattle.superstep_machine.specs.Keys.{least}
use Rattle.superstep_machine.specs.Steps.{is_active, uniform_key, uniform_write}
use Rattle.superstep_machine.specs.Worker.{by_processor}
use Rattle.instruction_steps.specs.Views.{uniform_of}
use Rattle.combining.specs.Held.{held_after}
use Rattle.worker_bank.specs.Bank.{part_at, number_of}
use Rattle.worker_steps.specs.Held.{made}
use Rattle.worker_bank.proofs.InstructionReportLemmas.{none_either}
use Rattle.superstep_machine.proofs.KeyOrder.{none_least}
use Rattle.worker_steps.proofs.DoneLemmas.{same_bank}
use Rattle.worker_steps.proofs.PutDone.{put_keeps, uniform_made, done_put}
use Rattle.worker_steps.proofs.worker.WorkerState.put_uniform.Goals as goal

pub returns-clause-done : goal.returns-clause-done
returns-clause-done g c =
    let a = c.args.self.now in
    let code = c.args.code.now in
    let entry = c.args.entry in
    let s = c.args.subscript in
    let v = c.args.value in
    let q = c.args.position in
    let u = uniform_of a.uniform in
    done_put code a c.step_uniform.new.u a.bank a.written c.hold_write.new.puts c.least-key.result None Uniform entry s v q
    (made (by_processor (pos 0) (cond (eqb a.bank.worker 0) (uniform_write code (Put Uniform entry s v q) u) None) ∷ []))
    c.requires.fitted c.in_ok-step_uniform.ensures.after c.in_ok-step_uniform.ensures.reserve
    (λ xs ys j l. sym (put_keeps code Uniform entry s v q u (number_of a.bank j) (part_at a.bank xs ys j)))
    (λ xs ys j l. none_either (is_active (part_at a.bank xs ys j))) c.requires.fitted.bank refl (same_bank a.bank) refl
    (c.least-key.ensures ∙ ap (least a.key) (c.uniform_key-noted.ensures
    ∙ sym (none_least (uniform_key code (Put Uniform entry s v q) u))))
    (uniform_made code a entry s v q c.requires.fitted c.requires.met)
    (c.hold_write.ensures.held ∙ ap (λ xs. held_after (g.R.WriteRule.rule c.args.rule.now)
    (made (by_processor (pos 0) c.write_of-write.result ∷ [])) xs)
    c.clear.ensures.none
    ∙ (λ k. held_after (c.requires.rule k) (made (by_processor (pos 0) (c.write_of-write.ensures k) ∷ [])) []))
    (c.hold_write.ensures.room ∙ c.clear.ensures.room)
