use Rattle.std.proofs.Common.{◌≡◌, ℕ, subst, sym, Result, Ok, Err}
use Rattle.std.specs.Prelude.{OnOk}
use Rattle.worker_steps.specs.Done.{IsDone}
use Rattle.worker_steps.proofs.worker.WorkerState.step_registers.Goals as goal

both : {T E P Q R : Type 0} (r : Result T E) → (P → Q → R) → OnOk r P → OnOk r Q → OnOk r R
both (Ok x) f p q = f p q
both (Err e) f p q = p

pub returns-else-is_own-clause-done : goal.returns-else-is_own-clause-done
returns-else-is_own-clause-done c =
    let a = c.args.self.now in
    let b = c.step_shared.new.self in
    both c.step_shared.result
    (λ (done : (place : ℕ) → IsDone c.args.code.now c.args.instr (record a { place = place }) (record b { place = place }))
    (e : b.place ≡ a.place).
    subst (λ (p : ℕ). IsDone c.args.code.now c.args.instr a (record b { place = p })) (sym e) (done a.place))
    c.step_shared.ensures.done c.step_shared.ensures.place
