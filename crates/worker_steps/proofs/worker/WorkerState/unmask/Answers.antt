use Rattle.std.proofs.Common.{sym, refl, None, arith}
use Rattle.superstep_instructions.specs.declared.instr.Instr.TheVariants.{Unmask}
use Rattle.instruction_steps.specs.Views.{uniform_of}
use Rattle.worker_bank.proofs.InstructionReportLemmas.{others_never_fault}
use Rattle.superstep_machine.proofs.KeyOrder.{none_least}
use Rattle.worker_steps.proofs.DoneLemmas.{done_bank}
use Rattle.worker_steps.proofs.worker.WorkerState.unmask.Goals as goal

pub returns : goal.returns
returns c =
    let depth = c.unmask.ensures.depth in
    done_bank c.args.code.now Unmask c.args.self.now c.unmask.new.self None c.args.self.now.key
    (record { uniform = refl; key = refl; put = refl; range = refl })
    c.requires.fitted c.unmask.ensures.bank (c.unmask.ensures.after c.args.code.now (uniform_of c.args.self.now.uniform))
    (others_never_fault c.args.code.now Unmask c.args.self.now.bank refl) c.unmask.ensures.many c.unmask.ensures.same
    (sym (none_least c.args.self.now.key)) (λ state d allowed within. let m = d.masks in omega (arith, depth, m)) (λ state. refl)
