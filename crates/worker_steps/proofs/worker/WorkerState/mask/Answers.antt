use Rattle.std.proofs.Common.{sym, refl, None, arith}
use Rattle.superstep_instructions.specs.declared.instr.Instr.TheVariants.{Mask}
use Rattle.instruction_steps.specs.Views.{uniform_of}
use Rattle.worker_bank.proofs.InstructionReportLemmas.{others_never_fault}
use Rattle.superstep_machine.proofs.KeyOrder.{none_least}
use Rattle.worker_steps.proofs.DoneLemmas.{done_bank}
use Rattle.worker_steps.proofs.worker.WorkerState.mask.Goals as goal

pub returns : goal.returns
returns c =
    let depth = c.mask.ensures.depth in
    done_bank c.args.code.now (Mask c.args.source) c.args.self.now c.mask.new.self None c.args.self.now.key
    (record { uniform = refl; key = refl; put = refl; range = refl })
    c.requires.fitted c.mask.ensures.bank (c.mask.ensures.after c.args.code.now (uniform_of c.args.self.now.uniform))
    (others_never_fault c.args.code.now (Mask c.args.source) c.args.self.now.bank refl) c.mask.ensures.many c.mask.ensures.same
    (sym (none_least c.args.self.now.key)) (λ state d allowed within. let m = d.masks in omega (arith, depth, m)) (λ state. refl)
