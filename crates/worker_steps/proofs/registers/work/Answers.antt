use Rattle.std.proofs.Common.{◌≡◌, sym, ap, ◌∙◌, subst, length}
use Rattle.std.proofs.Common.{rules}
use Rattle.std.specs.Prelude.{FitsSigned}
use Rattle.std.specs.Int.{w64}
use Rattle.std.proofs.lemmas.Int.{to_z-of_z}
use Rattle.superstep_instructions.specs.declared.instr.Side.TheVariants.{Private}
use Rattle.superstep_instructions.specs.declared.instr.Instr.TheVariants.{Set}
use Rattle.instruction_steps.specs.Views.{registers_of}
use Rattle.instruction_steps.specs.Views.{uniform_of}
use Rattle.worker_bank.specs.Bank.{IsAfter, IsFirstFault}
use Rattle.worker_steps.proofs.KindLemmas.{set_fits, set_private, copy_private, negate_private, calculate_private, decide_private}
use Rattle.worker_steps.proofs.KindLemmas.{not_private}
use Rattle.worker_steps.proofs.registers.work.Goals as goal

pub returns-in-Negate-Private-default-default-default-clause-after :
    goal.returns-in-Negate-Private-default-default-default-clause-after
returns-in-Negate-Private-default-default-default-clause-after c =
    let w = c.in-Negate-Private-default-default-default in
    λ code. subst (λ i. IsAfter code i (uniform_of c.args.u.now) c.args.bank.now c.negate.new.self)
    (sym (negate_private (length c.args.bank.now.columns.items) c.args.instr w.side w.destination w.source w.position w.is
    c.requires.registers))
    (c.negate.ensures.after code (uniform_of c.args.u.now) w.position)

pub returns-in-Negate-Private-default-default-default-clause-fault :
    goal.returns-in-Negate-Private-default-default-default-clause-fault
returns-in-Negate-Private-default-default-default-clause-fault c =
    let w = c.in-Negate-Private-default-default-default in
    λ code. subst (λ i. IsFirstFault code i c.args.bank.now c.negate.result)
    (sym (negate_private (length c.args.bank.now.columns.items) c.args.instr w.side w.destination w.source w.position w.is
    c.requires.registers))
    (c.negate.ensures.fault code w.position)

pub returns-in-Calculate-Private-default-default-default-default-default-clause-after :
    goal.returns-in-Calculate-Private-default-default-default-default-default-clause-after
returns-in-Calculate-Private-default-default-default-default-default-clause-after c =
    let w = c.in-Calculate-Private-default-default-default-default-default in
    λ code. subst (λ i. IsAfter code i (uniform_of c.args.u.now) c.args.bank.now c.calculate.new.self)
    (sym (calculate_private (length c.args.bank.now.columns.items) c.args.instr w.side w.operation w.destination w.left w.right w.position
    w.is c.requires.registers))
    (c.calculate.ensures.after code (uniform_of c.args.u.now) w.position)

pub returns-in-Calculate-Private-default-default-default-default-default-clause-fault :
    goal.returns-in-Calculate-Private-default-default-default-default-default-clause-fault
returns-in-Calculate-Private-default-default-default-default-default-clause-fault c =
    let w = c.in-Calculate-Private-default-default-default-default-default in
    λ code. subst (λ i. IsFirstFault code i c.args.bank.now c.calculate.result)
    (sym (calculate_private (length c.args.bank.now.columns.items) c.args.instr w.side w.operation w.destination w.left w.right w.position
    w.is c.requires.registers))
    (c.calculate.ensures.fault code w.position)

pub returns-in-Copy-Private-default-default-clause-after : goal.returns-in-Copy-Private-default-default-clause-after
returns-in-Copy-Private-default-default-clause-after c =
    let w = c.in-Copy-Private-default-default in
    λ code. subst (λ i. IsAfter code i (uniform_of c.args.u.now) c.args.bank.now c.copy.new.self)
    (sym (copy_private (length c.args.bank.now.columns.items) c.args.instr w.side w.destination w.source w.is c.requires.registers))
    (c.copy.ensures.after code (uniform_of c.args.u.now))

pub returns-in-Set-Private-default-default-clause-after : goal.returns-in-Set-Private-default-default-clause-after
returns-in-Set-Private-default-default-clause-after c =
    let w = c.in-Set-Private-default-default in
    let fits : FitsSigned w64 w.value = set_fits c.args.instr w.side w.destination w.value w.is c.operands_fit.ensures in
    λ code. subst (λ i. IsAfter code i (uniform_of c.args.u.now) c.args.bank.now c.set.new.self)
    (ap (λ z. Set Private w.destination z) (to_z-of_z w64 w.value fits)
    ∙ sym (set_private (length c.args.bank.now.columns.items) c.args.instr w.side w.destination w.value w.is c.requires.registers))
    (c.set.ensures.after code (uniform_of c.args.u.now))

pub returns-in-Decide-Private-default-default-default-default-clause-after :
    goal.returns-in-Decide-Private-default-default-default-default-clause-after
returns-in-Decide-Private-default-default-default-default-clause-after c =
    let w = c.in-Decide-Private-default-default-default-default in
    λ code. subst (λ i. IsAfter code i (uniform_of c.args.u.now) c.args.bank.now c.decide.new.self)
    (sym (decide_private (length c.args.bank.now.columns.items) c.args.instr w.side w.operation w.destination w.left w.right w.is
    c.requires.registers))
    (c.decide.ensures.after code (uniform_of c.args.u.now))

pub returns-in-Not-Private-default-default-clause-after : goal.returns-in-Not-Private-default-default-clause-after
returns-in-Not-Private-default-default-clause-after c =
    let w = c.in-Not-Private-default-default in
    λ code. subst (λ i. IsAfter code i (uniform_of c.args.u.now) c.args.bank.now c.not.new.self)
    (sym (not_private (length c.args.bank.now.columns.items) c.args.instr w.side w.destination w.source w.is c.requires.registers))
    (c.not.ensures.after code (uniform_of c.args.u.now))

pub returns-in-CopyUniform-clause-after : goal.returns-in-CopyUniform-clause-after
returns-in-CopyUniform-clause-after c =
    let w = c.in-CopyUniform in
    let fits : FitsSigned w64 c.register.result = search rules in
    let read : registers_of c.args.u.now.registers.items w.source ≡ c.register.result =
    sym (c.register.ensures ∙ ap (λ values. registers_of values w.source) c.deref.ensures.value) in
    λ code. subst (λ i. IsAfter code i (uniform_of c.args.u.now) c.args.bank.now c.set-in-CopyUniform.new.self) (sym w.is)
    (c.set-in-CopyUniform.ensures.copied code (uniform_of c.args.u.now) w.source
    (read ∙ sym (to_z-of_z w64 c.register.result fits)))

pub returns-in-Index-clause-after : goal.returns-in-Index-clause-after
returns-in-Index-clause-after c =
    let w = c.in-Index in
    let fits : FitsSigned w64 c.args.u.now.low = search rules in
    λ code. subst (λ i. IsAfter code i (uniform_of c.args.u.now) c.args.bank.now c.index.new.self) (sym w.is)
    (c.index.ensures.after code (uniform_of c.args.u.now) (sym (to_z-of_z w64 c.args.u.now.low fits)))
