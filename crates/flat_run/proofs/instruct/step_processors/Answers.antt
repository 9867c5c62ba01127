use Rattle.std.proofs.Common.{arith}
use Rattle.superstep_machine.specs.Steps.{on_own}
use Rattle.instruction_steps.specs.Views.{uniform_of}
use Rattle.flat_run.proofs.PartLemmas.{each_starts, each_goes}
use Rattle.flat_run.proofs.instruct.step_processors.Goals as goal

pub processors-init : goal.processors-init
processors-init c = each_starts (on_own c.args.code.now c.args.instr (uniform_of c.args.u.now)) c.args.processors.now.items

pub processors-preserved : goal.processors-preserved
processors-preserved c =
    let h = c.processors.invariant in
    each_goes (on_own c.args.code.now c.args.instr (uniform_of c.args.u.now)) c.args.processors.now.items c.processors.processors.items
    c.processors.v c.index_mut.result.now c.step_own.new.x
    h (omega (arith, h.count, c.requires, c.processors-test.true)) c.index_mut.ensures.value c.in_ok-step_own.ensures

pub returns-clause-each : goal.returns-clause-each
returns-clause-each c = λ v l. c.processors.invariant.done v (omega (arith, l, c.processors-test.false))
