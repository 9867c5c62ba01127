use Rattle.std.proofs.Common.{map, arith}
use Rattle.superstep_machine.specs.Answering.{own_answered}
use Rattle.instruction_steps.specs.Views.{registers_of, read_is}
use Rattle.flat_run.proofs.PartLemmas.{each_starts, each_goes}
use Rattle.flat_run.proofs.reply.reply_processors.Goals as goal

pub processors-init : goal.processors-init
processors-init c = each_starts (λ v. own_answered (λ k a. registers_of c.args.memory.now a)
    (map read_is c.args.awaited.now)) c.args.processors.now.items

pub processors-preserved : goal.processors-preserved
processors-preserved c =
    each_goes (λ v. own_answered (λ k a. registers_of c.args.memory.now a)
    (map read_is c.args.awaited.now)) c.args.processors.now.items c.processors.processors.items c.processors.v c.index_mut.result.now
    c.reply_own.new.x
    c.processors.invariant (omega (arith, c.processors-test.true, c.len.ensures)) c.index_mut.ensures.value c.in_ok-reply_own.ensures

pub returns-clause-each : goal.returns-clause-each
returns-clause-each c = λ v l. let h = c.processors.invariant.count in c.processors.invariant.done v
    (omega (arith, l, h, c.processors-test.false, c.len.ensures))
