use Rattle.std.proofs.Common.{OnOk, Some, sym, subst}
use Rattle.superstep_instructions.specs.declared.instr.Instr.{Instr}
use Rattle.flat_run.specs.Views.{flat_of}
use Rattle.flat_run.specs.RunViews.{state_of, led, AreSameStates}
use Rattle.flat_run.proofs.step.obey.Goals as goal

pub returns-in-Reply-clause-state : goal.returns-in-Reply-clause-state
returns-in-Reply-clause-state c =
    subst
    (λ (i : Instr). OnOk c.exchange_reply.result (AreSameStates (state_of c.exchange_reply.new.run)
    (led c.args.code.now c.args.bound (Some i) c.args.run.now.place (flat_of c.args.run.now.machine))))
    (sym c.in-Reply.is) c.exchange_reply.ensures.state
