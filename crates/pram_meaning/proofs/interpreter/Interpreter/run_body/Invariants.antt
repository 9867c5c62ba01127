use Rattle.pram_meaning.specs.Runs.{state_of}
use Rattle.pram_meaning.proofs.HeardBlocks.{BlockHeard}
use Rattle.pram_meaning.proofs.Loops.{InBlock}
use Rattle.pram_meaning.proofs.interpreter.Interpreter.run_body.Given as goal

abbrev pub invariant-loop-s : goal.invariant-loop-s
invariant-loop-s g l = InBlock l.self.program.now l.self.bound l.self.program.now.body l.s-index (state_of l.fn.run) (state_of l.run)
    × BlockHeard g.H.Listener.hears g.H.Listener.gives_up l.self.program.now l.self.bound l.self.program.now.body l.s-index
    (state_of l.fn.run) l.fn.listener
    (state_of l.run) l.listener
