use Rattle.std.proofs.Common.{◌-◌}
use Rattle.pram_meaning.specs.Runs.{state_of}
use Rattle.pram_meaning.proofs.Loops.{InBlock, InTurns}
use Rattle.pram_meaning.proofs.ForLoops.{InFor}
use Rattle.pram_meaning.proofs.HeardBlocks.{BlockHeard}
use Rattle.pram_meaning.proofs.HeardForLoops.{ForHeard}
use Rattle.pram_meaning.proofs.HeardLoops.{TurnsHeard}
use Rattle.pram_meaning.proofs.interpreter.Interpreter.+outside.Given as goal

abbrev pub invariant-run_block-loop-s : goal.invariant-run_block-loop-s
invariant-run_block-loop-s g l = InBlock l.self.program.now l.self.bound l.s-items l.s-index (state_of l.fn.run) (state_of l.run)
    × BlockHeard g.H.Listener.hears g.H.Listener.gives_up l.self.program.now l.self.bound l.s-items l.s-index
    (state_of l.fn.run) l.fn.listener
    (state_of l.run) l.listener

abbrev pub invariant-run_while-turns : goal.invariant-run_while-turns
invariant-run_while-turns g l = InTurns l.self.program.now l.self.bound l.location.line l.test l.body.items (state_of l.fn.run)
    (state_of l.run)
    × TurnsHeard g.H.Listener.hears g.H.Listener.gives_up l.self.program.now l.self.bound l.location l.test l.body.items
    (state_of l.fn.run) l.fn.listener
    (state_of l.run) l.listener

abbrev pub decreases-run_while-turns : goal.decreases-run_while-turns
decreases-run_while-turns g l = l.self.bound - l.run.count

abbrev pub invariant-run_turns-turns : goal.invariant-run_turns-turns
invariant-run_turns-turns g l = InFor l.self.program.now l.self.bound l.variable l.body.items l.numbers.next l.numbers.last
    (state_of l.fn.run) l.left.next l.left.last (state_of l.run)
    × ForHeard g.H.Listener.hears g.H.Listener.gives_up l.self.program.now l.self.bound l.location l.variable l.body.items l.numbers.next
    l.numbers.last
    (state_of l.fn.run) l.fn.listener l.left.next (state_of l.run) l.listener

abbrev pub decreases-run_turns-turns : goal.decreases-run_turns-turns
decreases-run_turns-turns g l = l.self.bound - l.run.count
