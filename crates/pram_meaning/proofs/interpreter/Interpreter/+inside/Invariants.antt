use Rattle.std.proofs.Common.{◌-◌}
use Rattle.pram_meaning.specs.Sets.{state_in}
use Rattle.pram_meaning.proofs.HeardSetBlocks.{BlockHeard}
use Rattle.pram_meaning.proofs.HeardSetLoops.{TurnsHeard}
use Rattle.pram_meaning.proofs.SetBlocks.{InBlock}
use Rattle.pram_meaning.proofs.SetLoops.{InTurns}
use Rattle.pram_meaning.proofs.interpreter.Interpreter.+inside.Given as goal

abbrev pub invariant-run_block_on-loop-s : goal.invariant-run_block_on-loop-s
invariant-run_block_on-loop-s g l =
    InBlock l.self.program.now l.self.bound l.s-items l.active.items l.s-index (state_in l.fn.run l.fn.team.items)
    (state_in l.run l.team.items)
    × BlockHeard g.H.Listener.hears g.H.Listener.gives_up l.self.program.now l.self.bound l.s-items l.active.items l.s-index
    (state_in l.fn.run l.fn.team.items) l.fn.listener (state_in l.run l.team.items) l.listener

abbrev pub invariant-run_while_on-turns : goal.invariant-run_while_on-turns
invariant-run_while_on-turns g l =
    InTurns l.self.program.now l.self.bound l.location.line l.test l.body.items l.active.items
    (state_in l.fn.run l.fn.team.items) l.current.items
    (state_in l.run l.team.items)
    × TurnsHeard g.H.Listener.hears g.H.Listener.gives_up l.self.program.now l.self.bound l.location l.test l.body.items l.active.items
    (state_in l.fn.run l.fn.team.items) l.fn.listener l.current.items (state_in l.run l.team.items) l.listener

abbrev pub decreases-run_while_on-turns : goal.decreases-run_while_on-turns
decreases-run_while_on-turns g l = l.self.bound - l.run.count
