use Rattle.std.proofs.Common.{◌≡◌, ◌≤◌}
use Rattle.pram_meaning.specs.Runs.{state_of}
use Rattle.endless_runs.proofs.Walk.{InBlock}
use Rattle.endless_runs.proofs.search.Search.search_body.Given as goal

abbrev pub invariant-loop-s : goal.invariant-loop-s
invariant-loop-s g l =
    InBlock l.self.interpreter.program.now l.s-items l.s-index (state_of l.fn.run) (state_of l.run)
    × (l.run.count ≤ l.self.interpreter.bound) × (l.s-items ≡ l.self.interpreter.program.now.body)
