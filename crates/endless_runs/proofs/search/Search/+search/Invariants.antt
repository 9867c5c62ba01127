use Rattle.std.proofs.Common.{◌≡◌, ◌≤◌, ◌-◌}
use Rattle.pram_meaning.specs.Runs.{state_of}
use Rattle.endless_runs.proofs.ForWalk.{InFor}
use Rattle.endless_runs.proofs.LoopWalk.{InLoop}
use Rattle.endless_runs.proofs.Walk.{InBlock}
use Rattle.endless_runs.proofs.search.Search.+search.Given as goal

abbrev pub invariant-search_block-loop-s : goal.invariant-search_block-loop-s
invariant-search_block-loop-s g l =
    InBlock l.self.interpreter.program.now l.s-items l.s-index (state_of l.fn.run) (state_of l.run)
    × (l.fn.run.count ≤ l.run.count) × (l.run.count ≤ l.self.interpreter.bound) × (l.s-items ≡ l.body.items)

abbrev pub invariant-search_while-turns : goal.invariant-search_while-turns
invariant-search_while-turns g l =
    InLoop l.self.interpreter.program.now l.location l.test l.body.items (state_of l.fn.run) (state_of l.run) l.first.kept
    × InLoop l.self.interpreter.program.now l.location l.test l.body.items (state_of l.fn.run) (state_of l.run) l.later.kept
    × (l.fn.run.count ≤ l.run.count) × (l.run.count ≤ l.self.interpreter.bound)

abbrev pub decreases-search_while-turns : goal.decreases-search_while-turns
decreases-search_while-turns g l = l.self.interpreter.bound - l.run.count

abbrev pub invariant-search_turns-turns : goal.invariant-search_turns-turns
invariant-search_turns-turns g l =
    InFor l.self.interpreter.program.now l.variable l.body.items l.numbers.next l.numbers.last (state_of l.fn.run) l.left.next l.left.last
    (state_of l.run)
    × (l.fn.run.count ≤ l.run.count) × (l.run.count ≤ l.self.interpreter.bound)

abbrev pub decreases-search_turns-turns : goal.decreases-search_turns-turns
decreases-search_turns-turns g l = l.self.interpreter.bound - l.run.count
