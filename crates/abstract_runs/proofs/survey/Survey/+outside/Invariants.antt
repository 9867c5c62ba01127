use Rattle.std.proofs.Common.{◌-◌, ◌≤◌}
use Rattle.pram_meaning.specs.Store.{State}
use Rattle.abstract_runs.specs.Standing.{StandsFor}
use Rattle.abstract_runs.specs.Following.{Follows}
use Rattle.all_inputs.specs.Told.{IsKept}
use Rattle.abstract_runs.proofs.Coming.{InBlock}
use Rattle.abstract_runs.proofs.Numbering.{InFor}
use Rattle.abstract_runs.proofs.Turning.{InTurns}
use Rattle.abstract_runs.proofs.survey.Survey.+outside.Given as goal

-- what is left of the block goes on from what is known
abbrev pub invariant-run_block-loop-s : goal.invariant-run_block-loop-s
invariant-run_block-loop-s l = InBlock l.self.program.now l.self.bound l.s-items l.s-index l.fn.known l.known l.told
    × Follows l.fn.known l.known × IsKept l.fn.told l.told

-- what is left of the loop does
abbrev pub invariant-run_while-turns : goal.invariant-run_while-turns
invariant-run_while-turns l = InTurns l.self.program.now l.self.bound l.line l.e l.body.items l.fn.known l.known l.told
    × Follows l.fn.known l.known × IsKept l.fn.told l.told

abbrev pub decreases-run_while-turns : goal.decreases-run_while-turns
decreases-run_while-turns l = l.self.bound - l.known.least

-- what was known is known still
abbrev pub invariant-run_open-loop-round : goal.invariant-run_open-loop-round
invariant-run_open-loop-round l = ((m : State) → StandsFor l.fn.known m → StandsFor l.known m) × (l.self.bound ≤ l.known.most)
    × Follows l.fn.known l.known × IsKept l.fn.told l.told

-- the turns that are left do
abbrev pub invariant-run_for-turns : goal.invariant-run_for-turns
invariant-run_for-turns l = InFor l.self.program.now l.self.bound l.variable l.body.items l.numbers.next l.numbers.last l.left.next
    l.left.last
    l.fn.known l.known l.told × Follows l.fn.known l.known × IsKept l.fn.told l.told

abbrev pub decreases-run_for-turns : goal.decreases-run_for-turns
decreases-run_for-turns l = l.self.bound - l.known.least
