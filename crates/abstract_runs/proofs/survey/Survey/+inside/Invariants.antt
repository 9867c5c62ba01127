use Rattle.std.proofs.Common.{◌-◌, ◌≤◌, IfSome}
use Rattle.pram_meaning.specs.Store.{State}
use Rattle.abstract_runs.specs.Following.{Follows}
use Rattle.abstract_runs.specs.Inner.{AreKnownIn}
use Rattle.abstract_runs.specs.Likeness.{AreLike}
use Rattle.abstract_runs.specs.Standing.{StandsWith}
use Rattle.all_inputs.specs.Told.{IsKept}
use Rattle.abstract_runs.proofs.BlocksOn.{InBlockOn}
use Rattle.abstract_runs.proofs.TurningOn.{InTurnsOn}
use Rattle.abstract_runs.proofs.survey.Survey.+inside.Given as goal

-- what is left of the block goes on from what is known
abbrev pub invariant-run_block_on-loop-s : goal.invariant-run_block_on-loop-s
invariant-run_block_on-loop-s l = InBlockOn l.self.program.now l.self.bound l.s-items l.fn.active l.fn.known l.fn.team.items
    (λ vs m. IfSome l.fn.inner (λ t. AreKnownIn t.now.items vs m)) l.s-index l.known l.team.items
    (λ vs m. IfSome l.more (λ t. AreKnownIn t.now.items vs m)) l.told × Follows l.fn.known l.known × AreLike l.fn.team.items
    l.team.items × IsKept l.fn.told l.told

-- what is left of the loop does
abbrev pub invariant-run_while_on-turns : goal.invariant-run_while_on-turns
invariant-run_while_on-turns l = InTurnsOn l.self.program.now l.self.bound l.line l.e l.body.items l.fn.known l.fn.team.items l.fn.active
    l.known
    l.team.items l.current.items l.told × Follows l.fn.known l.known × AreLike l.fn.team.items l.team.items × IsKept l.fn.told l.told

abbrev pub decreases-run_while_on-turns : goal.decreases-run_while_on-turns
decreases-run_while_on-turns l = l.self.bound - l.known.least

-- what was known is known still
abbrev pub invariant-run_open_on-loop-round : goal.invariant-run_open_on-loop-round
invariant-run_open_on-loop-round l = ((m : State) → StandsWith l.fn.known l.fn.team.items m → StandsWith l.known l.team.items m)
    × (l.self.bound ≤ l.known.most) × Follows l.fn.known l.known × AreLike l.fn.team.items l.team.items × IsKept l.fn.told l.told
