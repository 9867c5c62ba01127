use Rattle.std.proofs.Common.{rules}
use Rattle.abstract_runs.proofs.Members.{team_left}
use Rattle.abstract_runs.proofs.narrowing_members.narrowed_team.Goals as goal

pub returns : goal.returns
returns c = λ m vs known there come.
    team_left c.args.program.now c.args.known.now c.args.e.now c.args.way c.args.team.now c.loop-k.inner.items c.loop-k.k c.loop-k.invariant.left
    (search rules) (search rules) vs m known there come
