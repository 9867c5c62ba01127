use Rattle.std.proofs.Common.{drop}
use Rattle.abstract_runs.specs.Finding.{AreKept}
use Rattle.abstract_runs.specs.Tried.{IsLonger}
use Rattle.abstract_runs.proofs.Chains.{IsOnWay}
use Rattle.abstract_runs.proofs.attempt.+value_of.Given as goal

-- the attempts have come so far
abbrev pub invariant-loop-link : goal.invariant-loop-link
invariant-loop-link l =
    IsOnWay l.known l.fn.trail.items l.trail.items l.faults l.e (drop l.link-index l.link-items) l.value
    × IsLonger l.fn.trail.items l.trail.items × AreKept l.fn.faults l.faults
