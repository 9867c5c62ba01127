use Rattle.scopes.specs.Shrunk.{distance}
use Rattle.scopes.specs.Wrong.{goes_wrong}
use Rattle.scopes.proofs.Nearer.{LeadsOn}
use Rattle.scopes.proofs.shrinking.shrink.Given as goal

-- what this list shrinks to, the first one shrinks to
abbrev pub invariant-loop : goal.invariant-loop
invariant-loop l = LeadsOn (goes_wrong l.fn.scope l.fn.specification l.fn.program l.fn.bound l.fn.wrong) l.fn.input l.input

abbrev pub decreases-loop : goal.decreases-loop
decreases-loop l = distance l.input
