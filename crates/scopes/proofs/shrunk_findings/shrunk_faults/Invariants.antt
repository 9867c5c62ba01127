use Rattle.std.proofs.Common.{map, take}
use Rattle.scopes.specs.Found.{met_is}
use Rattle.scopes.specs.Shrunk.{AreShrunkMet}
use Rattle.scopes.proofs.shrunk_findings.shrunk_faults.Given as goal

-- those so far are told with smaller inputs
abbrev pub invariant-loop-found : goal.invariant-loop-found
invariant-loop-found l =
    AreShrunkMet l.fn.scope l.fn.specification l.fn.program l.fn.bound (map met_is (take l.found-index l.fn.faults))
    (map met_is l.shrunk.items)
