use Rattle.std.proofs.Common.{◌≡◌, ◌++◌, drop}
use Rattle.scopes.specs.Handed.{handed}
use Rattle.scopes.proofs.handing.lend_all.Given as goal

-- what is handed on so far, and what is left, is all
abbrev pub invariant-loop-i : goal.invariant-loop-i
invariant-loop-i l = l.handed.items ++ handed l.fn.layout l.fn.cells (drop l.i l.fn.asked) ≡ handed l.fn.layout l.fn.cells l.fn.asked
