use Rattle.std.proofs.Common.{◌≡◌, drop}
use Rattle.help.specs.Locals.{variable_of}
use Rattle.help.proofs.locals.variable_name.Given as goal

abbrev pub invariant-loop-d : goal.invariant-loop-d
invariant-loop-d l =
    variable_of (drop l.d-index l.fn.tree.declarations) l.left ≡ variable_of l.fn.tree.declarations l.fn.number
