use Rattle.std.proofs.Common.{◌≡◌, drop, map}
use Rattle.help.specs.InScope.{as_declared}
use Rattle.help.specs.Nearness.{named}
use Rattle.help.specs.declared.known.Sort.TheVariants.{Local}
use Rattle.help.proofs.bound.local_of.Given as goal

abbrev pub invariant-loop-x : goal.invariant-loop-x
invariant-loop-x l =
    named (map (λ x. as_declared x Local) (drop l.x-index l.locals)) l.word ≡ named (map (λ x. as_declared x Local) l.locals) l.word
