use Rattle.std.proofs.Common.{◌≡◌}
use Rattle.plain_form.specs.Groups as groups
use Rattle.straight_lowering.specs.Operands.{formula, held_behind}
use Rattle.straight_lowering.specs.Written.{wrote}
use Rattle.straight_lowering.proofs.values.gather.Given as goal

-- the levels so far
abbrev pub invariant-loop-level : goal.invariant-loop-level
invariant-loop-level l =
    l.out ≡ wrote (groups.groups l.side l.level 0 (formula l.operands) l.fn.base l.stack) (held_behind l.fn.out.held l.level) l.fn.out
