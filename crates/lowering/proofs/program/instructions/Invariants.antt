use Rattle.std.proofs.Common.{◌≡◌, true, take, length}
use Rattle.plain_form.specs.Outside.{statements_code, statements_left}
use Rattle.straight_lowering.specs.Written.{wrote}
use Rattle.lowering.proofs.StatementParts.{nothing}
use Rattle.lowering.proofs.program.instructions.Given as goal

-- the statements so far
abbrev pub invariant-loop-s : goal.invariant-loop-s
invariant-loop-s l =
    l.out ≡ wrote (statements_code true l.free (length nothing.instructions) nothing.held (take l.s-index l.s-items))
    (statements_left nothing.held (take l.s-index l.s-items)) nothing
