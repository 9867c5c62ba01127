use Rattle.std.proofs.Common.{◌≡◌, true, take, length}
use Rattle.plain_form.specs.Outside.{statements_code, statements_left}
use Rattle.straight_lowering.specs.Written.{wrote}
use Rattle.lowering.proofs.outside.+outside.Given as goal

-- the statements so far
abbrev pub invariant-block-loop-s : goal.invariant-block-loop-s
invariant-block-loop-s l =
    l.out ≡ wrote (statements_code true l.free (length l.fn.out.instructions) l.fn.out.held (take l.s-index l.s-items))
    (statements_left l.fn.out.held (take l.s-index l.s-items)) l.fn.out
