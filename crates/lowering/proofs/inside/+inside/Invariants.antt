use Rattle.std.proofs.Common.{◌≡◌, take, length}
use Rattle.plain_form.specs.Inside.{steps_code, steps_left}
use Rattle.lowering.specs.Parts.{frame}
use Rattle.straight_lowering.specs.Written.{wrote}
use Rattle.lowering.proofs.inside.+inside.Given as goal

-- the statements so far
abbrev pub invariant-steps-loop-s : goal.invariant-steps-loop-s
invariant-steps-loop-s l =
    l.out ≡ wrote (steps_code (frame l.vote) l.base (length l.fn.out.instructions) l.fn.out.held (take l.s-index l.s-items))
    (steps_left l.fn.out.held (take l.s-index l.s-items)) l.fn.out
