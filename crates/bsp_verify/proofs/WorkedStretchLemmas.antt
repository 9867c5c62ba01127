-- Worked code out of stretches.
use Rattle.std.proofs.Common.{◌≡◌, ◌<◌, ◌++◌, length, false, Some, pos, refl, ap, subst, arith, inl, inr}
use Rattle.std.specs.Prelude.{slice_get}
use Rattle.superstep_instructions.specs.declared.instr.Arithmetic.TheVariants.{Subtract}
use Rattle.superstep_instructions.specs.declared.instr.Side.TheVariants.{Uniform}
use Rattle.superstep_instructions.specs.declared.instr.Instr.{Instr}
use Rattle.superstep_instructions.specs.declared.instr.Instr.TheVariants.{Mark, Set, Calculate, Print, Jump, JumpIfZero, Halt}
use Rattle.bsp_verify.specs.States.{opening}
use Rattle.bsp_verify.specs.Control.{goes_on, IsReached}
use Rattle.bsp_verify.specs.WellFormed.{IsWellFormed}
use Rattle.bsp_verify.specs.Stretches.{scan_of, IsPlaced, IsStretch}
use Rattle.bsp_verify.specs.WorkedStretches.{settings, turns, ending, counting}
use Rattle.bsp_verify.proofs.StretchLemmas.{stretches_compose, a_stretch_is_code}
use Rattle.pram_model.proofs.Truths.{unsome}

-- what doesn't jump, and goes on
first_set : IsPlaced counting 0 (Set Uniform 0 (pos 3)) opening
first_set = record {
  registers = refl;
  entry = refl;
  target = refl;
  mode = refl;
  masks = refl;
  exchange = refl;
  joins = λ t j. absurd j;
  followed = λ e l. cc;
}

second_set : IsPlaced counting 1 (Set Uniform 1 (pos 1)) opening
second_set = record {
  registers = refl;
  entry = refl;
  target = refl;
  mode = refl;
  masks = refl;
  exchange = refl;
  joins = λ t j. absurd j;
  followed = λ e l. cc;
}

pub settings_judged : IsStretch counting 0 opening settings opening
settings_judged = (first_set, (second_set, refl))

turn_mark : IsPlaced counting 2 (Mark 1) opening
turn_mark = record {
  registers = refl;
  entry = refl;
  target = refl;
  mode = refl;
  masks = refl;
  exchange = refl;
  joins = λ t j. absurd j;
  followed = λ e l. cc;
}

-- to the end
turn_fork : IsPlaced counting 3 (JumpIfZero 0 6) opening
turn_fork = record {
  registers = refl;
  entry = refl;
  target = refl;
  mode = refl;
  masks = refl;
  exchange = refl;
  joins =
      λ t j. ap (scan_of counting) j;
  followed = λ e l. cc;
}

turn_step : IsPlaced counting 4 (Calculate Uniform Subtract 0 0 1 1) opening
turn_step = record {
  registers = refl;
  entry = refl;
  target = refl;
  mode = refl;
  masks = refl;
  exchange = refl;
  joins = λ t j. absurd j;
  followed = λ e l. cc;
}

-- the fork at place 3 leads behind the last turn
behind_turns : IsReached counting 6
behind_turns = inr (3, JumpIfZero 0 6, (let l : 3 < 6 = omega arith in l), refl, inl refl)

-- back to the mark
turn_back : IsPlaced counting 5 (Jump 2) opening
turn_back = record {
  registers = refl;
  entry = refl;
  target = refl;
  mode = refl;
  masks = refl;
  exchange = refl;
  joins =
      λ t j. ap (scan_of counting) j;
  followed = λ e l. behind_turns;
}

pub turns_judged : IsStretch counting 2 opening turns opening
turns_judged = (turn_mark, (turn_fork, (turn_step, (turn_back, refl))))

last_mark : IsPlaced counting 6 (Mark 2) opening
last_mark = record {
  registers = refl;
  entry = refl;
  target = refl;
  mode = refl;
  masks = refl;
  exchange = refl;
  joins = λ t j. absurd j;
  followed = λ e l. cc;
}

last_print : IsPlaced counting 7 (Print 0) opening
last_print = record {
  registers = refl;
  entry = refl;
  target = refl;
  mode = refl;
  masks = refl;
  exchange = refl;
  joins = λ t j. absurd j;
  followed = λ e l. cc;
}

-- nothing stands behind it
last_halt : IsPlaced counting 8 (Halt) opening
last_halt = record {
  registers = refl;
  entry = refl;
  target = refl;
  mode = refl;
  masks = refl;
  exchange = refl;
  joins = λ t j. absurd j;
  followed = λ e l. absurd (omega (arith, l));
}

pub ending_judged : IsStretch counting 6 opening ending opening
ending_judged = (last_mark, (last_print, (last_halt, refl)))

pub worked_formed : IsWellFormed counting
worked_formed = (long, (scan_of counting, a_stretch_is_code counting opening long closed whole))
  where
    long : 0 < length counting.instructions
    long = omega arith

    closed : (i : Instr) → slice_get counting.instructions 8 ≡ Some i → goes_on i ≡ false
    closed i e = subst (λ (j : Instr). goes_on j ≡ false) (unsome Halt i e) refl

    whole : IsStretch counting 0 opening (settings ++ (turns ++ ending)) opening
    whole =
        stretches_compose counting 0 opening opening opening settings (turns ++ ending) settings_judged
        (stretches_compose counting 2 opening opening opening turns ending turns_judged ending_judged)
