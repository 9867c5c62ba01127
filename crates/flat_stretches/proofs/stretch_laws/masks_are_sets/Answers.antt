use Rattle.flat_stretches.proofs.Active.{present_are_active}
use Rattle.flat_stretches.proofs.Idle.{idle_stay}
use Rattle.flat_stretches.proofs.Frames.{sets_narrow, everybody_is_present, ranges_begin, masks_narrow, flips_turn, unmasks_widen}
use Rattle.flat_stretches.proofs.Frames.{votes_say}
use Rattle.flat_stretches.proofs.Frames.{folds_stay, folds_at_once_stay}
use Rattle.flat_stretches.proofs.Loops.{loops_open, loops_turn, loops_close}
use Rattle.flat_stretches.proofs.stretch_laws.masks_are_sets.Goals as goal

pub returns : goal.returns
returns c = record {
  active = present_are_active;
  narrow = sets_narrow;
  everybody = everybody_is_present;
  begin = ranges_begin;
  mask = masks_narrow;
  flip = flips_turn;
  unmask = unmasks_widen;
  vote = votes_say;
  folds = folds_stay;
  at_once = folds_at_once_stay;
  idle = idle_stay;
  opens = loops_open;
  turns = loops_turn;
  closes = loops_close;
}
