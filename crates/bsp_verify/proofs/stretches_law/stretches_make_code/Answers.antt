use Rattle.bsp_verify.proofs.StretchLemmas.{stretches_compose, stretches_leave, a_stretch_is_code, parts_stand, what_stands_is_there}
use Rattle.bsp_verify.proofs.stretches_law.stretches_make_code.Goals as goal

pub returns : goal.returns
returns c = record {
  compose = stretches_compose;
  leave = stretches_leave;
  code = a_stretch_is_code;
  parts = parts_stand;
  there = what_stands_is_there;
}
