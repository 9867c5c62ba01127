use Rattle.std.proofs.Common.{◌≡◌, map, take, vec_capacity}
use Rattle.std.specs.Int.{cast_signed, w64}
use Rattle.combining.proofs.states.values_of.Given as goal

abbrev pub invariant-loop-i : goal.invariant-loop-i
invariant-loop-i l = record {
  values : l.came.items ≡ map (cast_signed w64) (take l.i l.words);
  room : vec_capacity l.came ≡ vec_capacity l.fn.came;
}
