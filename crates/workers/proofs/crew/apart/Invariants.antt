use Rattle.std.proofs.Common.{◌≡◌, ◌++◌, ◌≤◌, length, map}
use Rattle.std.specs.Prelude.{vec_capacity, filter_map}
use Rattle.std.specs.Vec.Iter.{into_iter_items, into_iter_len}
use Rattle.workers.proofs.crew.apart.Given as goal

abbrev pub invariant-reports : goal.invariant-reports
invariant-reports g l = record {
  rest : l.yielded ++ into_iter_items l.report-iterator ≡ into_iter_items l.initial.report-iterator;
  ended : l.ended.items ≡ map (λ r. r.runner) l.yielded;
  played : l.all.items ≡ filter_map (λ r. r.played) l.yielded;
  few : length l.all.items ≤ length l.yielded;
  ended_room : length (into_iter_items l.initial.report-iterator) ≤ vec_capacity l.ended;
  played_room : length (into_iter_items l.initial.report-iterator) ≤ vec_capacity l.all;
  left : into_iter_len l.report-iterator ≡ length (into_iter_items l.report-iterator);
}
