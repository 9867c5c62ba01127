use Rattle.std.proofs.Common.{◌≡◌, take, vec_capacity}
use Rattle.worker_exchange.proofs.copying.filled.Given as goal

abbrev pub invariant-loop-word : goal.invariant-loop-word
invariant-loop-word l = record {
  words : l.list.items ≡ take l.word-index l.words;
  room : vec_capacity l.list ≡ vec_capacity l.fn.list;
}
