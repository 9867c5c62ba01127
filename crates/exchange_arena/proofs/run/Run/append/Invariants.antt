use Rattle.std.proofs.Common.{◌≡◌, ◌+◌, ◌++◌, length, take}
use Rattle.exchange_arena.specs.Run.{IsRun}
use Rattle.exchange_arena.proofs.run.Run.append.Given as goal

abbrev pub invariant-loop-word : goal.invariant-loop-word
invariant-loop-word l = record {
  at : l.at ≡ length l.initial.self.items + l.word-index;
  run : IsRun l.self l.fn.self.base l.fn.self.start l.fn.self.room (l.initial.self.items ++ take l.word-index l.few);
}
