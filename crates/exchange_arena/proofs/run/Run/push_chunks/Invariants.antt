use Rattle.std.proofs.Common.{◌≡◌, ◌+◌, ◌≤◌, ◌++◌, length}
use Rattle.exchange_arena.specs.Run.{IsRun}
use Rattle.exchange_arena.proofs.run.Run.push_chunks.Given as goal

-- what is written and what is left make up the whole
abbrev pub invariant-loop-chunk : goal.invariant-loop-chunk
invariant-loop-chunk g l = record {
  at : l.at ≡ length l.self.items;
  run : IsRun l.self l.fn.self.base l.fn.self.start l.fn.self.room l.self.items;
  room : length l.self.items + length l.rest ≤ l.fn.self.room;
  written : l.self.items ++ l.rest ≡ l.fn.self.items ++ l.words;
}

abbrev pub decreases-loop-chunk : goal.decreases-loop-chunk
decreases-loop-chunk g l = length l.rest
