use Rattle.std.proofs.Common.{◌≡◌, ◌+◌, length, take}
use Rattle.pram_names.proofs.scope.Scope.truncate.Given as goal

-- the first names are left, and one name less a turn
abbrev pub invariant-loop : goal.invariant-loop
invariant-loop l = record {
  all : l.end ≡ length l.initial.self;
  fewer : length l.self + l.counter ≡ l.end + l.len;
  kept : take l.len l.self ≡ take l.len l.initial.self;
}
