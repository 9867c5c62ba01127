use Rattle.std.proofs.Common.{◌≡◌, ◌≤◌, length, take}
use Rattle.pages.specs.Facts.{embedded, state_room}
use Rattle.pages.proofs.facts.has_room.Given as goal

abbrev pub invariant-loop-byte : goal.invariant-loop-byte
invariant-loop-byte l = record {
  sized : l.size ≡ length (embedded (take l.byte-index l.state));
  little : l.size ≤ state_room;
}
