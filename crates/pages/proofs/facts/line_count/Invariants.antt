use Rattle.std.proofs.Common.{◌≡◌, ◌≤◌, ◌+◌, drop}
use Rattle.pages.specs.Facts.{line_count}
use Rattle.pages.proofs.facts.line_count.Given as goal

abbrev pub invariant-loop-byte : goal.invariant-loop-byte
invariant-loop-byte l = record {
  so_far : l.count + line_count (drop l.byte-index l.text) ≡ line_count l.text;
  few : l.count ≤ l.byte-index;
}
