use Rattle.std.proofs.Common.{◌≡◌, ◌≤◌, ◌+◌, length, vec_capacity}
use Rattle.combining.specs.Places.{AscendFrom, IsAbove}
use Rattle.combining.specs.Compact.{held_at}
use Rattle.combining.specs.Held.{paired, held_after}
use Rattle.combining.specs.Writing.{first_writes}
use Rattle.combining.proofs.writes.append_writes.Given as goal

abbrev pub invariant-processors : goal.invariant-processors
invariant-processors g l = record {
  held : paired held_at l.keys.items l.entries.items ≡ held_after (g.R.WriteRule.rule l.rule)
      (first_writes (g.W.Writes.number l.writes) (g.W.Writes.written l.writes) l.j) (paired held_at l.fn.keys.items l.fn.entries.items);
  ascend : AscendFrom 0 l.keys.items;
  above : IsAbove l.least l.keys.items;
  long : length l.entries.items ≡ length l.keys.items;
  few : length l.keys.items ≤ length l.fn.keys.items + l.j;
  room : vec_capacity l.keys ≡ vec_capacity l.fn.keys;
  rooms : vec_capacity l.entries ≡ vec_capacity l.fn.entries;
}
