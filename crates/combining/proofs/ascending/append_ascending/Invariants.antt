use Rattle.std.proofs.Common.{◌≡◌, ◌≤◌, ◌+◌, length, take, vec_capacity}
use Rattle.combining.specs.Places.{AscendFrom, IsAbove}
use Rattle.combining.specs.Held.{paired}
use Rattle.combining.specs.Asked.{ask_at}
use Rattle.combining.specs.Adding.{by_read, asked_after}
use Rattle.combining.proofs.ascending.append_ascending.Given as goal

abbrev pub invariant-processors : goal.invariant-processors
invariant-processors l = record {
  held : paired ask_at l.keys.items l.asked.items
      ≡ asked_after (by_read l.ordinal (take l.j l.cells)) (paired ask_at l.fn.keys.items l.fn.asked.items);
  ascend : AscendFrom 0 l.keys.items;
  above : IsAbove l.least l.keys.items;
  long : length l.asked.items ≡ length l.keys.items;
  few : length l.keys.items ≤ length l.fn.keys.items + l.j;
  room : vec_capacity l.keys ≡ vec_capacity l.fn.keys;
  rooms : l.asked.room ≡ l.fn.asked.room;
}
