use Rattle.std.proofs.Common.{◌≡◌, ◌≤◌, ◌++◌, length, take, drop}
use Rattle.combining.specs.Held.{paired}
use Rattle.combining.specs.Asked.{ask_at, replied}
use Rattle.combining.proofs.asks.keep.Given as goal

abbrev pub invariant-loop-i : goal.invariant-loop-i
invariant-loop-i g l =
    let at = (g.M.AddressMap.shape l.map).part in
    record {
      within : l.n ≤ length l.words;
      room : l.asked.room ≡ l.fn.asked.room;
      long : length l.asked.items ≡ length l.fn.asked.items;
      rest : drop l.i l.asked.items ≡ drop l.i l.fn.asked.items;
      all : take l.i (paired ask_at l.keys l.asked.items) ++ replied at l.part (drop l.n l.words)
          (drop l.i (paired ask_at l.keys l.fn.asked.items)) ≡ replied at l.part l.words (paired ask_at l.keys l.fn.asked.items);
    }
