use Rattle.std.proofs.Common.{◌≡◌, ◌≤◌, ◌-◌, ◌++◌, length, take, drop, map}
use Rattle.combining.specs.Held.{paired}
use Rattle.combining.specs.Asked.{ask_at}
use Rattle.combining.specs.Came.{all_replied, left_of_all}
use Rattle.combining.proofs.asks.keep_all.Given as goal

abbrev pub invariant-asks : goal.invariant-asks
invariant-asks g l =
    let at = (g.M.AddressMap.shape l.map).part in
    let replies = map (λ x. x.now) l.replies in
    record {
      size : length l.taken ≡ 32;
      room : l.asked.room ≡ l.fn.asked.room;
      long : length l.asked.items ≡ length l.fn.asked.items;
      within : l.i ≤ length l.asked.items;
      rest : drop l.i l.asked.items ≡ drop l.i l.fn.asked.items;
      all : take l.i (paired ask_at l.keys l.asked.items) ++ all_replied at 0 (left_of_all l.taken 0 replies)
          (drop l.i (paired ask_at l.keys l.fn.asked.items))
          ≡ all_replied at 0 replies (paired ask_at l.keys l.fn.asked.items);
    }

abbrev pub decreases-asks : goal.decreases-asks
decreases-asks g l = length l.asked.items - l.i
