use Rattle.std.proofs.Common.{◌≡◌, ◌<◌, ◌++◌, ℕ, List, [], length, take, drop, get_or, set}
use Rattle.combining.specs.Held.{paired}
use Rattle.combining.specs.Asked.{ask_at}
use Rattle.combining.specs.Came.{all_replied, left_of_all}
use Rattle.combining.proofs.runs.keep_run.Given as goal

abbrev pub invariant-asks : goal.invariant-asks
invariant-asks g l =
    let at = (g.M.AddressMap.shape l.map).part in
    record {
      room : l.asked.room ≡ l.fn.asked.room;
      long : length l.asked.items ≡ length l.fn.asked.items;
      rest : drop l.i l.asked.items ≡ drop l.i l.fn.asked.items;
      held : (taken : List ℕ) (replies : List (List ℕ)) → l.home < length taken → l.home < length replies →
          get_or taken l.home 0 ≡ l.first → get_or replies l.home [] ≡ l.words →
          take l.i (paired ask_at l.keys l.asked.items)
          ++ all_replied at 0 (left_of_all (set taken l.home l.n) 0 replies) (drop l.i (paired ask_at l.keys l.fn.asked.items))
          ≡ take l.from (paired ask_at l.keys l.fn.asked.items)
          ++ all_replied at 0 (left_of_all taken 0 replies) (drop l.from (paired ask_at l.keys l.fn.asked.items));
    }
