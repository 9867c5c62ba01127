use Rattle.std.proofs.Common.{◌≡◌, ◌++◌, drop, vec_capacity}
use Rattle.combining.specs.Held.{paired}
use Rattle.combining.specs.Asked.{ask_at}
use Rattle.combining.proofs.Packing.{packed}
use Rattle.combining.proofs.Asking.{words_of, is_for}
use Rattle.combining.proofs.single.append_asks.Given as goal

abbrev pub invariant-loop-i : goal.invariant-loop-i
invariant-loop-i g l =
    let mine = is_for (g.M.AddressMap.shape l.map).part 0 in
    let held = paired ask_at l.keys l.asked.items in
    record {
      room : vec_capacity l.list ≡ vec_capacity l.fn.list;
      all : l.list.items ++ packed words_of mine (drop l.i held) ≡ l.fn.list.items ++ packed words_of mine held;
    }
