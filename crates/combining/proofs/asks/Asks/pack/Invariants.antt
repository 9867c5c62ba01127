use Rattle.std.proofs.Common.{◌≡◌, ◌≤◌, ◌++◌, length, take, drop}
use Rattle.combining.proofs.Packing.{packed}
use Rattle.combining.proofs.Asking.{words_of, is_for}
use Rattle.combining.proofs.asks.Asks.pack.Given as goal

abbrev pub invariant-loop-i : goal.invariant-loop-i
invariant-loop-i g l =
    let mine = is_for (g.M.AddressMap.shape l.map).part l.part in
    record {
      within : l.n ≤ length l.out;
      long : length l.out ≡ length l.fn.out;
      all : take l.n l.out ++ packed words_of mine (drop l.i l.self.held) ≡ packed words_of mine l.self.held;
      rest : drop l.n l.out ≡ drop l.n l.fn.out;
    }
