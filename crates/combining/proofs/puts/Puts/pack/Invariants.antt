use Rattle.std.proofs.Common.{◌≡◌, ◌≤◌, ◌++◌, length, take, drop}
use Rattle.combining.specs.Held.{packed_puts}
use Rattle.combining.proofs.puts.Puts.pack.Given as goal

abbrev pub invariant-loop-i : goal.invariant-loop-i
invariant-loop-i g l =
    let rule = g.R.WriteRule.rule l.rule in
    let at = (g.M.AddressMap.shape l.map).part in
    record {
      within : l.n ≤ length l.out;
      long : length l.out ≡ length l.fn.out;
      all : take l.n l.out ++ packed_puts rule at l.part (drop l.i l.self.held) ≡ packed_puts rule at l.part l.self.held;
      rest : drop l.n l.out ≡ drop l.n l.fn.out;
    }
