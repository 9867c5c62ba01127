use Rattle.std.proofs.Common.{◌≡◌, ◌++◌, drop, vec_capacity}
use Rattle.combining.specs.Held.{paired, packed_puts}
use Rattle.combining.specs.Compact.{held_at}
use Rattle.combining.proofs.single.append_puts.Given as goal

abbrev pub invariant-loop-i : goal.invariant-loop-i
invariant-loop-i g l =
    let rule = g.R.WriteRule.rule l.rule in
    let at = (g.M.AddressMap.shape l.map).part in
    let held = paired held_at l.keys l.entries in
    record {
      room : vec_capacity l.list ≡ vec_capacity l.fn.list;
      all : l.list.items ++ packed_puts rule at 0 (drop l.i held) ≡ l.fn.list.items ++ packed_puts rule at 0 held;
    }
