use Rattle.std.proofs.Common.{◌≡◌, ◌++◌, ℕ, drop, vec_capacity}
use Rattle.combining.specs.Compact.{held_at}
use Rattle.combining.specs.Held.{paired, packed_puts}
use Rattle.combining.proofs.runs.append_put_run.Given as goal

abbrev pub invariant-puts : goal.invariant-puts
invariant-puts g l =
    let at = (g.M.AddressMap.shape l.map).part in
    let rule = g.R.WriteRule.rule l.rule in
    let held = paired held_at l.keys l.entries in
    record {
      room : vec_capacity l.list ≡ vec_capacity l.fn.list;
      got : l.list.items ++ packed_puts rule at l.home (drop l.i held) ≡ l.fn.list.items ++ packed_puts rule at l.home (drop l.from held);
      others : (j : ℕ) → (l.home ≡ j → ⊥) → packed_puts rule at j (drop l.i held) ≡ packed_puts rule at j (drop l.from held);
    }
