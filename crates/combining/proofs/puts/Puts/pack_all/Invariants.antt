use Rattle.std.proofs.Common.{◌≡◌, ◌≤◌, ◌-◌, ◌<◌, ◌++◌, ℕ, drop, length, map, vec_capacity}
use Rattle.combining.specs.Held.{packed_puts}
use Rattle.combining.specs.AllModules.{column}
use Rattle.combining.proofs.puts.Puts.pack_all.Given as goal

abbrev pub invariant-puts : goal.invariant-puts
invariant-puts g l =
    let rule = g.R.WriteRule.rule l.rule in
    let m = g.M.AddressMap.shape l.map in
    record {
      rooms : map vec_capacity l.columns ≡ map vec_capacity l.fn.columns;
      within : l.i ≤ length l.self.held;
      got : (j : ℕ) → j < m.parts → column (map (λ v. v.items) l.columns) j ++ packed_puts rule m.part j (drop l.i l.self.held)
          ≡ column (map (λ v. v.items) l.fn.columns) j ++ packed_puts rule m.part j l.self.held;
    }

abbrev pub decreases-puts : goal.decreases-puts
decreases-puts g l = length l.self.held - l.i
