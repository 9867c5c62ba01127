use Rattle.std.proofs.Common.{◌≡◌, ◌≤◌, ◌-◌, ◌<◌, ◌++◌, ℕ, drop, length, map, vec_capacity}
use Rattle.superstep_machine.specs.Words.{ask_words}
use Rattle.combining.specs.Asked.{asks_for}
use Rattle.combining.specs.AllModules.{column}
use Rattle.combining.proofs.asks.Asks.pack_all.Given as goal

abbrev pub invariant-asks : goal.invariant-asks
invariant-asks g l =
    let m = g.M.AddressMap.shape l.map in
    record {
      rooms : map vec_capacity l.columns ≡ map vec_capacity l.fn.columns;
      within : l.i ≤ length l.self.held;
      got : (j : ℕ) → j < m.parts → column (map (λ v. v.items) l.columns) j ++ ask_words (asks_for m.part j (drop l.i l.self.held))
          ≡ column (map (λ v. v.items) l.fn.columns) j ++ ask_words (asks_for m.part j l.self.held);
    }

abbrev pub decreases-asks : goal.decreases-asks
decreases-asks g l = length l.self.held - l.i
