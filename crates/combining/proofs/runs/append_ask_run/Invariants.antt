use Rattle.std.proofs.Common.{◌≡◌, ◌++◌, ℕ, drop, vec_capacity}
use Rattle.combining.specs.Held.{paired}
use Rattle.combining.specs.Asked.{ask_at}
use Rattle.combining.proofs.Packing.{packed}
use Rattle.combining.proofs.Asking.{words_of, is_for}
use Rattle.combining.proofs.runs.append_ask_run.Given as goal

abbrev pub invariant-asks : goal.invariant-asks
invariant-asks g l =
    let at = (g.M.AddressMap.shape l.map).part in
    let held = paired ask_at l.keys l.asked.items in
    record {
      room : vec_capacity l.list ≡ vec_capacity l.fn.list;
      got : l.list.items ++ packed words_of (is_for at l.home) (drop l.i held)
          ≡ l.fn.list.items ++ packed words_of (is_for at l.home) (drop l.from held);
      others : (j : ℕ) → (l.home ≡ j → ⊥) → packed words_of (is_for at j) (drop l.i held) ≡ packed words_of (is_for at j)
          (drop l.from held);
    }
