use Rattle.std.proofs.Common.{◌≡◌, ℕ, ◌≤◌, ◌<◌, true, false, length}
use Rattle.std.specs.Prelude.{slice_index_or}
use Rattle.abstract_runs.proofs.apart.mark.Given as goal

-- the cells gone over had no mark and have one, and no other has changed
abbrev pub invariant-loop-c : goal.invariant-loop-c
invariant-loop-c l =
    (length l.marks.items ≡ length l.fn.marks.items) ×
    ((d : ℕ) → l.fn.reach.least ≤ d → d < l.c → slice_index_or l.fn.marks.items d false ≡ false)
    × ((d : ℕ) → l.fn.reach.least ≤ d → d < l.c → slice_index_or l.marks.items d false ≡ true)
    × ((d : ℕ) → l.c ≤ d → slice_index_or l.marks.items d false ≡ slice_index_or l.fn.marks.items d false)
    × ((d : ℕ) → slice_index_or l.fn.marks.items d false ≡ true → slice_index_or l.marks.items d false ≡ true)
