-- Sets of terms as numbers.
use Rattle.std.specs.Prelude.{ℕ, ◌+◌, ◌/◌, ◌%◌, ◌^◌}

-- 1 where the column is chosen, and else 0
abbrev pub chosen : (set column : ℕ) → ℕ
chosen set column = set / 2 ^ column % 2

abbrev pub chosen_count : ℕ → ℕ
chosen_count set = chosen set 0 + chosen set 1 + chosen set 2 + chosen set 3 + chosen set 4 + chosen set 5
