-- The writes of a row of processors, one after the other.
use Rattle.std.specs.Prelude.{ℕ, ℤ, List, map, Option}
use Rattle.std.specs.List.{filter_map, range_with_len}
use Rattle.superstep_machine.specs.Worker.{HeldWrite, by_processor}

-- those that there are of the first ones: of each the number of its processor, and its cell and value
abbrev pub first_writes : (ℕ → ℤ) → (ℕ → Option (ℕ × ℤ)) → ℕ → List HeldWrite
first_writes processor written n = filter_map (λ w. w) (map (λ j. by_processor (processor j) (written j)) (range_with_len 0 n))
