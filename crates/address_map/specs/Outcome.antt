-- When a map can be made, and which fault comes otherwise.
use Rattle.std.specs.Prelude.{◌≡◌, ℕ, ◌^◌, ◌≤◌, ◌%◌, List, length}
use Rattle.std.specs.List.{AllByRecursion}
use Rattle.address_map.specs.declared.fault.MapFault.{MapFault}
use Rattle.address_map.specs.declared.fault.MapFault.TheVariants.{BadWorkers, BadMap}

-- 1 to 32 modules
abbrev pub IsWorkers : ℕ → Type 0
IsWorkers p = (1 ≤ p) × (p ≤ 32)

-- a power of two up to 2 ^ 20
abbrev pub IsCells : ℕ → Type 0
IsCells k = (e : ℕ) × (e ≤ 20) × (k ≡ 2 ^ e)

-- an odd number
abbrev pub IsOdd : ℕ → Type 0
IsOdd a = a % 2 ≡ 1

-- an odd multiplier, and a shift from 1 to 31
abbrev pub IsRound : ℕ × ℕ → Type 0
IsRound (a, s) = IsOdd a × (1 ≤ s) × (s ≤ 31)

-- at most eight rounds
abbrev pub AreRounds : List (ℕ × ℕ) → Type 0
AreRounds given = (length given ≤ 8) × AllByRecursion IsRound given

-- the workers are judged first, and then whether the rest is good
unfoldable pub IsFault : Type 0 → ℕ → MapFault → Type 0
IsFault good p BadWorkers = ¬ (IsWorkers p)
IsFault good p BadMap = IsWorkers p × ¬ good
