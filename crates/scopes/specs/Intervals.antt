-- Intervals as words: `LO..HI`.
use Rattle.std.specs.Prelude.{◌≡◌, ℕ, ◌==◌, ℤ, ◌≤ℤ◌, List, [], ◌∷◌, ◌++◌, Option, Some, None, codes, if◌then◌else◌}
use Rattle.pram_tokens.specs.Input.{number_of}

-- `LO..HI`, where LO and HI are those numbers
pub record IsInterval (word : List ℕ) (low high : ℤ) : Type 0 where
  pub first : List ℕ
  pub second : List ℕ
  pub spelled : word ≡ first ++ (codes ".." ++ second)
  pub low_is : number_of first ≡ Some low
  pub high_is : number_of second ≡ Some high
  pub ordered : low ≤ℤ high

-- what stands behind a dot at the front
abbrev pub behind_dot : List ℕ → Option (List ℕ)
behind_dot [] = None
behind_dot (b ∷ rest) = if b == 46 then Some rest else None
