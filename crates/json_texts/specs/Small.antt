-- Facts that are written and read without loss: no float, and at most so many levels of nesting.
use Rattle.std.specs.Prelude.{◌≡◌, ◌≤◌, ℕ, false}
use Rattle.serde_json.specs.Data.{Data, depth}
use Rattle.serde_json.specs.Read.{max_depth}
use Rattle.serde_json.specs.Written.{has_float}

pub record IsSmall (n : ℕ) (d : Data) : Type 0 where
  pub nests : depth d ≤ n
  pub no_float : has_float d ≡ false

-- what the reader takes
abbrev pub IsReadable : Data → Type 0
IsReadable = IsSmall max_depth
