-- Which token is missing: the one kind with which, in between, the program goes on farthest.
use Rattle.std.specs.Prelude.{◌≡◌, ◌⊎◌, ◌+◌, ◌<◌, ◌≤◌, ℕ, List, ◌∷◌, ◌++◌, Option, Some, None, length, take}
use Rattle.std.specs.List.{AllByRecursion, Contains}
use Rattle.pram_tokens.specs.declared.token.Token.{Token}
use Rattle.pram_trees.specs.Program.{Begins, limit}
use Rattle.help.specs.Kinds.{sample}
use Rattle.help.specs.declared.choice.Choice.{Choice}

-- A program within the limits of nesting begins with the first k of these tokens, and none with one more.
pub record Reaches (ts : List Token) (k : ℕ) : Type 0 where
  pub within : k ≤ length ts
  pub begins : Begins limit limit (take k ts)
  pub ends : k < length ts → Begins limit limit (take (k + 1) ts) → ⊥

-- with a token of that kind between these and those, a program begins with the first k
abbrev pub GoesOn : (front rest : List Token) → Choice → ℕ → Type 0
GoesOn front rest c k = Reaches (front ++ sample c ∷ rest) k

-- with fewer
abbrev pub GoesOnLess : (front rest : List Token) → ℕ → Choice → Type 0
GoesOnLess front rest k c = (m : ℕ) × GoesOn front rest c m × (m < k)

-- Of some kinds that could stand there, a token of this one is missing: with it the program goes on for one token behind it at least, and
-- farther than with any other of them.
pub record IsMissing (front rest : List Token) (found : List Choice) (c : Choice) : Type 0 where
  pub among : Contains found c
  pub reach : ℕ
  pub goes_on : GoesOn front rest c reach
  pub some : length front + 1 < reach
  pub farthest : AllByRecursion (λ d. (d ≡ c) ⊎ GoesOnLess front rest reach d) found

-- the kind of which a token is missing, and none only where none is missing
abbrev pub IsWhatIsMissing : (front rest : List Token) → List Choice → Option Choice → Type 0
IsWhatIsMissing front rest found (Some c) = IsMissing front rest found c
IsWhatIsMissing front rest found None = (c : Choice) → IsMissing front rest found c → ⊥
