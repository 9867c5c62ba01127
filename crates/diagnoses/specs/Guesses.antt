-- Names that are said to be meant.
use Rattle.std.specs.Prelude.{◌≡◌, ℕ, ◌≤◌, true, false, List, ◌∷◌, ◌++◌}
use Rattle.std.specs.List.{All}
use Rattle.pram_names.specs.declared.fault.Spot.{Spot}
use Rattle.pram_names.specs.declared.fault.Spot.TheVariants as spot
use Rattle.pram_tokens.specs.Scanning.{cut_of}
use Rattle.pram_trees.specs.Program.{ProgramTree}
use Rattle.help.specs.InScope.{Known, names_at}
use Rattle.help.specs.Nearness.{edits, is_near}
use Rattle.diagnoses.specs.Fitting.{fits, is_inside}
use Rattle.diagnoses.specs.Places.{token_at}
use Rattle.diagnoses.specs.Remarks.{Remark, Nothing, Undeclared}

-- One of the names that are in scope at that offset, near enough to the word there, and of a sort that may stand there; and none of those
-- is nearer.
pub record IsGuess (text : List ℕ) (at : ℕ) (names : List Known) (name : List ℕ) : Type 0 where
  pub front : List Known
  pub known : Known
  pub rest : List Known
  pub among : names ≡ front ++ known ∷ rest
  pub named : known.name ≡ name
  pub near : is_near (token_at text at) known ≡ true
  pub stands : fits (cut_of text) at (is_inside names) known ≡ true
  pub nearest : All (λ k. fits (cut_of text) at (is_inside names) k ≡ true → is_near (token_at text at) k ≡ true →
      edits (token_at text at) name ≤ edits (token_at text at) k.name) names

-- at that place of a program's text
abbrev pub IsGuessAt : (text : List ℕ) → ProgramTree → Spot → (name : List ℕ) → Type 0
IsGuessAt text tree spot.TextEnd name = ⊥
IsGuessAt text tree (spot.Offset at) name = IsGuess text at (names_at tree at) name

-- no name is said to be meant, nor a pardo in which it holds
abbrev pub IsSilent : Remark → Type 0
IsSilent Nothing = Unit {0}
IsSilent (Undeclared role inside) = Unit {0}
IsSilent _ = ⊥

-- none of the names that are in scope at that offset may stand there and is near enough
abbrev pub HasNoGuess : (text : List ℕ) → (at : ℕ) → List Known → Type 0
HasNoGuess text at names = All (λ k. fits (cut_of text) at (is_inside names) k ≡ true → is_near (token_at text at) k ≡ false) names

abbrev pub HasNoGuessAt : (text : List ℕ) → ProgramTree → Spot → Type 0
HasNoGuessAt text tree spot.TextEnd = Unit {0}
HasNoGuessAt text tree (spot.Offset at) = HasNoGuess text at (names_at tree at)
