-- What a sweep goes over, as a word of a command line: `NAME=SIZES`.
use Rattle.std.specs.Prelude.{◌≡◌, ◌⊎◌, ℕ, ◌<◌, ◌≤◌, ◌==◌, Bool, false, true, List, [], ◌∷◌, ◌++◌, length, map, Option, Some, None}
use Rattle.std.specs.List.{slice_split}
use Rattle.std.specs.Global.{Vec}
use Rattle.pram_model.specs.Names.{are_words}
use Rattle.sized_texts.specs.declared.size_range.Range.{Range}
use Rattle.sized_texts.specs.declared.sweep.Sweep.{Sweep}
use Rattle.sized_texts.specs.SizeRanges.{IsProgression, IsRange}
use Rattle.sized_texts.specs.SizeWords.{digits_value}

-- the parts of a text, between its commas
abbrev pub parts : List ℕ → List (List ℕ)
parts = slice_split (λ b. b == 44)

-- `4,8,16`: the parts are these numbers
abbrev pub AreListed : (text sizes : List ℕ) → Type 0
AreListed text sizes = map digits_value (parts text) ≡ map Some sizes

-- the sizes of a text: a list, or those of a range
abbrev pub AreSizes : (text sizes : List ℕ) → Type 0
AreSizes text sizes = AreListed text sizes ⊎ ((range : Range) × IsRange text range × IsProgression range sizes)

-- no sweep has more sizes
abbrev pub most : ℕ
most = 1000

-- A word is that of a sweep: its name, which has letters, digits and `_` alone, one at least, then `=`, then its sizes, 1,000 at most.
pub record IsSweepWord (word name sizes : List ℕ) : Type 0 where
  pub text : List ℕ
  pub parts : word ≡ name ++ 61 ∷ text
  pub named : 0 < length name
  pub words : are_words name ≡ true
  pub sized : AreSizes text sizes
  pub few : length sizes ≤ most

-- the sweep whose word it is, or that it is the word of no sweep
abbrev pub IsSweepOf : List ℕ → Option Sweep → Type 0
IsSweepOf word (Some sweep) = IsSweepWord word sweep.name sweep.sizes.items
IsSweepOf word None = (name sizes : List ℕ) → ¬ (IsSweepWord word name sizes)

-- those sizes, 1,000 at most, or that there are none so few
abbrev pub IsOf : (List ℕ → Type 0) → Option (Vec ℕ) → Type 0
IsOf Are (Some sizes) = Are sizes.items × (length sizes.items ≤ most)
IsOf Are None = (sizes : List ℕ) → Are sizes → most < length sizes

abbrev pub AreSizesOf : List ℕ → Option (Vec ℕ) → Type 0
AreSizesOf text = IsOf (AreSizes text)

-- whether a text is letters, digits and `_` alone, one at least
abbrev pub are_some_words : List ℕ → Bool
are_some_words [] = false
are_some_words (b ∷ rest) = are_words (b ∷ rest)
