-- Sizes by their first and their greatest one: `4..64*2`, `10..50+10`.
use Rattle.std.specs.Prelude.{◌≡◌, ℕ, ◌+◌, ◌*◌, ◌<◌, ◌≤◌, ◌==◌, nat_le, Bool, true, ◌&&◌, if◌then◌else◌, List, [], ◌∷◌, ◌++◌, codes}
use Rattle.std.specs.Prelude.{Option, Some, None}
use Rattle.sized_texts.specs.declared.size_range.Growth.{Growth}
use Rattle.sized_texts.specs.declared.size_range.Growth.TheVariants.{Times, Plus}
use Rattle.sized_texts.specs.declared.size_range.Range.{Range}
use Rattle.sized_texts.specs.SizeWords.{digits_value, name_of, rest_of}

-- the size behind another one
abbrev pub next : Growth → ℕ → ℕ
next (Times factor) n = n * factor
next (Plus step) n = n + step

-- `*F`, where F is at least 2, or `+S`, where S is at least 1
abbrev pub IsGrowth : List ℕ → Growth → Type 0
IsGrowth text (Times factor) = (digits : List ℕ) × (text ≡ 42 ∷ digits) × (digits_value digits ≡ Some factor) × (2 ≤ factor)
IsGrowth text (Plus step) = (digits : List ℕ) × (text ≡ 43 ∷ digits) × (digits_value digits ≡ Some step) × (1 ≤ step)

-- multiplied is what is not 0
abbrev pub Begins : Growth → ℕ → Type 0
Begins (Times factor) first = 1 ≤ first
Begins (Plus step) first = Unit {0}

-- `A..B*F` or `A..B+S`, where A is at most B
pub record IsRange (text : List ℕ) (range : Range) : Type 0 where
  pub first : List ℕ
  pub last : List ℕ
  pub growth : List ℕ
  pub spelled : text ≡ first ++ (codes ".." ++ (last ++ growth))
  pub first_is : digits_value first ≡ Some range.first
  pub last_is : digits_value last ≡ Some range.last
  pub grows : IsGrowth growth range.growth
  pub ordered : range.first ≤ range.last
  pub begins : Begins range.growth range.first

-- sizes one behind the other from that one on, as long as they are at most the last
abbrev pub Goes : (Growth) → (last at : ℕ) → List ℕ → Type 0
Goes growth last at [] = last < at
Goes growth last at (size ∷ sizes) = (size ≡ at) × (at ≤ last) × Goes growth last (next growth at) sizes

-- the sizes of a range
abbrev pub IsProgression : Range → List ℕ → Type 0
IsProgression range sizes = Goes range.growth range.last range.first sizes

-- ---- a range as it is read

abbrev pub behind_dots : List ℕ → Option (List ℕ)
behind_dots (b ∷ c ∷ rest) = if (b == 46) && (c == 46) then Some rest else None
behind_dots _ = None

abbrev pub times : Option ℕ → Option Growth
times None = None
times (Some factor) = if nat_le 2 factor then Some (Times factor) else None

abbrev pub plus : Option ℕ → Option Growth
plus None = None
plus (Some step) = if nat_le 1 step then Some (Plus step) else None

abbrev pub growth_of : List ℕ → Option Growth
growth_of [] = None
growth_of (sign ∷ digits) = if sign == 42 then times (digits_value digits) else (if sign == 43 then plus (digits_value digits) else None)

abbrev pub begins : Growth → ℕ → Bool
begins (Times factor) first = nat_le 1 first
begins (Plus step) first = true

abbrev pub range_by : (first last : Option ℕ) → Option Growth → Option Range
range_by (Some first) (Some last) (Some growth) =
    if nat_le first last && begins growth first then Some (record { first = first; last = last; growth = growth }) else None
range_by _ _ _ = None

abbrev pub range_from : (first : List ℕ) → Option (List ℕ) → Option Range
range_from first None = None
range_from first (Some more) = range_by (digits_value first) (digits_value (name_of more)) (growth_of (rest_of more))

abbrev pub range_of : List ℕ → Option Range
range_of text = range_from (name_of text) (behind_dots (rest_of text))
