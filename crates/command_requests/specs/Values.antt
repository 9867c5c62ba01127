-- Where a word stands as the value of an option, and the option that doesn't take it.
use Rattle.std.specs.Prelude.{◌≡◌, ◌==◌, ℕ, Bool, true, false, nat_lt, List, [], ◌∷◌, ◌++◌, length, Option, Some, None, codes}
use Rattle.std.specs.Prelude.{if◌then◌else◌}
use Rattle.std.specs.List.{after_first, before_first, position_or_len}
use Rattle.pram_model.specs.Names.{is_one_of, same_text}
use Rattle.memory_texts.specs.Chosen.{parts}
use Rattle.command_requests.specs.declared.given.Given.{Given}
use Rattle.command_requests.specs.declared.given.Given.TheVariants as given
use Rattle.command_requests.specs.Options.{Takes, named_in}

-- whether a call is one of `cost`
abbrev pub tells_costs : List (List ℕ) → Bool
tells_costs [] = false
tells_costs (word ∷ words) = same_text word (codes "cost")

-- whether a word is the value of an option, or one of the names that are to be shown or drawn
abbrev pub holds : Given → (value told : List ℕ) → Bool
holds given.Show value told = is_one_of (parts value) told
holds given.Only value told = is_one_of (parts value) told
holds _ value told = same_text value told

-- the option, where it has this value
abbrev pub held_by : Option Given → (value told : List ℕ) → Option Given
held_by None value told = None
held_by (Some g) value told = if holds g value told then Some g else None

abbrev pub is_equals : ℕ → Bool
is_equals b = b == 61

-- the option of a word `--NAME=VALUE`, where it has this value
abbrev pub joined : (costs : Bool) → (word told : List ℕ) → Option Given
joined costs word told =
    if nat_lt (position_or_len is_equals word) (length word)
    then held_by (named_in costs (before_first is_equals word)) (after_first is_equals word) told else None

-- the first of two, if there is one
abbrev pub first_of : Option Given → Option Given → Option Given
first_of None other = other
first_of (Some g) other = Some g

-- the option whose value stands in a word, behind the name of the one before it
abbrev pub value_at : (costs : Bool) → (before : Option Given) → (word told : List ℕ) → Option Given
value_at costs before word told = first_of (held_by before word told) (joined costs word told)

-- that option, unless it takes the word
abbrev pub IsRefusedBy : Option Given → (told : List ℕ) → Option Given → Type 0
IsRefusedBy None told found = found ≡ None
IsRefusedBy (Some g) told None = Takes g told
IsRefusedBy (Some g) told (Some h) = (h ≡ g) × ¬ (Takes g told)

abbrev pub IsFirst : Option Given → (Option Given → Type 0) → Option Given → Type 0
IsFirst None Later found = Later found
IsFirst (Some g) Later found = found ≡ Some g

-- the first such option of the words behind that name
abbrev pub IsWrongBehind : (costs : Bool) → (before : Option Given) → List (List ℕ) → (told : List ℕ) → Option Given → Type 0
IsWrongBehind costs before [] told found = found ≡ None
IsWrongBehind costs before (word ∷ words) told found = (here : Option Given) × IsRefusedBy (value_at costs before word told) told here
    × IsFirst here (IsWrongBehind costs (named_in costs word) words told) found

-- the first option of a call whose value a word is, and that doesn't take it
abbrev pub IsWrong : List (List ℕ) → (told : List ℕ) → Option Given → Type 0
IsWrong words told found = IsWrongBehind (tells_costs words) None words told found

-- ---- what is so of it

-- A word stands as the value of an option: behind its name, or behind the `=` in one word with it.
pub data IsValueOf (costs : Bool) (words : List (List ℕ)) (told : List ℕ) (g : Given) : Type 0 where
  Behind : (front back : List (List ℕ)) (name value : List ℕ) → words ≡ front ++ name ∷ value ∷ back
      → named_in costs name ≡ Some g → holds g value told ≡ true → IsValueOf costs words told g
  Joined : (front back : List (List ℕ)) (name value : List ℕ) → words ≡ front ++ (name ++ 61 ∷ value) ∷ back
      → named_in costs name ≡ Some g → holds g value told ≡ true → IsValueOf costs words told g
