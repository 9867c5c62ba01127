-- Which words ask for the version, for an explanation, for JSON and for the lines of editors, and why a command line is refused.
use Rattle.std.specs.Prelude.{◌≡◌, ◌⊎◌, ℕ, Bool, false, ◌||◌, ◌&&◌, List, [], ◌∷◌, codes}
use Rattle.std.specs.List.{list_any}
use Rattle.pram_model.specs.Names.{same_text}
use Rattle.program_texts.specs.declared.from_text.Refusal.TheVariants as refusal
use Rattle.program_texts.specs.declared.stop.Stop.{Stop}
use Rattle.program_texts.specs.declared.stop.Stop.TheVariants as stop

abbrev pub IsVersionWord : List ℕ → Type 0
IsVersionWord word = (word ≡ codes "--version") ⊎ (word ≡ codes "-V")

-- one such word, and no other
abbrev pub AsksForVersion : List (List ℕ) → Type 0
AsksForVersion [] = ⊥
AsksForVersion (word ∷ []) = IsVersionWord word
AsksForVersion (word ∷ other ∷ words) = ⊥

-- one of the words asks that what is refused, and a fault, be explained
abbrev pub asks_to_explain : List (List ℕ) → Bool
asks_to_explain words = list_any (same_text (codes "--explain")) words

abbrev pub begins_with : (name : List ℕ) → List (List ℕ) → Bool
begins_with name [] = false
begins_with name (word ∷ words) = same_text name word

-- the name of a format stands behind `--format`, or one of the words is both
abbrev pub asks_for : (name both : List ℕ) → List (List ℕ) → Bool
asks_for name both [] = false
asks_for name both (word ∷ words) =
    same_text both word || ((same_text (codes "--format") word && begins_with name words) || asks_for name both words)

-- `json` stands behind `--format`, or one of the words is `--format=json`
abbrev pub asks_for_json : List (List ℕ) → Bool
asks_for_json = asks_for (codes "json") (codes "--format=json")

-- `gnu` stands behind `--format`, or one of the words is `--format=gnu`
abbrev pub asks_for_gnu : List (List ℕ) → Bool
asks_for_gnu = asks_for (codes "gnu") (codes "--format=gnu")

-- in the words of the parser of command lines, by the word that is wrong, or for want of memory
abbrev pub IsOfWords : Stop → Type 0
IsOfWords (stop.Words text) = Unit {0}
IsOfWords (stop.Number word) = Unit {0}
IsOfWords (stop.Refused why) = why ≡ refusal.OutOfMemory
IsOfWords _ = ⊥
