-- Names: a letter, then letters, digits and `_`, and no keyword.
use Rattle.std.specs.Prelude.{◌≡◌, ℕ, Bool, true, false, not, ◌&&◌, ◌||◌, ◌==◌, nat_le, List, [], ◌∷◌, codes}

-- A to Z and a to z
abbrev pub is_letter : ℕ → Bool
is_letter b = (nat_le 65 b && nat_le b 90) || (nat_le 97 b && nat_le b 122)

-- 0 to 9
abbrev pub is_digit : ℕ → Bool
is_digit b = nat_le 48 b && nat_le b 57

-- what a name goes on with
abbrev pub is_word : ℕ → Bool
is_word b = is_letter b || is_digit b || b == 95

-- whether two texts are one
abbrev pub same_text : List ℕ → List ℕ → Bool
same_text [] [] = true
same_text (a ∷ x) (b ∷ y) = (a == b) && same_text x y
same_text _ _ = false

-- whether a text is one of these words
abbrev pub is_one_of : List (List ℕ) → List ℕ → Bool
is_one_of [] text = false
is_one_of (word ∷ rest) text = same_text word text || is_one_of rest text

-- the words that are no names
abbrev pub keywords : List (List ℕ)
keywords =
    codes "rule" ∷ codes "procs" ∷ codes "shared" ∷ codes "var" ∷ codes "local" ∷ codes "begin" ∷ codes "end" ∷ codes "for" ∷ codes "to"
    ∷ codes "do"
    ∷ codes "pardo" ∷ codes "while" ∷ codes "if" ∷ codes "then" ∷ codes "else" ∷ codes "print" ∷ codes "and" ∷ codes "or" ∷ codes "not"
    ∷ codes "div"
    ∷ codes "mod" ∷ []

-- whether a text is one of them
abbrev pub is_keyword : List ℕ → Bool
is_keyword = is_one_of keywords

-- the keywords in two parts
abbrev pub early_keywords : List (List ℕ)
early_keywords =
    codes "rule" ∷ codes "procs" ∷ codes "shared" ∷ codes "var" ∷ codes "local" ∷ codes "begin" ∷ codes "end" ∷ codes "for" ∷ codes "to"
    ∷ codes "do" ∷ []

abbrev pub late_keywords : List (List ℕ)
late_keywords =
    codes "pardo" ∷ codes "while" ∷ codes "if" ∷ codes "then" ∷ codes "else" ∷ codes "print" ∷ codes "and" ∷ codes "or" ∷ codes "not"
    ∷ codes "div" ∷ codes "mod" ∷ []

-- letters, digits and `_` alone
abbrev pub are_words : List ℕ → Bool
are_words [] = true
are_words (b ∷ rest) = is_word b && are_words rest

-- whether the first byte is a letter
abbrev pub begins_with_letter : List ℕ → Bool
begins_with_letter [] = false
begins_with_letter (b ∷ rest) = is_letter b

-- whether a text is a name: a letter, then letters, digits and `_`, and no keyword
abbrev pub is_name : List ℕ → Bool
is_name text = begins_with_letter text && (are_words text && not (is_keyword text))

-- a letter, then letters, digits and `_`, and no keyword
pub record IsName (text : List ℕ) : Type 0 where
  pub letter : begins_with_letter text ≡ true
  pub words : are_words text ≡ true
  pub no_keyword : is_keyword text ≡ false
