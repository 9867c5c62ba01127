-- Well-formed XML, as pictures have it. NAME is the same at both ends of an element, and stands in no two attributes of a tag:
--   document  := element "\n"
--   element   := "<" NAME attribute* "/>" | "<" NAME attribute* ">" content "</" NAME ">"
--   attribute := " " NAME "='" value "'"
--   content   := (letter | reference | element)*
--   value     := letter*, and none of them a single quote
use Rattle.std.specs.Prelude.{◌≡◌, ℕ, nat_eq, nat_le, Bool, true, not, ◌&&◌, ◌||◌, List, [], ◌∷◌, ◌++◌, codes}
use Rattle.std.specs.List.{AllByRecursion}

-- ---- letters, names and references

-- a letter of a text: the end of a line, or a printed letter of ASCII that is no `<`, `>` or `&`
abbrev pub is_letter : ℕ → Bool
is_letter b = nat_eq b 10 || ((nat_le 32 b && nat_le b 126) && not (nat_eq b 60 || (nat_eq b 62 || nat_eq b 38)))

-- a letter of a value
abbrev pub is_quoted : ℕ → Bool
is_quoted b = is_letter b && not (nat_eq b 39)

-- what a name begins with: A to Z and a to z
abbrev pub is_first : ℕ → Bool
is_first b = (nat_le 65 b && nat_le b 90) || (nat_le 97 b && nat_le b 122)

-- what it goes on with: such a letter, a digit, `_`, `-` or `:`
abbrev pub is_inner : ℕ → Bool
is_inner b = is_first b || ((nat_le 48 b && nat_le b 57) || (nat_eq b 95 || (nat_eq b 45 || nat_eq b 58)))

pub data IsName : List ℕ → Type 0 where
  first : (b : ℕ) → is_first b ≡ true → IsName (b ∷ [])
  longer : (name : List ℕ) (b : ℕ) → IsName name → is_inner b ≡ true → IsName (name ++ (b ∷ []))

pub data IsReference : List ℕ → Type 0 where
  ampersand : IsReference (codes "&amp;")
  less : IsReference (codes "&lt;")
  greater : IsReference (codes "&gt;")

-- ---- attributes: their names differ from these and from one another

-- a name that is none of these
abbrev pub IsNew : List (List ℕ) → List ℕ → Type 0
IsNew names name = AllByRecursion (λ other. name ≡ other → ⊥) names

pub data AreAttributes : (names : List (List ℕ)) → List ℕ → Type 0 where
  none : {names : List (List ℕ)} → AreAttributes names []
  more : {names : List (List ℕ)} (name value rest : List ℕ) → IsName name → IsNew names name →
      AllByRecursion (λ b. is_quoted b ≡ true) value → AreAttributes (name ∷ names) rest →
      AreAttributes names (codes " " ++ (name ++ (codes "='" ++ (value ++ (codes "'" ++ rest)))))

-- ---- contents and elements

mutual
  pub data IsContent : List ℕ → Type 0 where
    nothing : IsContent []
    letter : (b : ℕ) (rest : List ℕ) → is_letter b ≡ true → IsContent rest → IsContent (b ∷ rest)
    reference : (text rest : List ℕ) → IsReference text → IsContent rest → IsContent (text ++ rest)
    element : (text rest : List ℕ) → IsElement text → IsContent rest → IsContent (text ++ rest)

  pub data IsElement : List ℕ → Type 0 where
    empty : (name attributes : List ℕ) → IsName name → AreAttributes [] attributes →
        IsElement (codes "<" ++ (name ++ (attributes ++ codes "/>")))
    full : (name attributes content : List ℕ) → IsName name → AreAttributes [] attributes → IsContent content →
        IsElement (codes "<" ++ (name ++ (attributes ++ (codes ">" ++ (content ++ (codes "</" ++ (name ++ codes ">")))))))

-- an element and the end of its line
pub record IsDocument (text : List ℕ) : Type 0 where
  pub root : List ℕ
  pub is_element : IsElement root
  pub is : text ≡ root ++ codes "\n"
