-- The facts that stand in a page, read as JSON.
use Rattle.std.specs.Prelude.{◌≡◌, ℕ, ◌-◌, ◌<◌, ◌≤◌, ◌^◌, List, [], ◌∷◌, ◌++◌, Some, codes, drop, length, take}
use Rattle.std.specs.Prelude.{◌&&◌, All, if◌then◌else◌, nat_le, nat_lt}
use Rattle.serde_json.specs.Data.{Data}
use Rattle.serde_json.specs.Read.{read}
use Rattle.json_texts.specs.Facts.{count, list, object_of}
use Rattle.json_texts.specs.Lines.{IsJson, json_line}
use Rattle.json_texts.specs.Small.{IsSmall}
use Rattle.pages.specs.Cut.{IsCut, room}
use Rattle.pages.specs.Facts.{embedded, facts_text, state_room}

-- facts in which no float stands, and that nest at most 126 deep, a level less than a reader takes
abbrev pub AreTold : List Data → Type 0
AreTold = All (IsSmall 126)

-- behind how many lines some are left out, and how many, as a fact
abbrev pub gap_fact : (behind left : ℕ) → Data
gap_fact behind left = object_of ((codes "behind", count behind) ∷ (codes "left_out", count left) ∷ [])

-- the state behind what is left out, as facts, where it stands in the page
abbrev pub states_shown : List Data → (state : List ℕ) → (front back : ℕ) → List Data
states_shown states state front back = if nat_lt front back && nat_le (length (embedded state)) state_room then states else []

-- Of these facts the first `a`, the state, those behind the first `k`, and which are left out: what stands in a page, where the lines
-- before one place and from another on do, is read as that.
pub record IsReadAs (facts states : List Data) (text state : List ℕ) (front back a k : ℕ) : Type 0 where
  pub in_order : a ≤ k
  pub within : k ≤ length facts
  pub reads : read (codes "[" ++ facts_text text state front back)
      ≡ Some (list (take a facts ++ (states_shown states state front back ++ (drop k facts ++ gap_fact a (k - a) ∷ []))))

-- Of lines of facts the first and the last ones stand in the page, as many as have room, and read as JSON they are these facts, with the
-- state between them, and which are left out.
abbrev pub CutFactsAreRead : Type 0
CutFactsAreRead = (facts states : List Data) (text state : List ℕ) (front back : ℕ) → AreTold facts → AreTold states → IsJson facts text →
    IsJson states state → length facts < 2 ^ 64 → IsCut text front back →
    (a : ℕ) × (k : ℕ) × IsReadAs facts states text state front back a k

-- Where all lines have room, it is read as the list of all facts, and none is left out.
abbrev pub FactsAreRead : Type 0
FactsAreRead = (facts states : List Data) (text state : List ℕ) (front back : ℕ) → AreTold facts → AreTold states → IsJson facts text →
    IsJson states state → length facts < 2 ^ 64 → IsCut text front back → length (embedded text) ≤ room →
    (a : ℕ) × (read (codes "[" ++ facts_text text state front back) ≡ Some (list (facts ++ gap_fact a 0 ∷ [])))

-- Where the last line has room, which is that of the outcome, it is among those that stand in the page.
abbrev pub OutcomeIsRead : Type 0
OutcomeIsRead = (before states : List Data) (outcome : Data) (text state : List ℕ) (front back : ℕ) → AreTold (before ++ outcome ∷ []) →
    AreTold states → IsJson (before ++ outcome ∷ []) text → IsJson states state → length (before ++ outcome ∷ []) < 2 ^ 64 →
    IsCut text front back → length (embedded (json_line outcome)) ≤ room →
    (a : ℕ) × (k : ℕ) × IsReadAs (before ++ outcome ∷ []) states text state front back a k × (k ≤ length before)
