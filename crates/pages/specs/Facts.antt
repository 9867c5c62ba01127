-- Lines of facts as they stand in a page, as one list of JSON.
use Rattle.std.specs.Prelude.{◌≡◌, ℕ, zero, suc, ◌+◌, ◌-◌, ◌==◌, if◌then◌else◌, List, [], ◌∷◌, ◌++◌, codes, decimal, drop, length}
use Rattle.std.specs.Prelude.{◌&&◌, nat_le, nat_lt, slice_index, take}

-- A byte of facts. A `<`, which stands in texts alone, is written by its number, so that no tag begins there; and what ends a line parts it
-- from the next.
abbrev pub embedded_byte : ℕ → List ℕ
embedded_byte b = if b == 60 then codes "\\u003c" else (if b == 10 then codes "," else b ∷ [])

abbrev pub embedded : List ℕ → List ℕ
embedded [] = []
embedded (b ∷ bs) = embedded_byte b ++ embedded bs

-- how many bytes that has
abbrev pub width : ℕ → ℕ
width b = length (embedded_byte b)

-- how many lines end in a text
abbrev pub line_end : ℕ → ℕ
line_end b = if b == 10 then 1 else 0

abbrev pub line_count : List ℕ → ℕ
line_count [] = 0
line_count (b ∷ bs) = line_end b + line_count bs

-- what stands behind the facts: behind how many lines some are left out, and how many
abbrev pub gap_text : (behind left : ℕ) → List ℕ
gap_text behind left = codes "{\"behind\":" ++ (decimal behind ++ (codes ",\"left_out\":" ++ (decimal left ++ codes "}]")))

abbrev pub last_text : (last : List ℕ) → (behind left : ℕ) → List ℕ
last_text last behind left = embedded last ++ gap_text behind left

abbrev pub behind_text : (state last : List ℕ) → (behind left : ℕ) → List ℕ
behind_text state last behind left = embedded state ++ last_text last behind left

abbrev pub both_text : (first state last : List ℕ) → (left : ℕ) → List ℕ
both_text first state last left = embedded first ++ behind_text state last (line_count first) left

-- the most bytes that the state behind lines that are left out has
abbrev pub state_room : ℕ
state_room = 256000

-- that state, where some are and it has room
abbrev pub state_shown : (state : List ℕ) → (front back : ℕ) → List ℕ
state_shown state front back = if nat_lt front back && nat_le (length (embedded state)) state_room then state else []

-- the facts before one place and from another on, the state behind those between, and how many of the lines between are left out
abbrev pub facts_text : (facts state : List ℕ) → (front back : ℕ) → List ℕ
facts_text facts state front back =
    both_text (take front facts) (state_shown state front back) (drop back facts)
    (line_count (drop front facts) - line_count (drop back facts))

-- whether a line begins at a place of a text, or the text ends with one there
abbrev pub BeginsLine : List ℕ → ℕ → Type 0
BeginsLine text zero = Unit {0}
BeginsLine text (suc at) = slice_index text at ≡ 10

-- no byte of the text is a `<`
abbrev pub HasNoTag : List ℕ → Type 0
HasNoTag [] = Unit {0}
HasNoTag (b ∷ bs) = (b ≡ 60 → ⊥) × HasNoTag bs
