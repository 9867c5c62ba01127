-- How the name of a file, or a word of a command line, is shown on one line.
use Rattle.std.specs.Prelude.{◌≡◌, ℕ, ◌==◌, ◌||◌, ◌&&◌, ◌+◌, ◌-◌, Bool, false, if◌then◌else◌, nat_le, nat_lt, ◌/◌, ◌%◌}
use Rattle.std.specs.Prelude.{List, [], ◌∷◌, ◌++◌, codes, ⊤}

-- the controls of ASCII: U+0000 to U+001F and U+007F
abbrev pub is_control : ℕ → Bool
is_control b = nat_lt b 32 || (b == 127)

abbrev pub is_from_to : (low high b : ℕ) → Bool
is_from_to low high b = nat_le low b && nat_le b high

-- two bytes in UTF-8 of another control, U+0080 to U+009F, or of U+061C, which turns the direction of text
abbrev pub is_pair : (a b : ℕ) → Bool
is_pair a b = (is_from_to 128 159 b && (a == 194)) || ((b == 156) && (a == 216))

abbrev pub is_triple_end : (b c : ℕ) → Bool
is_triple_end b c = ((b == 128) && (is_from_to 142 143 c || is_from_to 168 174 c)) || ((b == 129) && is_from_to 166 169 c)

-- three bytes in UTF-8 of what ends a line or a paragraph, U+2028 and U+2029, or turns the direction of text: U+200E, U+200F, U+202A to
-- U+202E and U+2066 to U+2069
abbrev pub is_triple : (a b c : ℕ) → Bool
is_triple a b c = (a == 226) && is_triple_end b c

abbrev pub begins_control : List ℕ → Bool
begins_control [] = false
begins_control (a ∷ rest) = is_control a

abbrev pub begins_pair : List ℕ → Bool
begins_pair [] = false
begins_pair (a ∷ []) = false
begins_pair (a ∷ b ∷ rest) = is_pair a b

abbrev pub begins_triple : List ℕ → Bool
begins_triple [] = false
begins_triple (a ∷ []) = false
begins_triple (a ∷ b ∷ []) = false
begins_triple (a ∷ b ∷ c ∷ rest) = is_triple a b c

-- How many bytes the first character of a text has, if it is a control (Cc), a separator of lines or paragraphs (Zl, Zp) or turns the
-- direction of text (Bidi_Control), so that it ends a line or steers what shows it; 0 if it is none of these.
abbrev pub steering : List ℕ → ℕ
steering text =
    if begins_control text then 1
    else if begins_pair text then 2
    else if begins_triple text then 3
    else 0

-- a digit to the base 16
abbrev pub hex_digit : ℕ → ℕ
hex_digit d = if nat_lt d 10 then 48 + d else 87 + d

abbrev pub hex : ℕ → List ℕ
hex b = hex_digit (b / 16 % 16) ∷ hex_digit (b % 16) ∷ []

-- the end of a line as `\n`, another byte by its number, as `\x1b`
abbrev pub numbered : ℕ → List ℕ
numbered b = if b == 10 then codes "\\n" else codes "\\x" ++ hex b

-- how many bytes of a text are written by their numbers, where so many were left of the character before
abbrev pub pending : ℕ → List ℕ → ℕ
pending left text = if left == 0 then steering text else left

abbrev pub byte_text : (count b : ℕ) → List ℕ
byte_text count b = if count == 0 then b ∷ [] else numbered b

-- the bytes of such a character by their numbers, and all others as they are
abbrev pub escaped_from : ℕ → List ℕ → List ℕ
escaped_from left [] = []
escaped_from left (b ∷ bs) =
    let count = pending left (b ∷ bs) in
    byte_text count b ++ escaped_from (count - 1) bs

abbrev pub escaped : List ℕ → List ℕ
escaped = escaped_from 0

-- no character of the text is one of these
abbrev pub HasNoControl : List ℕ → Type 0
HasNoControl [] = ⊤
HasNoControl (b ∷ bs) = (steering (b ∷ bs) ≡ 0) × HasNoControl bs
