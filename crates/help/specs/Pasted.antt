-- Signs beyond ASCII that are pasted into a text, by their bytes in UTF-8, and what is written in their place.
use Rattle.std.specs.Prelude.{ℕ, ◌+◌, ◌==◌, ◌&&◌, ◌||◌, if◌then◌else◌, List, codes, Option, Some, None, slice_index}
use Rattle.help.specs.declared.pasted.Pasted.{Pasted}
use Rattle.help.specs.declared.pasted.Pasted.TheVariants as sign

abbrev pub pasted_text : Pasted → List ℕ
pasted_text sign.AtMost = codes "this sign is no ASCII: write \"<=\""
pasted_text sign.AtLeast = codes "this sign is no ASCII: write \">=\""
pasted_text sign.Unequal = codes "this sign is no ASCII: write \"<>\""
pasted_text sign.Times = codes "this sign is no ASCII: write \"*\""
pasted_text sign.Minus = codes "this sign is no ASCII: write \"-\""
pasted_text sign.Divided = codes "this sign is no ASCII: write \"div\""
pasted_text sign.Becomes = codes "this sign is no ASCII: write \":=\""
pasted_text sign.And = codes "this sign is no ASCII: write \"and\""
pasted_text sign.Or = codes "this sign is no ASCII: write \"or\""
pasted_text sign.Not = codes "this sign is no ASCII: write \"not\""
pasted_text sign.Quote = codes "this is a curly quotation mark: a program has no texts, and a comment takes the plain marks ' and \""
pasted_text sign.Space = codes "this is a no-break space: write a plain space"
pasted_text sign.ByteOrder = codes "this is a byte order mark: save the file without it, as UTF-8 without BOM"
pasted_text sign.Wide = codes "this file is in UTF-16: save it as UTF-8 without BOM"

-- behind 194: U+00A0, U+00AC and U+00B7
abbrev pub behind_194 : ℕ → Option Pasted
behind_194 b =
    if b == 160 then Some sign.Space
    else (if b == 172 then Some sign.Not else (if b == 183 then Some sign.Times else None))

-- behind 195: U+00D7 and U+00F7
abbrev pub behind_195 : ℕ → Option Pasted
behind_195 b = if b == 151 then Some sign.Times else (if b == 183 then Some sign.Divided else None)

-- behind 226 and 128: U+2013, U+2014, U+2018, U+2019, U+201C, U+201D and U+202F
abbrev pub behind_226_128 : ℕ → Option Pasted
behind_226_128 c =
    if c == 147 || c == 148 then Some sign.Minus
    else (if (c == 152 || c == 153) || (c == 156 || c == 157) then Some sign.Quote else (if c == 175 then Some sign.Space else None))

-- behind 226 and 136: U+2212, U+2227 and U+2228
abbrev pub behind_226_136 : ℕ → Option Pasted
behind_226_136 c =
    if c == 146 then Some sign.Minus
    else (if c == 167 then Some sign.And else (if c == 168 then Some sign.Or else None))

-- behind 226 and 137: U+2260, U+2264 and U+2265
abbrev pub behind_226_137 : ℕ → Option Pasted
behind_226_137 c =
    if c == 160 then Some sign.Unequal
    else (if c == 164 then Some sign.AtMost else (if c == 165 then Some sign.AtLeast else None))

-- behind 226 too: U+2190 and U+22C5
abbrev pub behind_226 : (second third : ℕ) → Option Pasted
behind_226 b c =
    if b == 128 then behind_226_128 c
    else (if b == 136 then behind_226_136 c
    else (if b == 137 then behind_226_137 c
    else (if b == 134 && c == 144 then Some sign.Becomes else (if b == 139 && c == 133 then Some sign.Times else None))))

-- the marks of byte order, U+FEFF and its bytes in UTF-16
abbrev pub byte_order : (first second third : ℕ) → Option Pasted
byte_order a b c =
    if a == 239 && (b == 187 && c == 191) then Some sign.ByteOrder
    else (if (a == 255 && b == 254) || (a == 254 && b == 255) then Some sign.Wide else None)

-- a sign by its first three bytes
abbrev pub sign_of : (first second third : ℕ) → Option Pasted
sign_of a b c =
    if a == 194 then behind_194 b
    else (if a == 195 then behind_195 b else (if a == 226 then behind_226 b c else byte_order a b c))

-- the sign that begins at a place of a text
abbrev pub pasted_at : (text : List ℕ) → (at : ℕ) → Option Pasted
pasted_at text at = sign_of (slice_index text at) (slice_index text (at + 1)) (slice_index text (at + 2))
