-- A header as four words of 64 bits, and the header that any four words are.
use Rattle.std.specs.Prelude.{◌≡◌, ℕ, zero, suc, ◌+◌, ◌*◌, ◌^◌, ◌/◌, ◌%◌, ◌<◌, List, [], ◌∷◌, Bool, false, Option, Some, None, FitsSigned}
use Rattle.std.specs.Prelude.{◌==◌, if◌then◌else◌}
use Rattle.std.specs.Int.{w64, cast_signed, cast_unsigned}
use Rattle.pram_values.specs.declared.kind.Kind.{Kind}
use Rattle.pram_values.specs.declared.kind.Kind.TheVariants.{Overflow, DivideByZero, OutOfRange, TooWide, ReadConflict, WriteConflict}
use Rattle.pram_values.specs.declared.place.Place.{Place}
use Rattle.pram_values.specs.declared.place.Place.TheVariants.{All, Processor, Cell}
use Rattle.superstep_machine.specs.declared.header.MessageHeader.{MessageHeader}
use Rattle.superstep_machine.specs.declared.key.Key.{Key}
use Rattle.superstep_machine.specs.declared.mark.HeaderMark.{HeaderMark}
use Rattle.superstep_machine.specs.declared.mark.HeaderMark.TheVariants.{Clear, OutOfMemory, OutOfReserve}
use Rattle.superstep_machine.specs.Keys.{rank}
use Rattle.superstep_machine.specs.Words.{bit}
use Rattle.superstep_machine.specs.WordReading.{word}

-- ---- numbers, and what they mean

abbrev pub kind_numbered : ℕ → Kind
kind_numbered zero = Overflow
kind_numbered (suc zero) = DivideByZero
kind_numbered (suc (suc zero)) = OutOfRange
kind_numbered (suc (suc (suc zero))) = TooWide
kind_numbered (suc (suc (suc (suc zero)))) = ReadConflict
kind_numbered (suc (suc (suc (suc (suc n))))) = WriteConflict

abbrev pub place_class : Place → ℕ
place_class All = 0
place_class (Processor i) = 1
place_class (Cell c) = 2

-- a processor's index in two's complement, or a cell
abbrev pub place_number : Place → ℕ
place_number All = 0
place_number (Processor i) = cast_unsigned w64 i
place_number (Cell c) = c

abbrev pub place_numbered : ℕ → ℕ → Place
place_numbered zero n = All
place_numbered (suc zero) n = Processor (cast_signed w64 n)
place_numbered (suc (suc class)) n = Cell (n % 2 ^ 32)

abbrev pub mark_number : HeaderMark → ℕ
mark_number Clear = 0
mark_number OutOfMemory = 1
mark_number OutOfReserve = 2

-- both marks at once are refused memory
abbrev pub mark_numbered : ℕ → HeaderMark
mark_numbered zero = Clear
mark_numbered (suc zero) = OutOfMemory
mark_numbered (suc (suc zero)) = OutOfReserve
mark_numbered (suc (suc (suc n))) = OutOfMemory

-- ---- the words

-- the count and the position
abbrev pub moment_word : Option Key → ℕ
moment_word None = 0
moment_word (Some key) = key.count + 2 ^ 32 * key.position

abbrev pub place_word : Option Key → ℕ
place_word None = 0
place_word (Some key) = place_number key.place

abbrev pub line_of : Option Key → ℕ
line_of None = 0
line_of (Some key) = key.line

-- whether there is a key, whether it is a conflict, its kind, and what its place is
abbrev pub key_bits : Option Key → ℕ
key_bits None = 0
key_bits (Some key) = 1 + 2 * bit key.conflict + 4 * rank key.kind + 32 * place_class key.place

-- The moment; the place; the line and the number of put cells; and the bits of the key, two of the mark, and one of a vote.
abbrev pub header_words : MessageHeader → List ℕ
header_words h =
    moment_word h.key
    ∷ place_word h.key
    ∷ (line_of h.key + 2 ^ 32 * h.puts)
    ∷ (key_bits h.key + 128 * mark_number h.mark + 512 * bit h.active)
    ∷ []

-- ---- reading them

abbrev pub is_odd : ℕ → Bool
is_odd n = n % 2 == 1

abbrev pub read_key : List ℕ → Key
read_key words = record {
  count = word words 0 % 2 ^ 32;
  position = word words 0 / 2 ^ 32;
  conflict = is_odd (word words 3 / 2);
  place = place_numbered (word words 3 / 32 % 4) (word words 1);
  kind = kind_numbered (word words 3 / 4 % 8);
  line = word words 2 % 2 ^ 32;
}

abbrev pub read_header : List ℕ → MessageHeader
read_header words = record {
  key = if is_odd (word words 3) then Some (read_key words) else None;
  mark = mark_numbered (word words 3 / 128 % 4);
  active = is_odd (word words 3 / 512);
  puts = word words 2 / 2 ^ 32;
}

-- ---- which headers there can be

abbrev pub FitsPlace : Place → Type 0
FitsPlace All = Unit {0}
FitsPlace (Processor i) = FitsSigned w64 i
FitsPlace (Cell c) = c < 2 ^ 32

pub record FitsKey (key : Key) : Type 0 where
  pub count : key.count < 2 ^ 32
  pub position : key.position < 2 ^ 32
  pub place : FitsPlace key.place
  pub line : key.line < 2 ^ 32

-- a header is given back by its words
abbrev pub HeadersAreGivenBack : Type 0
HeadersAreGivenBack = (h : MessageHeader) → ((key : Key) → h.key ≡ Some key → FitsKey key) → read_header (header_words h) ≡ h

-- a header that says nothing
abbrev pub blank_header : MessageHeader
blank_header = record { key = None; mark = Clear; active = false; puts = 0 }
