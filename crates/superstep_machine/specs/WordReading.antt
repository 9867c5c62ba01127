-- Reading words back: from a header and the words behind it the message to a module. It takes any words, and passes over those that
-- no worker writes for the module.
use Rattle.std.specs.Prelude.{ℕ, ◌+◌, ◌*◌, ◌^◌, ◌/◌, ◌%◌, List, [], ◌∷◌, map, length, take, drop, Bool, ◌&&◌, Option, Some, None, ℤ, nat_lt}
use Rattle.std.specs.Prelude.{slice_index_or, if◌then◌else◌}
use Rattle.std.specs.List.{filter_map}
use Rattle.std.specs.Int.{w64, w128, cast_signed}
use Rattle.std.proofs.Common.{eqb}
use Rattle.pram_values.specs.Total.{total}
use Rattle.pram_model.specs.declared.rule.Rule.{Rule}
use Rattle.pram_model.specs.declared.rule.Rule.TheVariants.{Sum}
use Rattle.write_rules.specs.declared.entry.Entry.{Entry}
use Rattle.address_map.specs.Lawful.{Shape}
use Rattle.superstep_machine.specs.declared.header.MessageHeader.{MessageHeader}
use Rattle.superstep_machine.specs.Words.{CellPut, CellAsk, Message}
use Rattle.superstep_machine.specs.Sending.{join, entry_in, several, asked_in}
use Rattle.superstep_machine.specs.Run.{Purpose, Sends, Replies}

-- what stands before the words of a message
abbrev pub header_of : Message → MessageHeader
header_of m = record { key = m.key; mark = m.mark; active = m.active; puts = length m.puts }

-- word k, or 0 behind the end
abbrev pub word : List ℕ → ℕ → ℕ
word words k = slice_index_or words k 0

abbrev pub is_set : ℕ → Bool
is_set b = eqb (b % 2) 1

abbrev pub read_value : Rule → List ℕ → ℤ
read_value Sum words = cast_signed w128 (word words 2 + 2 ^ 64 * word words 3)
read_value rule words = cast_signed w64 (word words 2)

-- how many words a put has
abbrev pub put_length : Rule → ℕ
put_length Sum = 4
put_length rule = 3

abbrev pub read_put : Rule → List ℕ → CellPut
read_put rule words = record {
  cell = word words 0 % 2 ^ 20;
  entry = record { owner = cast_signed w64 (word words 1); value = read_value rule words; clash = is_set (word words 0 / 2 ^ 20) };
}

abbrev pub read_ask : ℕ → CellAsk
read_ask x = record { read = x / 2 ^ 20 % 2 ^ 3; cell = x % 2 ^ 20; twice = is_set (x / 2 ^ 23) }

-- words in threes, and in fours; what is too short at the end is left
abbrev pub threes : List ℕ → List (List ℕ)
threes (a ∷ b ∷ c ∷ rest) = (a ∷ b ∷ c ∷ []) ∷ threes rest
threes words = []

abbrev pub fours : List ℕ → List (List ℕ)
fours (a ∷ b ∷ c ∷ d ∷ rest) = (a ∷ b ∷ c ∷ d ∷ []) ∷ fours rest
fours words = []

-- words in groups, each as long as a put
abbrev pub groups : Rule → List ℕ → List (List ℕ)
groups Sum words = fours words
groups rule words = threes words

-- the put that a group of words is, if it is one for module j: its first word is in range, and its cell lies there
abbrev pub put_in : Rule → Shape → ℕ → List ℕ → Option CellPut
put_in rule m j words =
    let x = read_put rule words in
    if nat_lt (word words 0) (2 ^ 21) && nat_lt x.cell m.count && eqb (m.part x.cell) j then Some x else None

abbrev pub puts_in : Rule → Shape → ℕ → List ℕ → List CellPut
puts_in rule m j words = filter_map (put_in rule m j) (groups rule words)

-- the ask that a word is, if it is one for module j
abbrev pub ask_in : Shape → ℕ → ℕ → Option CellAsk
ask_in m j w =
    let x = read_ask w in
    if nat_lt w (2 ^ 24) && nat_lt x.cell m.count && eqb (m.part x.cell) j then Some x else None

abbrev pub asks_in : Shape → ℕ → List ℕ → List CellAsk
asks_in m j words = filter_map (ask_in m j) words

-- ---- messages

-- the words of the puts come first, as many as the header says
abbrev pub put_part : Rule → MessageHeader → List ℕ → List ℕ
put_part rule h words = take (h.puts * put_length rule) words

abbrev pub ask_part : Rule → MessageHeader → List ℕ → List ℕ
ask_part rule h words = drop (h.puts * put_length rule) words

-- the message to module j
abbrev pub read_message : Rule → Shape → ℕ → Purpose → MessageHeader → List ℕ → Message
read_message rule m j Sends h words = record {
  key = h.key;
  mark = h.mark;
  active = h.active;
  puts = puts_in rule m j (put_part rule h words);
  asks = asks_in m j (ask_part rule h words);
  values = [];
}
read_message rule m j Replies h words = record {
  key = h.key;
  mark = h.mark;
  active = h.active;
  puts = [];
  asks = [];
  values =
      map (cast_signed w64) words;
}
read_message rule m j purpose h words = record { key = h.key; mark = h.mark; active = h.active; puts = []; asks = []; values = [] }

-- ---- what the words of some columns come to

-- what the puts of one column come to at a cell, and those of all columns
abbrev pub entry_of_column : Rule → Shape → ℕ → ℕ → List ℕ → Option Entry
entry_of_column rule m j c words = total None (join rule) (entry_in c) (puts_in rule m j words)

abbrev pub entry_read : Rule → Shape → ℕ → List (List ℕ) → ℕ → Option Entry
entry_read rule m j columns c = total None (join rule) (λ words. total None (join rule) (entry_in c) (puts_in rule m j words)) columns

-- how many ask for a cell by read k in one column, and in all: none, one, or two and more
abbrev pub askers_of_column : Shape → ℕ → ℕ → ℕ → List ℕ → Option Bool
askers_of_column m j k c words = total None several (asked_in k c) (asks_in m j words)

abbrev pub askers_read : Shape → ℕ → List (List ℕ) → ℕ → ℕ → Option Bool
askers_read m j columns k c = total None several (λ words. total None several (asked_in k c) (asks_in m j words)) columns
