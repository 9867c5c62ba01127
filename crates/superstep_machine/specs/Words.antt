-- The messages of the workers, and the words that they have.
use Rattle.std.specs.Prelude.{ℕ, ◌+◌, ◌*◌, ◌^◌, ◌/◌, ◌%◌, List, [], ◌∷◌, ◌++◌, Bool, true, false, Option, None, ℤ}
use Rattle.std.specs.List.{flat_map}
use Rattle.std.specs.Int.{w64, w128, cast_unsigned}
use Rattle.pram_model.specs.declared.rule.Rule.{Rule}
use Rattle.pram_model.specs.declared.rule.Rule.TheVariants.{Sum}
use Rattle.write_rules.specs.declared.entry.Entry.{Entry}
use Rattle.superstep_machine.specs.declared.key.Key.{Key}
use Rattle.superstep_machine.specs.declared.mark.HeaderMark.{HeaderMark}
use Rattle.superstep_machine.specs.declared.mark.HeaderMark.TheVariants.{Clear}

-- what the processors of a worker put to a cell
pub record CellPut : Type 0 where
  pub cell : ℕ
  pub entry : Entry

-- a cell that processors of a worker ask for by a read, the reads that are held being numbered from 0, and whether they are two or more
pub record CellAsk : Type 0 where
  pub read : ℕ
  pub cell : ℕ
  pub twice : Bool

-- A message from a worker to a module. Its header has the least key that the worker noted, a mark where it was refused memory or
-- came past its reserve, and at a vote whether it has an active processor; the rest is words.
pub record Message : Type 0 where
  pub key : Option Key
  pub mark : HeaderMark
  pub active : Bool
  pub puts : List CellPut
  pub asks : List CellAsk
  pub values : List ℤ

-- a message without words, and with nothing in its header
abbrev pub blank : Message
blank = record { key = None; mark = Clear; active = false; puts = []; asks = []; values = [] }

-- ---- the words

abbrev pub bit : Bool → ℕ
bit false = 0
bit true = 1

-- a value in 64 bits, and the low and the high 64 bits of a sum of 128, each in two's complement
abbrev pub word_of : ℤ → ℕ
word_of z = cast_unsigned w64 z

abbrev pub low_word : ℤ → ℕ
low_word z = cast_unsigned w128 z % 2 ^ 64

abbrev pub high_word : ℤ → ℕ
high_word z = cast_unsigned w128 z / 2 ^ 64

-- the words of a value: two for a sum, else one
abbrev pub value_words : Rule → ℤ → List ℕ
value_words Sum z = low_word z ∷ high_word z ∷ []
value_words rule z = word_of z ∷ []

-- a cell with the mark of a conflict, the least writer, and the value
abbrev pub put_words : Rule → CellPut → List ℕ
put_words rule x = (x.cell + 2 ^ 20 * bit x.entry.clash) ∷ word_of x.entry.owner ∷ value_words rule x.entry.value

-- a cell, the number of the read, and the mark of two or more
abbrev pub ask_word : CellAsk → ℕ
ask_word x = x.cell + 2 ^ 20 * x.read + 2 ^ 23 * bit x.twice

abbrev pub ask_words : List CellAsk → List ℕ
ask_words [] = []
ask_words (x ∷ xs) = ask_word x ∷ ask_words xs

abbrev pub values_words : List ℤ → List ℕ
values_words [] = []
values_words (z ∷ zs) = word_of z ∷ values_words zs

-- the puts come first, then the asks; values come alone
abbrev pub words : Rule → Message → List ℕ
words rule m = flat_map (put_words rule) m.puts ++ (ask_words m.asks ++ values_words m.values)
