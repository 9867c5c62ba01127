-- What is written for a send, and for a reply.
use Rattle.std.specs.Prelude.{◌≡◌, ℕ, ◌^◌, ◌<◌, ◌≤◌, List, ◌++◌, length, map, Option, false, ℤ, Vec, slice_index_or}
use Rattle.std.specs.Global.{Global}
use Rattle.std.specs.List.{AllByRecursion}
use Rattle.pram_model.specs.declared.rule.Rule.{Rule}
use Rattle.address_map.specs.Lawful.{Shape}
use Rattle.superstep_machine.specs.declared.key.Key.{Key}
use Rattle.superstep_machine.specs.declared.mark.HeaderMark.TheVariants.{Clear}
use Rattle.superstep_machine.specs.declared.header.MessageHeader.{MessageHeader}
use Rattle.superstep_machine.specs.HeaderWords.{header_words}
use Rattle.superstep_machine.specs.Words.{CellPut, ask_words}
use Rattle.superstep_machine.specs.Fitting.{FitsPut}
use Rattle.combining.specs.AllModules.{column, room_at}
use Rattle.combining.specs.Held.{puts_for, packed_puts, IsPutBelow}
use Rattle.combining.specs.Asked.{HeldAsk, asks_for, IsAskBelow}
use Rattle.combining.specs.Answers.{answers}
use Rattle.worker_exchange.specs.Rows.{WrittenMessage}

-- lists of words, one for each worker
abbrev pub words_of : List (Vec ℕ Global) → List (List ℕ)
words_of = map (λ (v : Vec ℕ Global). v.items)

-- number j of some
abbrev pub count_at : List ℕ → ℕ → ℕ
count_at counts j = slice_index_or counts j 0

-- the words of what is held for module j
abbrev pub send_words : Rule → Shape → List CellPut → List HeldAsk → ℕ → List ℕ
send_words rule m puts asks j = packed_puts rule m.part j puts ++ ask_words (asks_for m.part j asks)

-- What is held fits in words, for cells of the map; and of the lists of words each has room for what goes to its module, in fewer than
-- 2 ^ 32 words.
pub record CanBeWritten (rule : Rule) (m : Shape) (rooms : List ℕ) (puts : List CellPut) (asks : List HeldAsk) : Type 0 where
  pub count : length rooms ≡ m.parts
  pub puts_below : AllByRecursion (IsPutBelow m.count) puts
  pub puts_fit : AllByRecursion (FitsPut rule) puts
  pub asks_below : AllByRecursion (IsAskBelow m.count) asks
  pub short : (j : ℕ) → j < m.parts → length (send_words rule m puts asks j) ≤ room_at rooms j
  pub few : (j : ℕ) → j < m.parts → room_at rooms j < 2 ^ 32

-- The words of each module have been written, and the numbers of the puts among them.
pub record AreWritten (rule : Rule) (m : Shape) (puts : List CellPut) (asks : List HeldAsk) (columns : List (List ℕ))
    (counts : List ℕ) : Type 0 where
  pub words : (j : ℕ) → j < m.parts → column columns j ≡ send_words rule m puts asks j
  pub numbers : (j : ℕ) → j < m.parts → count_at counts j ≡ length (puts_for m.part j puts)

-- a header with a key, and a number of puts
abbrev pub header_with : Option Key → ℕ → MessageHeader
header_with key puts = record { key = key; mark = Clear; active = false; puts = puts }

-- the message of a send to worker j
abbrev pub send_message : Option Key → List (List ℕ) → List ℕ → ℕ → WrittenMessage
send_message key columns counts j = record { header = header_words (header_with key (count_at counts j)); words = column columns j }

-- the message of a reply to worker j: the answers of module w, whose cells have these values, to the words of its asks
abbrev pub reply_message : Option Key → Shape → ℕ → List ℤ → List (List ℕ) → ℕ → WrittenMessage
reply_message key m w values asked j = record { header = header_words (header_with key 0); words = answers m w values (column asked j) }
