-- Messages as they lie in rows and columns.
use Rattle.std.specs.Prelude.{◌≡◌, ℕ, ◌<◌, List, [], length, slice_index_or}
use Rattle.std.specs.List.{sum_by}
use Rattle.pram_model.specs.declared.rule.Rule.{Rule}
use Rattle.superstep_machine.specs.Words.{Message, words}
use Rattle.superstep_machine.specs.HeaderWords.{header_words}
use Rattle.superstep_machine.specs.WordReading.{header_of}

-- a message as words: those of its header, and its own
pub record WrittenMessage : Type 0 where
  pub header : List ℕ
  pub words : List ℕ

-- the words of a message
abbrev pub written : Rule → Message → WrittenMessage
written rule m = record { header = header_words (header_of m); words = words rule m }

-- a message without words, whose header has none either
abbrev pub unwritten : WrittenMessage
unwritten = record { header = []; words = [] }

abbrev pub message_at : List WrittenMessage → ℕ → WrittenMessage
message_at messages j = slice_index_or messages j unwritten

-- how many words these messages have together; their headers aren't counted
abbrev pub words_in : List WrittenMessage → ℕ
words_in = sum_by (λ (m : WrittenMessage). length m.words)

-- a row to p workers, with this message to each
pub record IsRow (p : ℕ) (message : ℕ → WrittenMessage) (row : List WrittenMessage) : Type 0 where
  pub long : length row ≡ p
  pub each : (j : ℕ) → j < p → message_at row j ≡ message j
