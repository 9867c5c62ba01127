-- What was written of entries that come one after the other.
use Rattle.std.specs.Prelude.{◌≡◌, ◌+◌, ℕ, List, ◌++◌}
use Rattle.text_out.specs.Printing.{Printing, Prints}
use Rattle.journal.specs.Entries.{Entry}
use Rattle.step_text.specs.Passing.{passed}
use Rattle.step_text.specs.StepText.{line_within, lines_from, told_line}
use Rattle.step_text.specs.declared.asked.Asked.{Asked}

-- the line of the entry behind so many that were counted
abbrev pub line_of : Asked → (count : ℕ) → Entry → List ℕ
line_of a count e = told_line a.layout.now a.telling.now (count + 1) e

-- that, where it is asked for
abbrev pub line_behind : Asked → (count : ℕ) → Entry → List ℕ
line_behind a count e = line_within a.layout.now a.telling.now a.first a.last (count + 1) e

-- the lines of some entries behind so many
abbrev pub lines_behind : Asked → (count : ℕ) → List Entry → List ℕ
lines_behind a count es = lines_from a.layout.now a.telling.now a.first a.last (count + 1) es

-- these entries have passed: they are counted, of just those that are asked for the lines were printed, and the writer is no worse
pub record Streams (a : Asked) (count late : ℕ) (old new : Printing) (es : List Entry) : Type 0 where
  pub counted : late ≡ passed a.last count es
  pub printed : Prints old new (lines_behind a count es)
  pub kept : new.failed ≡ old.failed

-- some of the first entries have passed, and of just these the lines were printed, as far as the writer took them
pub record PrintsFirst (a : Asked) (count : ℕ) (old new : Printing) (es : List Entry) : Type 0 where
  pub first : List Entry
  pub rest : List Entry
  pub whole : es ≡ first ++ rest
  pub printed : Prints old new (lines_behind a count first)
