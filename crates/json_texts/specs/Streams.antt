-- What was written of entries that come one after the other.
use Rattle.std.specs.Prelude.{◌≡◌, ◌⊎◌, ◌+◌, ℕ, List, [], ◌++◌}
use Rattle.serde_json.specs.Data.{Data}
use Rattle.json_texts.specs.Lines.{IsJson}
use Rattle.json_texts.specs.StepFacts.{step_facts, step_within, steps_from}
use Rattle.text_out.specs.Printing.{Printing, Prints}
use Rattle.journal.specs.Entries.{Entry}
use Rattle.step_text.specs.Passing.{passed}
use Rattle.json_texts.specs.declared.asked.Asked.{Asked}

-- the facts of the entry behind so many that were counted
abbrev pub facts_of : Asked → (count : ℕ) → Entry → Data
facts_of a count e = step_facts a.layout.now a.tree.now a.source.now (count + 1) e

-- those, where they are asked for
abbrev pub facts_if : Asked → (count : ℕ) → Entry → List Data
facts_if a count e = step_within a.layout.now a.tree.now a.source.now a.first a.last (count + 1) e

-- those of some entries behind so many
abbrev pub facts_behind : Asked → (count : ℕ) → List Entry → List Data
facts_behind a count es = steps_from a.layout.now a.tree.now a.source.now a.first a.last (count + 1) es

-- lines that say these facts were printed, as far as the writer took them
pub record PrintsJson (old new : Printing) (facts : List Data) : Type 0 where
  pub text : List ℕ
  pub json : IsJson facts text
  pub printed : Prints old new text

-- these entries have passed: they are counted, of just those that are asked for the lines were printed, and the writer is no worse
pub record Streams (a : Asked) (count late : ℕ) (old new : Printing) (es : List Entry) : Type 0 where
  pub counted : late ≡ passed a.last count es
  pub prints : PrintsJson old new (facts_behind a count es)
  pub kept : new.failed ≡ old.failed

-- The telling broke off at this entry: nothing of its line was printed, which could not be made or before which the writer failed; or the
-- writer failed in it.
abbrev pub Breaks : Asked → (count : ℕ) → (old new : Printing) → Entry → Type 0
Breaks a count old new e = Prints old new [] ⊎ PrintsJson old new (facts_if a count e)

-- some of the first entries have passed, and of just these the lines were printed, as far as the writer took them
pub record PrintsFirst (a : Asked) (count : ℕ) (old new : Printing) (es : List Entry) : Type 0 where
  pub first : List Entry
  pub rest : List Entry
  pub whole : es ≡ first ++ rest
  pub prints : PrintsJson old new (facts_behind a count first)
