-- The facts in the page of a run, read as JSON.
use Rattle.std.specs.Prelude.{◌≡◌, ℕ, ℤ, ◌-◌, ◌<◌, ◌≤◌, ◌^◌, min, nat_lt, List, [], ◌∷◌, ◌++◌, Option, Some, None, codes, if◌then◌else◌}
use Rattle.std.specs.Prelude.{length}
use Rattle.serde_json.specs.Data.{Data}
use Rattle.serde_json.specs.Read.{read}
use Rattle.pram_check.specs.Checked.{Checked}
use Rattle.write_rules.specs.Verdict.{verdict_of}
use Rattle.write_rules.specs.declared.outcome.Outcome.{Outcome}
use Rattle.journal.specs.Entries.{Entry}
use Rattle.journal.specs.RunEntries.{run_entries}
use Rattle.json_texts.specs.Facts.{list}
use Rattle.json_texts.specs.Lines.{json_line}
use Rattle.json_texts.specs.OutcomeFacts.{outcome_facts}
use Rattle.json_texts.specs.StepFacts.{steps_from}
use Rattle.pages.specs.Cut.{gap_end, room}
use Rattle.pages.specs.Facts.{embedded, facts_text}
use Rattle.pages.specs.Opening.{opening_facts}
use Rattle.pages.specs.Page.{page}
use Rattle.pages.specs.Stand.{IsReadAs, gap_fact}
use Rattle.pages.specs.State.{state_facts}
use Rattle.pages.specs.Streamed.{IsPageOfRun}

-- where statements before the first one are left out, the state behind them
abbrev pub before_facts : List ℤ → List Entry → (first : ℕ) → List Data
before_facts input entries first = if nat_lt 1 first then state_facts input entries (first - 1) ∷ [] else []

-- and behind statements in the middle for which there is no room
abbrev pub between_facts : List ℤ → List Entry → Option ℕ → List Data
between_facts input entries None = []
between_facts input entries (Some behind) = state_facts input entries behind ∷ []

-- what is known before the first statement, that state, and the entries from one number to another
abbrev pub told_facts : (file text : List ℕ) → Checked → List ℤ → List Entry → (first last : ℕ) → List Data
told_facts file text program input entries first last =
    opening_facts file text program.tree input (length entries)
    ∷ (before_facts input entries first ++ steps_from program.layout program.tree text first last 1 entries)

-- Of these facts and that of the outcome, behind them, those that stand in a page are read from it, with the state between them and which
-- are left out; all are, where all have room; and the outcome is among them, if it has room.
pub record AreReadBack (before states : List Data) (outcome : Data) (text state : List ℕ) (front back : ℕ) : Type 0 where
  pub some : (a : ℕ) × (k : ℕ) × IsReadAs (before ++ outcome ∷ []) states text state front back a k
  pub whole : length (embedded text) ≤ room →
      (a : ℕ) × (read (codes "[" ++ facts_text text state front back) ≡ Some (list ((before ++ outcome ∷ []) ++ gap_fact a 0 ∷ [])))
  pub ending : length (embedded (json_line outcome)) ≤ room →
      (a : ℕ) × (k : ℕ) × IsReadAs (before ++ outcome ∷ []) states text state front back a k × (k ≤ length before)

-- In a page stand facts of the run, and read as JSON they are these.
pub record ShowsRun (file text : List ℕ) (program : Checked) (input : List ℤ) (outcome : Outcome) (entries : List Entry) (first last : ℕ)
    (shows : List ℕ) : Type 0 where
  pub facts : List ℕ
  pub state : List ℕ
  pub front : ℕ
  pub back : ℕ
  pub is : shows ≡ page facts state front back
  pub read_back : AreReadBack (told_facts file text program input entries first last)
      (between_facts input entries (gap_end facts front back (min last (length entries))))
      (outcome_facts program.layout (verdict_of outcome)) facts state front back

-- The page of a run within a bound of 32 bits, read as JSON, has the facts of this run.
abbrev pub PageOfRunIsRead : Type 0
PageOfRunIsRead = (file text : List ℕ) (program : Checked) (input : List ℤ) (bound first last : ℕ) (outcome : Outcome) (shows : List ℕ) →
    bound < 2 ^ 32 → IsPageOfRun file text program input bound first last outcome shows →
    ShowsRun file text program input outcome (run_entries program input bound) first last shows
