-- The page of a run that is told statement by statement.
use Rattle.std.specs.Prelude.{◌≡◌, ℕ, ◌-◌, min, nat_lt, Bool, ℤ, List, [], ◌∷◌, ◌++◌, Option, Some, None, true, false, length}
use Rattle.pram_check.specs.Checked.{Checked}
use Rattle.write_rules.specs.Verdict.{verdict_of}
use Rattle.write_rules.specs.declared.outcome.Outcome.{Outcome}
use Rattle.journal.specs.Entries.{Entry}
use Rattle.json_texts.specs.Lines.{IsJson}
use Rattle.json_texts.specs.StepFacts.{steps_facts}
use Rattle.pages.specs.Cut.{IsCut, gap_end}
use Rattle.pages.specs.State.{state_facts}
use Rattle.pages.specs.Opening.{opening_facts}
use Rattle.pages.specs.Page.{page}

-- where statements before the first one are left out, the state behind them
abbrev pub IsStateIf : (asked : Bool) → List ℤ → List Entry → (first : ℕ) → List ℕ → Type 0
IsStateIf true input entries first line = IsJson (state_facts input entries (first - 1) ∷ []) line
IsStateIf false input entries first line = line ≡ []

-- and behind statements in the middle for which there is no room
abbrev pub IsStateBehind : List ℤ → List Entry → Option ℕ → List ℕ → Type 0
IsStateBehind input entries None line = line ≡ []
IsStateBehind input entries (Some behind) line = IsJson (state_facts input entries behind ∷ []) line

-- the facts of the statements from one number to another: the line of what is known before the first statement of the run, with the file's
-- name; the state behind those that are left out before them; and those of the entries and of the outcome
pub record AreFacts (file text : List ℕ) (program : Checked) (input : List ℤ) (outcome : Outcome) (entries : List Entry) (first last : ℕ)
    (facts : List ℕ) : Type 0 where
  pub opening : List ℕ
  pub opens : IsJson (opening_facts file text program.tree input (length entries) ∷ []) opening
  pub before : List ℕ
  pub stands : IsStateIf (nat_lt 1 first) input entries first before
  pub lines : List ℕ
  pub tells : IsJson (steps_facts program.layout program.tree text (verdict_of outcome) entries first last) lines
  pub joined : facts ≡ (opening ++ before) ++ lines

-- A page of such facts. Where they have no room, some lines in the middle are left out, and the state behind these stands there.
pub record IsPage (file text : List ℕ) (program : Checked) (input : List ℤ) (outcome : Outcome) (entries : List Entry) (first last : ℕ)
    (shows : List ℕ) : Type 0 where
  pub facts : List ℕ
  pub are : AreFacts file text program input outcome entries first last facts
  pub front : ℕ
  pub back : ℕ
  pub cut : IsCut facts front back
  pub state : List ℕ
  pub between : IsStateBehind input entries (gap_end facts front back (min last (length entries))) state
  pub is : shows ≡ page facts state front back
