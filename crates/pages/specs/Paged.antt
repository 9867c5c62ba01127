-- The facts of a run as they are kept, and what stands in its page.
use Rattle.std.specs.Prelude.{◌≤◌, ◌+◌, ℕ, ℤ, List, None, Option, Some, length, min, string_bytes, ⊤}
use Rattle.pram_check.specs.Checked.{Checked}
use Rattle.write_rules.specs.declared.outcome.Outcome.{Outcome}
use Rattle.journal.specs.Entries.{Entry}
use Rattle.pages.specs.Cut.{IsCut, gap_end}
use Rattle.pages.specs.Kept.{Holds}
use Rattle.pages.specs.declared.lines.KeptLines.{KeptLines}
use Rattle.pages.specs.declared.streaming.Page.{Page}
use Rattle.pages.specs.Pages.{AreFacts, IsStateBehind}

-- the facts of a run, of which these lines are kept
pub record KeepsFacts (file text : List ℕ) (program : Checked) (input : List ℤ) (outcome : Outcome) (entries : List Entry)
    (first last : ℕ) (lines : KeptLines) : Type 0 where
  pub facts : List ℕ
  pub are : AreFacts file text program input outcome entries first last facts
  pub holds : Holds lines facts

-- which of them stand in the page, with the state behind those that are left out
pub record IsPaged (file text : List ℕ) (program : Checked) (input : List ℤ) (outcome : Outcome) (entries : List Entry) (first last : ℕ)
    (p : Page) : Type 0 where
  pub keeps : KeepsFacts file text program input outcome entries first last p.lines
  pub cut : IsCut keeps.facts p.kept.front (keeps.holds.offset + p.kept.back)
  pub front_within : p.kept.front ≤ length p.lines.first.items
  pub back_within : p.kept.back ≤ length p.lines.last.items
  pub between : IsStateBehind input entries
      (gap_end keeps.facts p.kept.front (keeps.holds.offset + p.kept.back) (min last (length entries))) (string_bytes p.state)

-- a number that is at most that one, if there is one
abbrev pub IsWithin : Option ℕ → (most : ℕ) → Type 0
IsWithin None most = ⊤
IsWithin (Some n) most = n ≤ most
