-- How the steps of a run were written as it went.
use Rattle.std.specs.Prelude.{◌≡◌, ℕ, List, ◌++◌, Result, Ok, Err}
use Rattle.text_out.specs.Out.{OutState, StopsIn, with_bytes}
use Rattle.journal.specs.Entries.{Entry}
use Rattle.journal.specs.declared.telling_in_time.Ending.{Ending}
use Rattle.step_text.specs.declared.failure.StreamFailure.{StreamFailure}
use Rattle.step_text.specs.declared.failure.StreamFailure.TheVariants as failure

-- just the lines of some of the first entries were taken
pub record WroteFirst (old new : OutState) (text : List Entry → List ℕ) (es : List Entry) : Type 0 where
  pub first : List Entry
  pub rest : List Entry
  pub whole : es ≡ first ++ rest
  pub written : new ≡ with_bytes old (text first)

-- Of the entries up to the bound at which the run ended all lines that are asked for were taken; or a beginning of those within the bound
-- that is asked for, and the writer failed; or where memory was refused those of the statements before; and none where the run was refused.
abbrev pub HasStreamed : (old new : OutState) → (text : List Entry → List ℕ) → (entries : ℕ → List Entry) → (bound : ℕ) →
    Result Ending StreamFailure → Type 0
HasStreamed old new text entries bound (Ok ending) = new ≡ with_bytes old (text (entries ending.bound))
HasStreamed old new text entries bound (Err failure.WriteFailed) = StopsIn old new (text (entries bound))
HasStreamed old new text entries bound (Err failure.OutOfMemory) = WroteFirst old new text (entries bound)
HasStreamed old new text entries bound (Err failure.InputTooLong) = new ≡ old
