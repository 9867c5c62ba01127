-- How the steps of a run were written as lines of JSON as it went.
use Rattle.std.specs.Prelude.{◌≡◌, ℕ, List, ◌++◌, Result, Ok, Err}
use Rattle.serde_json.specs.Data.{Data}
use Rattle.json_texts.specs.Lines.{IsJson}
use Rattle.text_out.specs.Out.{OutState, StopsIn, with_bytes}
use Rattle.journal.specs.Entries.{Entry}
use Rattle.journal.specs.declared.telling_in_time.Ending.{Ending}
use Rattle.step_text.specs.declared.failure.StreamFailure.{StreamFailure}
use Rattle.step_text.specs.declared.failure.StreamFailure.TheVariants as failure

-- of the lines of some of the first entries the writer took a beginning, and then it failed
pub record StopsInFirst (old new : OutState) (facts : List Entry → List Data) (es : List Entry) : Type 0 where
  pub first : List Entry
  pub rest : List Entry
  pub whole : es ≡ first ++ rest
  pub text : List ℕ
  pub json : IsJson (facts first) text
  pub stopped : StopsIn old new text

-- just the lines of some of the first entries were taken
pub record WroteFirstJson (old new : OutState) (facts : List Entry → List Data) (es : List Entry) : Type 0 where
  pub first : List Entry
  pub rest : List Entry
  pub whole : es ≡ first ++ rest
  pub text : List ℕ
  pub json : IsJson (facts first) text
  pub written : new ≡ with_bytes old text

-- lines that say these facts were taken
pub record WroteJson (old new : OutState) (facts : List Data) : Type 0 where
  pub text : List ℕ
  pub json : IsJson facts text
  pub written : new ≡ with_bytes old text

-- Of the entries up to the bound at which the run ended all lines that are asked for were taken; or a beginning of those of some first
-- entries, and the writer failed; or where memory was refused those of the statements before; and none where the run was refused.
abbrev pub HasStreamedJson : (old new : OutState) → (facts : List Entry → List Data) → (entries : ℕ → List Entry) → (bound : ℕ) →
    Result Ending StreamFailure → Type 0
HasStreamedJson old new facts entries bound (Ok ending) = WroteJson old new (facts (entries ending.bound))
HasStreamedJson old new facts entries bound (Err failure.WriteFailed) = StopsInFirst old new facts (entries bound)
HasStreamedJson old new facts entries bound (Err failure.OutOfMemory) = WroteFirstJson old new facts (entries bound)
HasStreamedJson old new facts entries bound (Err failure.InputTooLong) = new ≡ old
