-- How a run that is told statement by statement is told as it goes.
use Rattle.std.specs.Prelude.{◌≡◌, ℕ, List, Result, Ok, Err}
use Rattle.text_out.specs.Out.{OutState, StopsIn, with_bytes}
use Rattle.write_rules.specs.declared.outcome.Outcome.{Outcome}
use Rattle.diagnoses.specs.Sources.{text_in}
use Rattle.program_texts.specs.declared.from_text.Refusal.TheVariants as refusal
use Rattle.program_texts.specs.declared.stop.Stop.{Stop}
use Rattle.program_texts.specs.declared.stop.Stop.TheVariants as stop
use Rattle.journal.specs.Entries.{Entry}
use Rattle.step_text.specs.Streamed.{WroteFirst}
use Rattle.step_text.specs.StepText.{steps_text}
use Rattle.step_text.specs.declared.telling.Telling.{Telling}
use Rattle.command_requests.specs.declared.form.Form.TheVariants as form
use Rattle.command_facts.specs.declared.found.FoundRun.{FoundRun}
use Rattle.command_facts.specs.declared.found.FoundSteps.{FoundSteps}
use Rattle.journal.specs.declared.telling_in_time.Ending.{Ending}
use Rattle.command_facts.specs.Found.{EndsIn, IsOutcomeOf, cut_at, entries_of, with_outcome}
use Rattle.command_text.specs.declared.terminal.Terminal.{Terminal}
use Rattle.command_text.specs.Steps.{IsTelling}
use Rattle.command_text.specs.Texts.{AreStepsText, IsPageOf}

-- the text of a run that came to this, in the form that is asked for
abbrev pub IsToldText : Terminal → FoundSteps → Outcome → List ℕ → Type 0
IsToldText on s o text = AreStepsText s.words.form on s.words (with_outcome s o) (entries_of s) text

-- ---- in words

-- so its statements are told on these streams
abbrev pub IsTellingOf : Terminal → FoundSteps → Telling → Type 0
IsTellingOf on s telling =
    IsTelling on s.words s.loaded.source.bytes.items (text_in s.loaded.source) s.loaded.program telling

-- of statements those between the numbers that are asked for, a line each
abbrev pub lines_of : FoundSteps → Telling → List Entry → List ℕ
lines_of s telling entries = steps_text s.loaded.program.layout telling s.words.from s.words.to entries

-- the writer took a beginning of these lines and failed; or memory was refused, and it has those of some of the first statements, whole
abbrev pub IsCutIn : FoundSteps → Telling → (old new : OutState) → Stop → Type 0
IsCutIn s telling old new stop.WriteFailed = StopsIn old new (lines_of s telling (entries_of s))
IsCutIn s telling old new (stop.Refused refusal.OutOfMemory) = WroteFirst old new (lines_of s telling) (entries_of s)
IsCutIn s telling old new _ = ⊥

-- ---- as a page

-- a page of the run was taken
abbrev pub IsPageTaken : FoundSteps → (old new : OutState) → Outcome → Type 0
IsPageTaken s old new o =
    (shows : List ℕ) × IsPageOf s.words (with_outcome s o) (entries_of s) shows × (new ≡ with_bytes old shows)

-- ---- what stands on standard output

-- where the run is not told to its end: in words a beginning of its lines; or a beginning of its whole text, behind which the writer
-- failed; or nothing, where memory was refused
pub data IsCutOff (on : Terminal) (s : FoundSteps) (old new : OutState) : Stop → Type 0 where
  InLines : (why : Stop) (telling : Telling) → s.words.form ≡ form.Words → IsTellingOf on s telling → IsCutIn s telling old new why →
      IsCutOff on s old new why
  InText : (o : Outcome) (text : List ℕ) → IsOutcomeOf s o → IsToldText on s o text → StopsIn old new text →
      IsCutOff on s old new stop.WriteFailed
  Untold : new ≡ old → IsCutOff on s old new (stop.Refused refusal.OutOfMemory)

-- and where it is, its text
abbrev pub IsToldBy : Terminal → FoundSteps → (old new : OutState) → Result Outcome Stop → Type 0
IsToldBy on s old new (Ok o) = IsOutcomeOf s o × ((text : List ℕ) × IsToldText on s o text × (new ≡ with_bytes old text))
IsToldBy on s old new (Err why) = IsCutOff on s old new why

-- so it is; and the run comes back with what it came to
abbrev pub IsToldRun : Terminal → FoundSteps → (old new : OutState) → Result FoundRun Stop → Type 0
IsToldRun on s old new (Ok run) = (run ≡ with_outcome s run.outcome) × IsToldBy on s old new (Ok run.outcome)
IsToldRun on s old new (Err why) = IsCutOff on s old new why

-- ---- in time

-- it ends behind so many statements, up to which it is cut off
abbrev pub IsCutUpTo : Terminal → FoundSteps → (old new : OutState) → Stop → Type 0
IsCutUpTo on s old new why = (k : ℕ) × EndsIn s k × IsCutOff on (cut_at s k) old new why

-- or up to which it is told
abbrev pub IsToldUpTo : Terminal → FoundSteps → (old new : OutState) → Result Ending Stop → Type 0
IsToldUpTo on s old new (Ok r) = EndsIn s r.bound × IsToldBy on (cut_at s r.bound) old new (Ok r.outcome)
IsToldUpTo on s old new (Err why) = IsCutUpTo on s old new why

-- and the run comes back with what it came to there
abbrev pub IsToldInTime : Terminal → FoundSteps → (old new : OutState) → Result FoundRun Stop → Type 0
IsToldInTime on s old new r = (k : ℕ) × EndsIn s k × IsToldRun on (cut_at s k) old new r
