-- How a run that is told statement by statement is told as JSON as it goes.
use Rattle.std.specs.Prelude.{◌≡◌, ℕ, List, [], ◌∷◌, ◌++◌, Result, Ok, Err}
use Rattle.serde_json.specs.Data.{Data}
use Rattle.json_texts.specs.Lines.{IsJson}
use Rattle.text_out.specs.Out.{OutState, StopsIn, with_bytes}
use Rattle.write_rules.specs.Verdict.{verdict_of}
use Rattle.write_rules.specs.declared.outcome.Outcome.{Outcome}
use Rattle.journal.specs.Entries.{Entry}
use Rattle.program_texts.specs.declared.from_text.Refusal.TheVariants as refusal
use Rattle.program_texts.specs.declared.stop.Stop.{Stop}
use Rattle.program_texts.specs.declared.stop.Stop.TheVariants as stop
use Rattle.diagnoses.specs.Sources.{text_in}
use Rattle.command_facts.specs.declared.found.FoundSteps.{FoundSteps}
use Rattle.journal.specs.declared.telling_in_time.Ending.{Ending}
use Rattle.command_facts.specs.Found.{EndsIn, IsOutcomeOf, cut_at, entries_of}
use Rattle.pram_meaning.specs.Outcome.{opening}
use Rattle.json_texts.specs.OutcomeFacts.{opening_facts}
use Rattle.json_texts.specs.StepFacts.{steps_facts, steps_from}

-- what the cells hold before the first statement
abbrev pub opening_of : FoundSteps → Data
opening_of s = opening_facts s.loaded.program.layout (opening s.loaded.program s.input.items).cells

-- behind these facts those of some first statements that are asked for
abbrev pub first_behind : FoundSteps → (before : List Data) → List Entry → List Data
first_behind s before first =
    before ++ steps_from s.loaded.program.layout s.loaded.program.tree (text_in s.loaded.source) s.words.from s.words.to 1 first

-- behind them those of all that are asked for, and of what the run comes to
abbrev pub all_behind : FoundSteps → (before : List Data) → Outcome → List Data
all_behind s before o =
    before ++ steps_facts s.loaded.program.layout s.loaded.program.tree (text_in s.loaded.source) (verdict_of o) (entries_of s)
    s.words.from s.words.to

-- what stands on standard output where the run is not told to its end: a beginning of the lines of some of its first statements, or of all
-- of its text, behind which the writer failed; or where memory was refused the lines of some of its first statements, whole, or nothing
pub data IsCutBehind (s : FoundSteps) (before : List Data) (old new : OutState) : Stop → Type 0 where
  InLines : (first rest : List Entry) (text : List ℕ) → entries_of s ≡ first ++ rest → IsJson (first_behind s before first) text →
      StopsIn old new text → IsCutBehind s before old new stop.WriteFailed
  InText : (o : Outcome) (text : List ℕ) → IsOutcomeOf s o → IsJson (all_behind s before o) text → StopsIn old new text →
      IsCutBehind s before old new stop.WriteFailed
  BehindLines : (first rest : List Entry) (text : List ℕ) → entries_of s ≡ first ++ rest → IsJson (first_behind s before first) text →
      new ≡ with_bytes old text → IsCutBehind s before old new (stop.Refused refusal.OutOfMemory)
  Unbegun : new ≡ old → IsCutBehind s before old new (stop.Refused refusal.OutOfMemory)

-- and where it is, all of it
abbrev pub IsToldBehind : FoundSteps → (before : List Data) → (old new : OutState) → Result Outcome Stop → Type 0
IsToldBehind s before old new (Ok o) =
    IsOutcomeOf s o × ((text : List ℕ) × IsJson (all_behind s before o) text × (new ≡ with_bytes old text))
IsToldBehind s before old new (Err why) = IsCutBehind s before old new why

-- so it is up to where it ends
abbrev pub IsToldUpTo : FoundSteps → (before : List Data) → (old new : OutState) → Result Ending Stop → Type 0
IsToldUpTo s before old new (Ok r) = EndsIn s r.bound × IsToldBehind (cut_at s r.bound) before old new (Ok r.outcome)
IsToldUpTo s before old new (Err why) = (k : ℕ) × EndsIn s k × IsCutBehind (cut_at s k) before old new why

-- ---- a run, told so behind what its cells hold before it

abbrev pub all_facts : FoundSteps → Outcome → List Data
all_facts s o = all_behind s (opening_of s ∷ []) o

abbrev pub IsCutOff : FoundSteps → (old new : OutState) → Stop → Type 0
IsCutOff s old new why = IsCutBehind s (opening_of s ∷ []) old new why

abbrev pub IsToldBy : FoundSteps → (old new : OutState) → Result Ending Stop → Type 0
IsToldBy s old new r = IsToldUpTo s (opening_of s ∷ []) old new r
