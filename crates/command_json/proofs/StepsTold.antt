-- What tells a run statement by statement as JSON, or a beginning of it.
use Rattle.std.proofs.Common.{◌≡◌, ◌∙◌, ◌++◌, ◌∷◌, [], ℕ, ℤ, List, append-nil, refl, subst, sym}
use Rattle.std.specs.Prelude.{Result, Ok, Err, IsErrAnd}
use Rattle.pram_model.specs.Layout.{SharedEntry}
use Rattle.text_out.specs.Out.{OutState, StopsIn, with_bytes}
use Rattle.text_out.proofs.Writing.{stops_behind, writes_then}
use Rattle.json_texts.specs.Lines.{IsJson}
use Rattle.json_texts.specs.OutcomeFacts.{outcome_facts}
use Rattle.json_texts.specs.StreamLaws.{json_behind}
use Rattle.json_texts.specs.Streamed.{HasStreamedJson, StopsInFirst, WroteFirstJson, WroteJson}
use Rattle.step_text.specs.Stops.{stop_of}
use Rattle.step_text.specs.declared.failure.StreamFailure.{StreamFailure}
use Rattle.step_text.specs.declared.failure.StreamFailure.TheVariants as failure
use Rattle.write_rules.specs.Verdict.{verdict_of}
use Rattle.write_rules.specs.declared.outcome.Outcome.{Outcome}
use Rattle.journal.specs.RunEntries.{run_entries}
use Rattle.journal.specs.declared.telling_in_time.Ending.{Ending}
use Rattle.program_texts.specs.declared.from_text.Refusal.TheVariants as refusal
use Rattle.program_texts.specs.declared.status.Status.{Status}
use Rattle.program_texts.specs.declared.stop.Stop.{Stop}
use Rattle.program_texts.specs.declared.stop.Stop.TheVariants as stop
use Rattle.diagnoses.specs.Sources.{text_in}
use Rattle.serde_json.specs.Data.{Data}
use Rattle.json_texts.specs.StepFacts.{steps_from}
use Rattle.journal.specs.Entries.{Entry}
use Rattle.command_facts.specs.declared.found.FoundSteps.{FoundSteps}
use Rattle.command_facts.specs.Found.{EndsIn, IsOutcomeOf, cut_at, entries_of}
use Rattle.command_facts.specs.Written.{Wrote}
use Rattle.command_facts.proofs.Steps.{all_of_it}
use Rattle.command_json.specs.Stepped.{IsCutBehind, IsToldBehind, IsToldBy, IsToldUpTo, all_behind, first_behind, opening_of}
use Rattle.command_json.specs.Stepped.{BehindLines, InLines, InText, Unbegun}

-- ---- what was streamed, by the values that were handed over

pub streamed_by : (s : FoundSteps) (old new : OutState) (text : List ℕ) (given : List ℤ) (r q : Result Ending StreamFailure) →
    text ≡ text_in s.loaded.source → given ≡ s.input.items → r ≡ q →
    HasStreamedJson old new (steps_from s.loaded.program.layout s.loaded.program.tree text s.words.from s.words.to 1)
    (run_entries s.loaded.program given) s.limit.bound r →
    HasStreamedJson old new (first_behind s []) (run_entries s.loaded.program s.input.items) s.limit.bound q
streamed_by s old new text given r q source same is h =
    let facts : List ℕ → List Entry → List Data =
    λ t. steps_from s.loaded.program.layout s.loaded.program.tree t s.words.from s.words.to 1 in
    subst (λ (i : List ℤ). HasStreamedJson old new (first_behind s []) (run_entries s.loaded.program i) s.limit.bound q) same
    (subst (λ (t : List ℕ). HasStreamedJson old new (facts t) (run_entries s.loaded.program given) s.limit.bound q) source
    (subst (HasStreamedJson old new (facts text) (run_entries s.loaded.program given) s.limit.bound) is h))

module _ (s : FoundSteps) (old : OutState) where
  stopped_in_lines : (new : OutState) → StopsInFirst old new (first_behind s []) (entries_of s) → IsCutBehind s [] old new
      stop.WriteFailed
  stopped_in_lines new w = InLines w.first w.rest w.text w.whole w.json w.stopped

  behind_lines : (new : OutState) → WroteFirstJson old new (first_behind s []) (entries_of s) →
      IsCutBehind s [] old new (stop.Refused refusal.OutOfMemory)
  behind_lines new w = BehindLines w.first w.rest w.text w.whole w.json w.written

  -- a failure on the way
  pub lines_cut : (new : OutState) (f : StreamFailure) (why : Stop) → why ≡ stop_of f →
      HasStreamedJson old new (first_behind s []) (run_entries s.loaded.program s.input.items) s.limit.bound (Err f) →
      (f ≡ failure.InputTooLong → ⊥) → IsCutBehind s [] old new why
  lines_cut new failure.WriteFailed why is h fits = subst (IsCutBehind s [] old new) (sym is) (stopped_in_lines new h)
  lines_cut new failure.OutOfMemory why is h fits = subst (IsCutBehind s [] old new) (sym is) (behind_lines new h)
  lines_cut new failure.InputTooLong why is h fits = absurd (fits refl)

  -- a run that is cut off is told by no outcome
  pub cut_told : (k : ℕ) (new : OutState) (r : Result Ending Stop) (why : Stop) → IsErrAnd r (λ e. e ≡ why) → EndsIn s k →
      IsCutBehind (cut_at s k) [] old new why → IsToldUpTo s [] old new r
  cut_told k new (Ok o) why is ends cut = absurd is
  cut_told k new (Err e) why is ends cut = (k, ends, subst (IsCutBehind (cut_at s k) [] old new) (sym is) cut)

  -- ---- behind all lines

  module _ (mid : OutState) (lines : WroteJson old mid (first_behind s [] (entries_of s))) where
    -- the line of the outcome was not made
    pub unmade : (why : Stop) → why ≡ stop.Refused refusal.OutOfMemory → IsCutBehind s [] old mid why
    unmade why is = subst (IsCutBehind s [] old mid) (sym is)
        (BehindLines (entries_of s) [] lines.text (sym (append-nil (entries_of s))) lines.json lines.written)

    module _ (o : Outcome) (comes : IsOutcomeOf s o) (line : List ℕ)
        (json : IsJson (outcome_facts s.loaded.program.layout (verdict_of o) ∷ []) line) (new : OutState) (ends : Status) where
      joined : IsJson (all_behind s [] o) (lines.text ++ line)
      joined = json_behind (first_behind s [] (entries_of s)) (outcome_facts s.loaded.program.layout (verdict_of o) ∷ []) lines.text line
          lines.json json

      pub told_whole : (given : Status) → Wrote ends line mid new (Ok given) → IsToldBehind s [] old new (Ok o)
      told_whole given w = (comes, (lines.text ++ line, joined, writes_then old mid new lines.text line lines.written w.1))

      pub cut_in_outcome : (why : Stop) → Wrote ends line mid new (Err why) → IsCutBehind s [] old new why
      cut_in_outcome why w = subst (IsCutBehind s [] old new) (sym w.0)
          (InText o (lines.text ++ line) comes joined (stops_behind old mid new lines.text line lines.written w.1))

-- the outcome's facts, by its declarations
pub outcome_as : (s : FoundSteps) (o : Outcome) (layout : List SharedEntry) (line : List ℕ) → layout ≡ s.loaded.program.layout →
    IsJson (outcome_facts layout (verdict_of o) ∷ []) line → IsJson (outcome_facts s.loaded.program.layout (verdict_of o) ∷ []) line
outcome_as s o layout line same json = subst (λ (l : List SharedEntry). IsJson (outcome_facts l (verdict_of o) ∷ []) line) same json

-- ---- behind the line of what the cells hold before the run

module _ (s : FoundSteps) (old mid : OutState) (line : List ℕ) (json : IsJson (opening_of s ∷ []) line)
    (is : mid ≡ with_bytes old line) where
  cut_behind : (new : OutState) {why : Stop} → IsCutBehind s [] mid new why → IsCutBehind s (opening_of s ∷ []) old new why
  cut_behind new (InLines first rest text whole lines stops) =
      InLines first rest (line ++ text) whole (json_behind (opening_of s ∷ []) (first_behind s [] first) line text json lines)
      (stops_behind old mid new line text is stops)
  cut_behind new (InText o text comes all stops) =
      InText o (line ++ text) comes (json_behind (opening_of s ∷ []) (all_behind s [] o) line text json all)
      (stops_behind old mid new line text is stops)
  cut_behind new (BehindLines first rest text whole lines written) =
      BehindLines first rest (line ++ text) whole (json_behind (opening_of s ∷ []) (first_behind s [] first) line text json lines)
      (writes_then old mid new line text is written)
  cut_behind new (Unbegun same) = BehindLines [] (entries_of s) line refl json (same ∙ is)

  whole_behind : (new : OutState) (o : Outcome) → IsToldBehind s [] mid new (Ok o) → IsToldBehind s (opening_of s ∷ []) old new (Ok o)
  whole_behind new o (comes, (text, all, written)) = (
    comes,
    (
      line ++ text,
      json_behind (opening_of s ∷ []) (all_behind s [] o) line text json all,
      writes_then old mid new line text is written,
    ),
  )

pub told_behind : (s : FoundSteps) (old mid : OutState) (line : List ℕ) → IsJson (opening_of s ∷ []) line → mid ≡ with_bytes old line →
    (new : OutState) (r : Result Ending Stop) → IsToldUpTo s [] mid new r → IsToldBy s old new r
told_behind s old mid line json is new (Ok r) told =
    (told.0, whole_behind (cut_at s r.bound) old mid line json is new r.outcome told.1)
told_behind s old mid line json is new (Err why) told = (told.0, told.1, cut_behind (cut_at s told.0) old mid line json is new told.2)

-- that line stopped
pub stopped_in_opening : (s : FoundSteps) (old new : OutState) (line : List ℕ) → IsJson (opening_of s ∷ []) line → StopsIn old new line →
    IsCutBehind s (opening_of s ∷ []) old new stop.WriteFailed
stopped_in_opening s old new line json stops = InLines [] (entries_of s) line refl json stops

-- what is cut off within all statements that it has
pub cut_within : (s : FoundSteps) (before : List Data) (old new : OutState) {why : Stop} → IsCutBehind s before old new why →
    IsCutBehind (cut_at s s.limit.bound) before old new why
cut_within s before old new (InLines first rest text whole lines stops) = InLines first rest text whole lines stops
cut_within s before old new (InText o text comes all stops) = InText o text comes all stops
cut_within s before old new (BehindLines first rest text whole lines written) = BehindLines first rest text whole lines written
cut_within s before old new (Unbegun same) = Unbegun same

-- what tells no outcome
pub not_told : (s : FoundSteps) (old new : OutState) (r : Result Ending Stop) (why : Stop) → IsErrAnd r (λ e. e ≡ why) →
    IsCutBehind s (opening_of s ∷ []) old new why → IsToldBy s old new r
not_told s old new (Ok o) why is cut = absurd is
not_told s old new (Err e) why is cut = (
  s.limit.bound,
  all_of_it s,
  cut_within s (opening_of s ∷ []) old new (subst (IsCutBehind s (opening_of s ∷ []) old new) (sym is) cut),
)
