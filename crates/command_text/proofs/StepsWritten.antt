-- What tells a run statement by statement is the text that is asked for, or a beginning of it.
use Rattle.std.proofs.Common.{◌≡◌, ◌∙◌, ◌++◌, ℕ, ℤ, List, ap, refl, subst, sym}
use Rattle.std.specs.Prelude.{Option, Result, Ok, Err, IsErrAnd}
use Rattle.pram_model.specs.Layout.{SharedEntry}
use Rattle.text_out.specs.Out.{OutState, StopsIn, with_bytes}
use Rattle.text_out.proofs.Writing.{stops_behind, writes_then}
use Rattle.write_rules.specs.Verdict.{verdict_of}
use Rattle.write_rules.specs.declared.outcome.Outcome.{Outcome}
use Rattle.journal.specs.RunEntries.{run_entries}
use Rattle.journal.specs.declared.telling_in_time.Ending.{Ending}
use Rattle.step_text.specs.Stops.{stop_of}
use Rattle.step_text.specs.Streamed.{HasStreamed}
use Rattle.step_text.specs.declared.failure.StreamFailure.{StreamFailure}
use Rattle.step_text.specs.declared.failure.StreamFailure.TheVariants as failure
use Rattle.pages.specs.Streamed.{HasStreamedPage, IsPageOfRun}
use Rattle.pictures.specs.declared.flows.spans.CellSpan.{CellSpan}
use Rattle.pictures.specs.Flows.Streamed.{HasStreamedFlow, flow_of_run}
use Rattle.pictures.specs.Steps.Streamed.{HasStreamedExcerpt, excerpt_of_run}
use Rattle.pictures.specs.Streamed.{HasDrawn}
use Rattle.diagnoses.specs.Sources.{text_in}
use Rattle.step_text.specs.declared.telling.Telling.{Telling}
use Rattle.program_texts.specs.Shown.{shown}
use Rattle.program_texts.specs.Status.{status_of}
use Rattle.program_texts.specs.declared.from_text.Refusal.TheVariants as refusal
use Rattle.program_texts.specs.declared.status.Status.{Status}
use Rattle.program_texts.specs.declared.stop.Stop.{Stop}
use Rattle.program_texts.specs.declared.stop.Stop.TheVariants as stop
use Rattle.command_requests.specs.declared.form.Form.{Form}
use Rattle.command_requests.specs.declared.form.Form.TheVariants as form
use Rattle.command_facts.specs.declared.found.Found.TheVariants as found
use Rattle.command_facts.specs.declared.found.FoundRun.{FoundRun}
use Rattle.command_facts.specs.declared.found.FoundSteps.{FoundSteps}
use Rattle.command_facts.specs.Found.{EndsIn, IsOutcomeOf, cut_at, entries_of, until_of, with_outcome}
use Rattle.command_facts.proofs.Steps.{all_of_it, ends_by}
use Rattle.command_facts.specs.Written.{Wrote}
use Rattle.command_text.specs.declared.terminal.Terminal.{Terminal}
use Rattle.command_text.specs.Stepped.{IsCutIn, IsCutOff, IsCutUpTo, IsTellingOf, IsToldBy, IsToldInTime, IsToldRun, IsToldText}
use Rattle.command_text.specs.Stepped.{IsToldUpTo, lines_of, InLines, InText, Untold}
use Rattle.command_text.specs.Explained.{IsRunExplained}
use Rattle.command_text.specs.Left.{LeavesFound, ToldAsItRan}
use Rattle.command_text.specs.Steps.{IsTelling}
use Rattle.command_text.specs.Spans.{chosen_spans}
use Rattle.command_text.specs.Texts.{AreStepsText}

module _ (on : Terminal) (s : FoundSteps) (old : OutState) where
  -- a run that is cut off comes to nothing
  pub cut_run : (new : OutState) (r : Result FoundRun Stop) (why : Stop) → IsErrAnd r (λ e. e ≡ why) → IsCutOff on s old new why →
      IsToldRun on s old new r
  cut_run new (Ok run) why is cut = absurd is
  cut_run new (Err e) why is cut = subst (IsCutOff on s old new) (sym is) cut

  -- the text in the form that is asked for
  as_asked : (f : Form) (o : Outcome) (text : List ℕ) → s.words.form ≡ f →
      AreStepsText f on s.words (with_outcome s o) (entries_of s) text → IsToldText on s o text
  as_asked f o text asked is = subst (λ f. AreStepsText f on s.words (with_outcome s o) (entries_of s) text) (sym asked) is

  -- ---- a text that was written when the run was over

  -- for want of memory nothing stands there
  pub unwritten : (new : OutState) (why : Stop) → why ≡ stop.Refused refusal.OutOfMemory → new ≡ old → IsCutOff on s old new why
  unwritten new why is same = subst (IsCutOff on s old new) (sym is) (Untold same)

  module _ (f : Form) (asked : s.words.form ≡ f) (o : Outcome) (comes : IsOutcomeOf s o) where
    -- all of a text
    pub whole : (new : OutState) (text : List ℕ) → AreStepsText f on s.words (with_outcome s o) (entries_of s) text →
        new ≡ with_bytes old text → IsToldBy on s old new (Ok o)
    whole new text is written = (comes, (text, as_asked f o text asked is, written))

    stopped : (new : OutState) (why : Stop) (text : List ℕ) → AreStepsText f on s.words (with_outcome s o) (entries_of s) text →
        (why ≡ stop.WriteFailed) × StopsIn old new text → IsCutOff on s old new why
    stopped new why text is cut = subst (IsCutOff on s old new) (sym cut.0) (InText o text comes (as_asked f o text asked is) cut.1)

    -- a text that is known
    pub cut_in_text : (new : OutState) (ends : Status) (why : Stop) (text : List ℕ) →
        AreStepsText f on s.words (with_outcome s o) (entries_of s) text → Wrote ends text old new (Err why) → IsCutOff on s old new why
    cut_in_text new ends why text is w = stopped new why text is w

  -- ---- in words

  module _ (telling : Telling) (asked : s.words.form ≡ form.Words) (is : IsTellingOf on s telling) where
    -- the lines, and the outcome behind them
    in_words : (o : Outcome) → IsToldText on s o (lines_of s telling (entries_of s) ++ shown s.loaded.program.layout (verdict_of o))
    in_words o = as_asked form.Words o (lines_of s telling (entries_of s) ++ shown s.loaded.program.layout (verdict_of o)) asked
        (telling, is, refl)

    pub cut_in_lines : (new : OutState) (why : Stop) → IsCutIn s telling old new why → IsCutOff on s old new why
    cut_in_lines new why cut = InLines why telling asked is cut

    module _ (o : Outcome) (comes : IsOutcomeOf s o) (mid new : OutState) (lines : mid ≡ with_bytes old (lines_of s telling (entries_of
        s)))
        (ends : Status) where
      pub told_in_words : (given : Status) → Wrote ends (shown s.loaded.program.layout (verdict_of o)) mid new (Ok given) →
          IsToldBy on s old new (Ok o)
      told_in_words given w = (
        comes,
        (
          lines_of s telling (entries_of s) ++ shown s.loaded.program.layout (verdict_of o),
          in_words o,
          writes_then old mid new (lines_of s telling (entries_of s)) (shown s.loaded.program.layout (verdict_of o)) lines w.1,
        ),
      )

      pub cut_in_outcome : (why : Stop) → Wrote ends (shown s.loaded.program.layout (verdict_of o)) mid new (Err why) →
          IsCutOff on s old new why
      cut_in_outcome why w = subst (IsCutOff on s old new) (sym w.0)
          (InText o (lines_of s telling (entries_of s) ++ shown s.loaded.program.layout (verdict_of o)) comes (in_words o)
          (stops_behind old mid new (lines_of s telling (entries_of s)) (shown s.loaded.program.layout (verdict_of o)) lines w.1))

-- ---- parts as they were put together

-- what was streamed by the values that were handed over
pub streamed_by : (s : FoundSteps) (telling : Telling) (old new : OutState) (given : List ℤ) (r q : Result Ending StreamFailure) →
    given ≡ s.input.items → r ≡ q →
    HasStreamed old new (lines_of s telling) (run_entries s.loaded.program given) s.limit.bound r →
    HasStreamed old new (lines_of s telling) (run_entries s.loaded.program s.input.items) s.limit.bound q
streamed_by s telling old new given r q same is h =
    subst (λ (i : List ℤ). HasStreamed old new (lines_of s telling) (run_entries s.loaded.program i) s.limit.bound q) same
    (subst (HasStreamed old new (lines_of s telling) (run_entries s.loaded.program given) s.limit.bound) is h)

-- a failure on the way
pub lines_cut : (s : FoundSteps) (telling : Telling) (old new : OutState) (f : StreamFailure) (why : Stop) → why ≡ stop_of f →
    HasStreamed old new (lines_of s telling) (run_entries s.loaded.program s.input.items) s.limit.bound (Err f) →
    (f ≡ failure.InputTooLong → ⊥) → IsCutIn s telling old new why
lines_cut s telling old new failure.WriteFailed why is h fits = subst (IsCutIn s telling old new) (sym is) h
lines_cut s telling old new failure.OutOfMemory why is h fits = subst (IsCutIn s telling old new) (sym is) h
lines_cut s telling old new failure.InputTooLong why is h fits = absurd (fits refl)

-- a page that was streamed by the values that were handed over
pub page_by : (s : FoundSteps) (old new : OutState) (file text : List ℕ) (given : List ℤ) (until : Option ℕ)
    (r : Result Ending StreamFailure) → file ≡ s.loaded.source.name.now → text ≡ text_in s.loaded.source → given ≡ s.input.items →
    HasStreamedPage (λ k. IsPageOfRun file text s.loaded.program given k s.words.from s.words.to) until s.limit.bound old new r →
    HasStreamedPage (λ k. IsPageOfRun s.loaded.source.name.now (text_in s.loaded.source) s.loaded.program s.input.items k s.words.from
    s.words.to) until s.limit.bound old new r
page_by s old new file text given until r same_file same_text same h =
    let Has : (file text : List ℕ) → List ℤ → Type 0 = λ file text given. HasStreamedPage
    (λ k. IsPageOfRun file text s.loaded.program given k s.words.from s.words.to) until s.limit.bound old new r in
    subst (λ (f : List ℕ). Has f (text_in s.loaded.source) s.input.items) same_file
    (subst (λ (t : List ℕ). Has file t s.input.items) same_text (subst (λ (i : List ℤ). Has file text i) same h))

-- a flow that was drawn by the values that were handed over
pub flow_by : (s : FoundSteps) (old new : OutState) (text : List ℕ) (given : List ℤ) (until : Option ℕ) (only : List CellSpan)
    (r : Result Ending StreamFailure) → text ≡ text_in s.loaded.source → given ≡ s.input.items →
    only ≡ chosen_spans s.loaded.program.layout s.words.drawn →
    HasStreamedFlow text s.loaded.program given until s.limit.bound only s.words.from s.words.to old new r →
    HasStreamedFlow (text_in s.loaded.source) s.loaded.program s.input.items until s.limit.bound
    (chosen_spans s.loaded.program.layout s.words.drawn) s.words.from s.words.to old new r
flow_by s old new text given until only r same_text same same_only h =
    let Has : List ℕ → List ℤ → List CellSpan → Type 0 =
    λ text given only. HasStreamedFlow text s.loaded.program given until s.limit.bound only s.words.from s.words.to old new r in
    subst (λ (t : List ℕ). Has t s.input.items (chosen_spans s.loaded.program.layout s.words.drawn)) same_text
    (subst (λ (i : List ℤ). Has text i (chosen_spans s.loaded.program.layout s.words.drawn)) same
    (subst (λ (c : List CellSpan). Has text given c) same_only h))

-- and statements
pub excerpt_by : (s : FoundSteps) (old new : OutState) (text : List ℕ) (given : List ℤ) (until : Option ℕ)
    (r : Result Ending StreamFailure) → text ≡ s.loaded.source.bytes.items → given ≡ s.input.items →
    HasStreamedExcerpt text s.loaded.program given until s.limit.bound s.words.from s.words.to old new r →
    HasStreamedExcerpt s.loaded.source.bytes.items s.loaded.program s.input.items until s.limit.bound s.words.from s.words.to old new r
excerpt_by s old new text given until r same_text same h =
    let Has : List ℕ → List ℤ → Type 0 =
    λ text given. HasStreamedExcerpt text s.loaded.program given until s.limit.bound s.words.from s.words.to old new r in
    subst (λ (t : List ℕ). Has t s.input.items) same_text (subst (λ (i : List ℤ). Has text i) same h)

-- a text of the run up to where it ends, in which the writer failed
stopped_up_to : (on : Terminal) (s : FoundSteps) (old new : OutState) (f : Form) → s.words.form ≡ f → (r : Ending) (text : List ℕ) →
    AreStepsText f on s.words (with_outcome (cut_at s r.bound) r.outcome) (entries_of (cut_at s r.bound)) text → EndsIn s r.bound →
    IsOutcomeOf (cut_at s r.bound) r.outcome → StopsIn old new text → IsCutUpTo on s old new stop.WriteFailed
stopped_up_to on s old new f asked r text is ends comes stops = (
  r.bound,
  ends,
  cut_in_text on (cut_at s r.bound) old f asked r.outcome comes new (status_of r.outcome) stop.WriteFailed text is (refl, stops),
)

-- nothing of it
untold_up_to : (on : Terminal) (s : FoundSteps) (old new : OutState) → new ≡ old → IsCutUpTo on s old new (stop.Refused refusal.OutOfMemory)
untold_up_to on s old new same = (s.limit.bound, all_of_it s, Untold same)

module _ (on : Terminal) (s : FoundSteps) (old new : OutState) (until : Option ℕ) (same : until ≡ until_of s.limit) where
  -- a page
  abbrev IsShown : (bound : ℕ) → Outcome → List ℕ → Type 0
  IsShown k = IsPageOfRun s.loaded.source.name.now (text_in s.loaded.source) s.loaded.program s.input.items k s.words.from s.words.to

  page_stopped : s.words.form ≡ form.Page → HasStreamedPage IsShown until s.limit.bound old new (Err failure.WriteFailed) →
      IsCutUpTo on s old new stop.WriteFailed
  page_stopped asked h =
      let r = h.0 in
      stopped_up_to on s old new form.Page asked r h.2 h.3.1 (ends_by s until r.bound same h.1)
      (record { fits = s.fits; outcome = h.3.0 }) h.4

  pub page_cut : s.words.form ≡ form.Page → (f : StreamFailure) (why : Stop) → why ≡ stop_of f →
      HasStreamedPage IsShown until s.limit.bound old new (Err f) → (f ≡ failure.InputTooLong → ⊥) → IsCutUpTo on s old new why
  page_cut asked failure.WriteFailed why is h fits = subst (IsCutUpTo on s old new) (sym is) (page_stopped asked h)
  page_cut asked failure.OutOfMemory why is h fits = subst (IsCutUpTo on s old new) (sym is) (untold_up_to on s old new h)
  page_cut asked failure.InputTooLong why is h fits = absurd (fits refl)

  -- a picture that is known
  module _ (f : Form) (asked : s.words.form ≡ f) (drawn : ℕ → List ℕ) (is_text : (r : Ending) →
      AreStepsText f on s.words (with_outcome (cut_at s r.bound) r.outcome) (entries_of (cut_at s r.bound)) (drawn r.bound)) where
    drawn_stopped : HasDrawn drawn s.loaded.program s.input.items until s.limit.bound old new (Err failure.WriteFailed) →
        IsCutUpTo on s old new stop.WriteFailed
    drawn_stopped h =
        let r = h.0 in
        stopped_up_to on s old new f asked r (drawn r.bound) (is_text r) (ends_by s until r.bound same h.1)
        (record { fits = s.fits; outcome = h.2 }) h.3

    drawn_cut : (e : StreamFailure) (why : Stop) → why ≡ stop_of e →
        HasDrawn drawn s.loaded.program s.input.items until s.limit.bound old new (Err e) → (e ≡ failure.InputTooLong → ⊥) →
        IsCutUpTo on s old new why
    drawn_cut failure.WriteFailed why is h fits = subst (IsCutUpTo on s old new) (sym is) (drawn_stopped h)
    drawn_cut failure.OutOfMemory why is h fits = subst (IsCutUpTo on s old new) (sym is) (untold_up_to on s old new h)
    drawn_cut failure.InputTooLong why is h fits = absurd (fits refl)

  pub flow_cut : s.words.form ≡ form.Flow → (e : StreamFailure) (why : Stop) → why ≡ stop_of e →
      HasStreamedFlow (text_in s.loaded.source) s.loaded.program s.input.items until s.limit.bound
      (chosen_spans s.loaded.program.layout s.words.drawn) s.words.from s.words.to old new (Err e) → (e ≡ failure.InputTooLong → ⊥) →
      IsCutUpTo on s old new why
  flow_cut asked = drawn_cut form.Flow asked (flow_of_run (text_in s.loaded.source) s.loaded.program s.input.items
      (chosen_spans s.loaded.program.layout s.words.drawn) s.words.from s.words.to) (λ r. refl)

  pub excerpt_cut : s.words.form ≡ form.Picture → (e : StreamFailure) (why : Stop) → why ≡ stop_of e →
      HasStreamedExcerpt s.loaded.source.bytes.items s.loaded.program s.input.items until s.limit.bound s.words.from s.words.to old new
      (Err e) → (e ≡ failure.InputTooLong → ⊥) → IsCutUpTo on s old new why
  excerpt_cut asked = drawn_cut form.Picture asked (excerpt_of_run s.loaded.source.bytes.items s.loaded.program s.input.items s.words.from
      s.words.to) (λ r. refl)

-- how statements are told
pub telling_by : (on : Terminal) (s : FoundSteps) (text sized : List ℕ) (telling : Telling) →
    text ≡ s.loaded.source.bytes.items → sized ≡ text_in s.loaded.source →
    IsTelling on s.words text sized s.loaded.program telling → IsTellingOf on s telling
telling_by on s text sized telling same_text same_sized is =
    subst (λ (t : List ℕ). IsTelling on s.words s.loaded.source.bytes.items t s.loaded.program telling) same_sized
    (subst (λ (t : List ℕ). IsTelling on s.words t sized s.loaded.program telling) same_text is)

-- the outcome, by its declarations
pub outcome_as : (s : FoundSteps) (o : Outcome) (layout : List SharedEntry) (ends : Status) (mid new : OutState) (r : Result Status Stop)
    →
    layout ≡ s.loaded.program.layout → Wrote ends (shown layout (verdict_of o)) mid new r →
    Wrote ends (shown s.loaded.program.layout (verdict_of o)) mid new r
outcome_as s o layout ends mid new r same w = subst (λ (l : List SharedEntry). Wrote ends (shown l (verdict_of o)) mid new r) same w

-- the run, as it came back
pub run_as : (on : Terminal) (s : FoundSteps) (o : Outcome) (run : FoundRun) (old new : OutState) → run ≡ with_outcome s o →
    IsToldBy on s old new (Ok o) → IsToldRun on s old new (Ok run)
run_as on s o run old new same told = subst (λ (x : FoundRun). IsToldRun on s old new (Ok x)) (sym same) (refl, told)

-- ---- in time

pub cut_up_to : (on : Terminal) (s : FoundSteps) (k : ℕ) (old new : OutState) (r : Result Ending Stop) (why : Stop) →
    IsErrAnd r (λ e. e ≡ why) → EndsIn s k → IsCutOff on (cut_at s k) old new why → IsToldUpTo on s old new r
cut_up_to on s k old new (Ok o) why is ends cut = absurd is
cut_up_to on s k old new (Err e) why is ends cut = (k, ends, subst (IsCutOff on (cut_at s k) old new) (sym is) cut)

pub cut_in_time : (on : Terminal) (s : FoundSteps) (old new : OutState) (r : Result FoundRun Stop) (why : Stop) →
    IsErrAnd r (λ e. e ≡ why) → IsToldUpTo on s old new (Err why) → IsToldInTime on s old new r
cut_in_time on s old new r why is told = (told.0, told.1, cut_run on (cut_at s told.0) old new r why is told.2)

pub run_in_time : (on : Terminal) (s : FoundSteps) (k : ℕ) (o : Outcome) (cut : FoundSteps) (run : FoundRun) (old new : OutState) →
    cut ≡ cut_at s k → run ≡ with_outcome cut o → EndsIn s k × IsToldBy on (cut_at s k) old new (Ok o) →
    IsToldInTime on s old new (Ok run)
run_in_time on s k o cut run old new is same told =
    (k, told.0, run_as on (cut_at s k) o run old new (same ∙ ap (λ (s : FoundSteps). with_outcome s o) is) told.1)

-- ---- both streams

pub leaves_run : (on : Terminal) (words : List (List ℕ)) (s : FoundSteps) (run : FoundRun) (out out_new err err_new : OutState)
    (ends : Status) →
    IsToldInTime on s out out_new (Ok run) → IsRunExplained on.errors run run.outcome err err_new → ends ≡ status_of run.outcome →
    LeavesFound on words (found.Stepped s) out out_new err err_new ends
leaves_run on words s run out out_new err err_new ends in_time explained is =
    let told = in_time.2 in
    subst (LeavesFound on words (found.Stepped s) out out_new err err_new) (sym is)
    (ToldAsItRan s in_time.0 run.outcome told.1.1.0 refl in_time.1 told.1.0 told.1.1.1 told.1.1.2
    (subst (λ (x : FoundRun). IsRunExplained on.errors x run.outcome err err_new) told.0 explained))
