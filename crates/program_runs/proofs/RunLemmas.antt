-- A run of compiled code is the program's.
use Rattle.std.proofs.Common.{rules, ◌≡◌, ℕ, ◌≤◌, List, length, ℤ, subst, sym, refl, Result, Ok, Err, Option, Some, None, inl, inr}
use Rattle.std.proofs.Common.{⊎_elim, ap, IfOk, FitsSigned, w64, slice_index_or, arith, ◌<◌, pos, suc, [], ◌∷◌}
use Rattle.std.specs.Prelude.{IfErr}
use Rattle.pram_model.specs.Layout.{total_size}
use Rattle.address_map.specs.Lawful.{Shape}
use Rattle.write_rules.specs.Verdict.{Verdict}
use Rattle.superstep_instructions.specs.Code.{SuperstepCode}
use Rattle.superstep_machine.specs.Run.{IsBspOutcome}
use Rattle.superstep_machine.specs.Trace.{Exchange}
use Rattle.flat_machine.specs.Flatness.{IsMapFor}
use Rattle.pram_check.specs.Checked.{Checked}
use Rattle.pram_meaning.specs.Values.{AreValues, IsValue}
use Rattle.pram_meaning.specs.Outcome.{IsOutcome}
use Rattle.address_map.specs.Outcome.{IsFault}
use Rattle.address_map.specs.declared.fault.MapFault.{MapFault}
use Rattle.address_map.specs.declared.fault.MapFault.TheVariants as no
use Rattle.exchange_words.specs.Sent.{words_sent}
use Rattle.compiled_meaning.specs.PlainForm.{IsInputFor, word_bound}
use Rattle.compiled_meaning.specs.Supersteps.{IsFusedForm}
use Rattle.program_runs.specs.Compiled.{IsCodeOf}
use Rattle.program_texts.specs.Report.{IsMeaningOf, IsProgramOf, IsRunOf}
use Rattle.run_options.specs.Places.{IsLeastPower}
use Rattle.run_options.specs.declared.map_choice.MapChoice.{MapChoice}
use Rattle.run_options.specs.declared.map_choice.MapChoice.TheVariants as choose
use Rattle.run_options.specs.declared.options.Options.{Options}
use Rattle.worker_exchange.specs.declared.refusal.RunRefusal.TheVariants as run
use Rattle.worker_exchange.specs.Opened.{IsAccepted}
use Rattle.bsp_machine.specs.Ended.{AreExchanges}
use Rattle.workers.specs.Past.{IsRefusalWith, StaysWithin}
use Rattle.program_texts.specs.declared.from_text.Refusal.{Refusal}
use Rattle.program_texts.specs.declared.from_text.Refusal.TheVariants as refusals
use Rattle.run_options.specs.declared.reserve.Reserve.{Reserve}
use Rattle.program_runs.specs.Runs.{AreLaidOut, IsChoice, IsCodeRun, IsCodeRefused, IsMapOf, IsNoMap, IsProgramRefused, IsProgramRun}
use Rattle.program_runs.specs.Runs.{IsRunRefused}
use Rattle.program_runs.specs.Reserved.{IsCodeRunKept, IsCodeRunWith, IsProgramRunWith, IsRunByWorkersWith, IsCodeRefusedWith}
use Rattle.program_runs.specs.Reserved.{IsProgramRefusedWith}
use Rattle.program_runs.specs.Reserved.{IsRunRefusedWith}

-- the map of a choice has so many places
places_of : (choice : MapChoice) (k p : ℕ) (m : Shape) → IsMapOf choice k p m → m.count ≡ k
places_of choose.Identity k p m h = h.count
places_of (choose.Affine factor shift) k p m h = h.count

pub is_placed : (choice : MapChoice) (k p : ℕ) (m : Shape) → IsMapOf choice k p m → IsMapOf choice m.count p m
is_placed choice k p m h = subst (λ n. IsMapOf choice n p m) (sym (places_of choice k p m h)) h

pub are_least : (choice : MapChoice) (k p : ℕ) (m : Shape) (cells : ℕ) → IsMapOf choice k p m → IsLeastPower cells k →
    IsLeastPower cells m.count
are_least choice k p m cells h least = subst (λ n. IsLeastPower cells n) (sym (places_of choice k p m h)) least

-- and a module for each worker
pub modules_of : (choice : MapChoice) (k p : ℕ) (m : Shape) → IsMapOf choice k p m → m.parts ≡ p
modules_of choose.Identity k p m h = h.parts
modules_of (choose.Affine factor shift) k p m h = h.parts

module _ (program : Checked) (code : SuperstepCode) (means : IsFusedForm program code) (input : List ℤ) (options : Options)
    (verdict : Verdict) (exchanges : List Exchange) (values : AreValues input) (r : IsCodeRun code input options verdict exchanges) where
  on_map : IsMapFor code r.shape
  on_map = record { lawful = r.laid_out.lawful; room = r.laid_out.least.enough }

  input_fits : IsInputFor program input
  input_fits = record { few = subst (λ l. length input ≤ total_size l) means.form.layout r.fits; values = values }

  outcome : IsOutcome program input options.bound verdict
  outcome = (means.form.outcomes r.shape on_map input input_fits options.bound verdict).0 r.outcome

  pub is_meaning : IsMeaningOf program input options.bound verdict
  is_meaning = record { fits = input_fits.few; outcome = outcome }

  pub is_program_run : IsCodeOf program code → IsProgramRun program input options verdict exchanges
  is_program_run is_code = record {
    code = code;
    is_code = is_code;
    run = r;
    few = λ faultless. means.supersteps r.shape on_map input input_fits options.bound verdict outcome faultless exchanges r.made;
    words = λ faultless. subst (λ k. words_sent exchanges ≤ word_bound program k input options.bound)
        (modules_of options.map r.shape.count options.workers r.shape r.laid_out.is_map)
        (means.communication r.shape on_map input input_fits options.bound verdict outcome faultless exchanges r.made);
  }

-- what is run on such a map, with its exchanges if they were kept
pub run_kept : (code : SuperstepCode) (m : Shape) (input : List ℤ) (options : Options) (reserve : Option Reserve) (verdict : Verdict)
    (found : Option (List Exchange)) → AreLaidOut (total_size code.layout) options m → length input ≤ total_size code.layout →
    IsBspOutcome code m input options.bound verdict → AreExchanges code m input options.bound verdict found →
    StaysWithin code m options.bound input reserve → IsCodeRunKept code input options reserve verdict found
run_kept code m input options reserve verdict None laid fits outcome made within = (
  made.0,
  record { run = record { shape = m; laid_out = laid; fits = fits; outcome = outcome; made = made.1 }; within = within },
)
run_kept code m input options reserve verdict (Some exchanges) laid fits outcome made within = record {
  run = record { shape = m; laid_out = laid; fits = fits; outcome = outcome; made = made };
  within = within;
}

-- there are exchanges, whether they were kept or not
pub some_exchanges : (code : SuperstepCode) (input : List ℤ) (options : Options) (reserve : Option Reserve) (verdict : Verdict)
    (found : Option (List Exchange)) → IsCodeRunKept code input options reserve verdict found →
    (exchanges : List Exchange) × IsCodeRunWith code input options reserve verdict exchanges
some_exchanges code input options reserve verdict None run = run
some_exchanges code input options reserve verdict (Some exchanges) run = (exchanges, run)

-- ---- the same of an answer

module _ {X : Type 0} (program : Checked) (code : SuperstepCode) (means : IsFusedForm program code) (input : List ℤ) (options : Options)
    (reserve : Option Reserve) (values : AreValues input) (verdict : X → Verdict) (exchanges : X → List Exchange) where
  pub all_meanings : {E : Type 0} (found : Result X E) →
      IfOk found (λ x. IsCodeRunWith code input options reserve (verdict x) (exchanges x)) →
      IfOk found (λ x. IsMeaningOf program input options.bound (verdict x))
  all_meanings (Ok x) r = is_meaning program code means input options (verdict x) (exchanges x) values r.run
  all_meanings (Err e) r = tt

  pub all_ran : {E : Type 0} (found : Result X E) → IsCodeOf program code →
      IfOk found (λ x. IsCodeRunWith code input options reserve (verdict x) (exchanges x)) →
      IfOk found (λ x. IsProgramRunWith program input options reserve (verdict x) (exchanges x))
  unfolding is_program_run
  all_ran (Ok x) is r = record {
    ran = is_program_run program code means input options (verdict x) (exchanges x) values r.run is;
    within = r.within;
  }
  all_ran (Err e) is r = tt

-- ---- and of an answer that has no exchanges, though the run has some

module _ (program : Checked) (input : List ℤ) (options : Options) (reserve : Option Reserve) where
  abbrev pub CodeRan : SuperstepCode → Verdict → Type 0
  CodeRan code v = (exchanges : List Exchange) × IsCodeRunWith code input options reserve v exchanges

  abbrev pub ProgramRan : Verdict → Type 0
  ProgramRan v = (exchanges : List Exchange) × IsProgramRunWith program input options reserve v exchanges

  pub meanings_too : {X E : Type 0} (code : SuperstepCode) → IsFusedForm program code → AreValues input → (verdict : X → Verdict)
      (found : Result X E) → IfOk found (λ x. CodeRan code (verdict x)) →
      IfOk found (λ x. IsMeaningOf program input options.bound (verdict x))
  meanings_too code means values verdict (Ok x) r = is_meaning program code means input options (verdict x) r.0 values r.1.run
  meanings_too code means values verdict (Err e) r = tt

  pub ran_too : {X E : Type 0} (code : SuperstepCode) → IsFusedForm program code → AreValues input → IsCodeOf program code →
      (verdict : X → Verdict) (found : Result X E) → IfOk found (λ x. CodeRan code (verdict x)) →
      IfOk found (λ x. ProgramRan (verdict x))
  unfolding is_program_run
  ran_too code means values is verdict (Ok x) r = (
    r.0,
    record { ran = is_program_run program code means input options (verdict x) r.0 values r.1.run is; within = r.1.within },
  )
  ran_too code means values is verdict (Err e) r = tt

  pub runs_by_workers_too : {X E : Type 0} (verdict : X → Verdict) (found : Result X E) → IfOk found (λ x. ProgramRan (verdict x)) →
      IfOk found (λ x. (text : List ℕ) → IsProgramOf text program →
      (exchanges : List Exchange) × IsRunByWorkersWith text input options reserve (verdict x) exchanges)
  runs_by_workers_too verdict (Ok x) r = λ text is. (
    r.0,
    record { by_workers = record { program = program; is_program = is; ran = r.1.ran }; within = r.1.within },
  )
  runs_by_workers_too verdict (Err e) r = tt

-- ---- and of each text that the program is of

module _ {X : Type 0} (program : Checked) (input : List ℤ) (options : Options) (reserve : Option Reserve) (verdict : X → Verdict)
    (exchanges : X → List Exchange) where
  pub all_runs : {E : Type 0} (found : Result X E) → IfOk found (λ x. IsMeaningOf program input options.bound (verdict x)) →
      IfOk found (λ x. (text : List ℕ) → IsProgramOf text program → IsRunOf text input options.bound program.layout (verdict x))
  all_runs (Ok x) m = λ text is. record { program = program; is_program = is; declared = refl; fits = m.fits; outcome = m.outcome }
  all_runs (Err e) m = tt

  pub all_runs_by_workers : {E : Type 0} (found : Result X E) →
      IfOk found (λ x. IsProgramRunWith program input options reserve (verdict x) (exchanges x)) →
      IfOk found (λ x. (text : List ℕ) → IsProgramOf text program →
      IsRunByWorkersWith text input options reserve (verdict x) (exchanges x))
  all_runs_by_workers (Ok x) r = λ text is. record {
    by_workers = record { program = program; is_program = is; ran = r.ran };
    within = r.within;
  }
  all_runs_by_workers (Err e) r = tt

-- ---- why it is refused

module _ (program : Checked) (code : SuperstepCode) (layout : code.layout ≡ program.layout) (input : List ℤ) (options : Options) where
  of_code : (r : Refusal) → IsCodeRefused code input options r → IsProgramRefused program input options r
  of_code (refusals.Text fault) h = absurd h
  of_code (refusals.Program breach) h = absurd h
  of_code refusals.BadWorkers h = h
  of_code refusals.BadMap h = h
  of_code refusals.InputTooLong h = (h.0, h.1, subst (λ l. total_size l < length input) layout h.2)
  of_code refusals.OutOfMemory h = tt
  of_code refusals.OutOfReserve h = absurd h

  pub of_code_with : (reserve : Option Reserve) → IsCodeOf program code → (r : Refusal) → IsCodeRefusedWith code input options reserve r →
      IsProgramRefusedWith program input options reserve r
  of_code_with None made r h = of_code r h
  of_code_with (Some reserve) made r h = ⊎_elim
      (λ (a : IsCodeRefused code input options r). inl (of_code r a))
      (λ (b : _). inr (b.0, record { code = code; is_code = made; past = b.1 })) h

module _ (X : Type 0) (text : List ℕ) (program : Checked) (is : IsProgramOf text program) (input : List ℤ) (options : Options) where
  of_program : (r : Refusal) → IsProgramRefused program input options r → IsRunRefused {X = X} text input options (Err r)
  of_program (refusals.Text fault) h = absurd h
  of_program (refusals.Program breach) h = absurd h
  of_program refusals.BadWorkers h = ((program, is), h)
  of_program refusals.BadMap h = ((program, is), h.0, h.1)
  of_program refusals.InputTooLong h = (h.0, h.1, record { program = program; is_program = is; too_long = h.2 })
  of_program refusals.OutOfMemory h = is.is_text.plain
  of_program refusals.OutOfReserve h = absurd h

  pub of_program_with : (reserve : Option Reserve) (r : Refusal) → IsProgramRefusedWith program input options reserve r →
      IsRunRefusedWith {X = X} text input options reserve (Err r)
  of_program_with None r h = of_program r h
  of_program_with (Some reserve) r h = ⊎_elim
      (λ (a : IsProgramRefused program input options r). inl (of_program r a))
      (λ (b : _). inr (ap Err b.0, record { program = program; is_program = is; past = b.1 })) h

-- ---- the same of an answer

pub all_stopped : {X : Type 0} (program : Checked) (code : SuperstepCode) (means : IsFusedForm program code) (input : List ℤ)
    (options : Options) (reserve : Option Reserve) → IsCodeOf program code → (found : Result X Refusal) →
    IfErr found (IsCodeRefusedWith code input options reserve) → IfErr found (IsProgramRefusedWith program input options reserve)
all_stopped program code means input options reserve made (Ok x) h = tt
all_stopped program code means input options reserve made (Err r) h =
    of_code_with program code means.form.layout input options reserve made r h

pub all_refused : {X : Type 0} (program : Checked) (input : List ℤ) (options : Options) (reserve : Option Reserve)
    (found : Result X Refusal) → IfErr found (IsProgramRefusedWith program input options reserve) → (text : List ℕ) →
    IsProgramOf text program → IsRunRefusedWith text input options reserve found
all_refused program input options None (Ok x) h text is = tt
all_refused program input options (Some reserve) (Ok x) h text is = inl tt
all_refused {X = X} program input options reserve (Err r) h text is = of_program_with X text program is input options reserve r h

-- with a reserve it is refused for what refuses it without one
pub program_with_any : (program : Checked) (input : List ℤ) (options : Options) (reserve : Option Reserve) (r : Refusal) →
    IsProgramRefused program input options r → IsProgramRefusedWith program input options reserve r
program_with_any program input options None r h = h
program_with_any program input options (Some reserve) r h = inl h

pub with_any : {X : Type 0} (text : List ℕ) (input : List ℤ) (options : Options) (reserve : Option Reserve) (result : Result X Refusal) →
    IsRunRefused text input options result → IsRunRefusedWith text input options reserve result
with_any text input options None result h = h
with_any text input options (Some reserve) result h = inl h

pub code_with_any : (code : SuperstepCode) (input : List ℤ) (options : Options) (reserve : Option Reserve) (r : Refusal) →
    IsCodeRefused code input options r → IsCodeRefusedWith code input options reserve r
code_with_any code input options None r h = h
code_with_any code input options (Some reserve) r h = inl h

-- where memory was refused to the workers nothing speaks against the run
pub of_memory : (code : SuperstepCode) (m : Shape) (input : List ℤ) (options : Options) (reserve : Option Reserve) → IsChoice options.map →
    IsRefusalWith code m options.workers input options.bound reserve run.OutOfMemory →
    IsCodeRefusedWith code input options reserve refusals.OutOfMemory
of_memory code m input options None choice h = (h.few, choice, h.short)
of_memory code m input options (Some reserve) choice h = ⊎_elim
    (λ (a : IsAccepted code m options.workers input). inl (a.few, choice, a.short))
    (λ (b : _). absurd (differ b.0)) h
  where
    differ : run.OutOfMemory ≡ run.OutOfReserve → ⊥
    differ e = cc

-- ---- why there is no map

pub is_no_map : (good : Type 0) (options : Options) (fault : MapFault) → IsFault good options.workers fault →
    (IsChoice options.map → good) → IsNoMap options fault
unfolding IsFault
is_no_map good options no.BadWorkers h choice = h
is_no_map good options no.BadMap h choice = (h.0, λ c. h.1 (choice c))

-- what is refused without a reserve is so with one
pub refused_too : (code : SuperstepCode) (input : List ℤ) (options : Options) (reserve : Option Reserve) (refusal : Refusal) →
    IsCodeRefused code input options refusal → IsCodeRefusedWith code input options reserve refusal
refused_too code input options None refusal h = h
refused_too code input options (Some reserve) refusal h = inl h

-- ---- values of 64 bits

is_value : (z : ℤ) → FitsSigned w64 z → IsValue z
is_value z fits = record { least = search rules; most = search rules }

pub are_values : (xs : List ℤ) → ((i : ℕ) → i < length xs → FitsSigned w64 (slice_index_or xs i (pos 0))) → AreValues xs
are_values [] fits = tt
are_values (x ∷ xs) fits = (is_value x (fits 0 (omega arith)), are_values xs (λ i l. fits (suc i) (omega (arith, l))))
