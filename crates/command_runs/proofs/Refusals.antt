-- Why a run is refused, put together from its reason and from what is told besides.
use Rattle.std.proofs.Common.{◌≡◌, ◌∙◌, ◌≤◌, ◌<◌, ℕ, ℤ, List, ap, arith, refl, subst, sym}
use Rattle.std.specs.Prelude.{◌↔◌, Option, length, Result, Err}
use Rattle.pram_model.specs.Layout.{total_size}
use Rattle.pram_check.specs.Checked.{Checked}
use Rattle.superstep_instructions.specs.Code.{SuperstepCode}
use Rattle.pram_meaning.specs.declared.observation.MeaningRefusal.{MeaningRefusal}
use Rattle.pram_meaning.specs.declared.observation.MeaningRefusal.TheVariants as no_meaning
use Rattle.program_texts.specs.Report.{IsMeaningRefused, refusal_of_meaning}
use Rattle.program_texts.specs.declared.from_text.Refusal.{Refusal}
use Rattle.program_texts.specs.declared.stop.Stop.TheVariants.{Refused}
use Rattle.bsp_verify.specs.WellFormed.{IsWellFormed}
use Rattle.program_runs.specs.Reserved.{IsCodeRefusedWith}
use Rattle.command_requests.specs.declared.opening.Opening.{Opening}
use Rattle.command_requests.specs.declared.request.ProgramFile.{ProgramFile}
use Rattle.command_requests.specs.declared.run_words.RunWords.{RunWords}
use Rattle.diagnoses.specs.declared.halted.Halted.{Halted}
use Rattle.command_facts.specs.declared.loaded.Loaded.{Loaded}
use Rattle.command_facts.specs.Found.{IsLoaded, IsOpening}
use Rattle.command_facts.specs.Held.{IsListingIn}
use Rattle.command_facts.specs.Refused.{IsToldWith}
use Rattle.command_facts.proofs.Programs.{program_in}
use Rattle.command_runs.specs.Refused.{IsRefusedRun, StopsAtCodeRun, StopsAtRun}

-- by the definition
pub no_meaning_on : (program : Checked) (input : List ℤ) (r : MeaningRefusal) →
    (r ≡ no_meaning.InputTooLong) ↔ (total_size program.layout < length input) → IsMeaningRefused program input (refusal_of_meaning r)
no_meaning_on program input no_meaning.InputTooLong is = is.0 refl
no_meaning_on program input no_meaning.OutOfMemory is = few (λ long. differ (is.1 long))
  where
    differ : no_meaning.OutOfMemory ≡ no_meaning.InputTooLong → ⊥
    differ e = cc

    few : (total_size program.layout < length input → ⊥) → length input ≤ total_size program.layout
    few h = omega (arith, h)

-- so an answer says
pub no_meaning_by : {X : Type 0} (program : Checked) (input : List ℤ) (why : MeaningRefusal) (r : Result X MeaningRefusal) → r ≡ Err why →
    (r ≡ Err no_meaning.InputTooLong) ↔ (total_size program.layout < length input) → IsMeaningRefused program input (refusal_of_meaning why)
no_meaning_by {X} program input why r is long = no_meaning_on program input why (λ e. long.0 (is ∙ ap Err e), λ h. same r is (long.1 h))
  where
    same : (r : Result X MeaningRefusal) → r ≡ Err why → r ≡ Err no_meaning.InputTooLong → why ≡ no_meaning.InputTooLong
    same r is e = cc

-- a run
pub run_refused : (Refuses : Refusal → Type 0) (values cells : ℕ) (r : Refusal) (h : Halted) → Refuses r → h.stop ≡ Refused r →
    IsToldWith r values cells h.about → IsRefusedRun Refuses values cells h.stop h.about
run_refused Refuses values cells r h why is told = subst (λ s. IsRefusedRun Refuses values cells s h.about) (sym is) (why, told)

-- ---- over files

-- by the values that were handed over, to the run and to who tells of it
module _ (holds : List ℕ → Option (List ℕ) → Type 0) (input given shown : List ℤ) (same : given ≡ input) (same_shown : shown ≡ input)
    (cells : ℕ) (r : Refusal) (h : Halted) (stops : h.stop ≡ Refused r) (told : IsToldWith r (length shown) cells h.about) where
  told_with : (m : ℕ) → cells ≡ m → IsToldWith r (length input) m h.about
  told_with m c = subst (λ (i : List ℤ). IsToldWith r (length i) m h.about) same_shown
      (subst (λ (x : ℕ). IsToldWith r (length shown) x h.about) c told)

  -- the run of the file's program
  pub stops_at_run : (Refuses : Checked → List ℤ → Refusal → Type 0) (file : ProgramFile) (opening : Opening) (l : Loaded) →
      IsLoaded (holds file.name.now) file l → IsOpening holds l.program.layout opening input → cells ≡ total_size l.program.layout →
      Refuses l.program given r → StopsAtRun holds file opening Refuses h
  stops_at_run Refuses file opening l is is_input c why = record {
    program = l.program;
    is = program_in holds file l is;
    input = input;
    given = is_input;
    refused = run_refused (Refuses l.program input) (length input) (total_size l.program.layout) r h
        (subst (λ (i : List ℤ). Refuses l.program i r) same why) stops (told_with (total_size l.program.layout) c);
  }

  -- the run of its code
  pub stops_at_code_run : (file : List ℕ) (words : RunWords) (code : SuperstepCode) → IsListingIn (holds file) code → IsWellFormed code →
      IsOpening holds code.layout words.opening input → cells ≡ total_size code.layout →
      IsCodeRefusedWith code given words.options words.reserve r → StopsAtCodeRun holds file words h
  stops_at_code_run file words code is verified is_input c why = record {
    code = code;
    is = is;
    verified = verified;
    input = input;
    given = is_input;
    refused = run_refused (IsCodeRefusedWith code input words.options words.reserve) (length input) (total_size code.layout) r h
        (subst (λ (i : List ℤ). IsCodeRefusedWith code i words.options words.reserve r) same why) stops
        (told_with (total_size code.layout) c);
  }
