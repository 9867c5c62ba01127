-- Runs by workers with a reserve, or without.
use Rattle.std.specs.Prelude.{◌≡◌, ◌⊎◌, ℕ, ◌≤◌, List, length, ℤ, Option, None, Some, Result, Err}
use Rattle.pram_model.specs.Layout.{total_size}
use Rattle.address_map.specs.Lawful.{Shape}
use Rattle.write_rules.specs.Verdict.{Verdict}
use Rattle.superstep_instructions.specs.Code.{SuperstepCode}
use Rattle.superstep_machine.specs.Trace.{Exchange}
use Rattle.pram_check.specs.Checked.{Checked}
use Rattle.program_texts.specs.Report.{IsProgramOf}
use Rattle.program_texts.specs.declared.from_text.Refusal.{Refusal}
use Rattle.program_texts.specs.declared.from_text.Refusal.TheVariants.{OutOfReserve}
use Rattle.program_runs.specs.Compiled.{IsCodeOf}
use Rattle.run_options.specs.declared.reserve.Reserve.{Reserve}
use Rattle.workers.specs.Past.{ComesPast, StaysWithin}
use Rattle.run_options.specs.declared.options.Options.{Options}
use Rattle.program_runs.specs.Runs.{AreLaidOut, IsCodeRun, IsCodeRefused, IsProgramRun, IsProgramRefused, IsRunByWorkers, IsRunRefused}

-- ---- within it

-- Code was run so, and doesn't come past the reserve, if there is one.
pub record IsCodeRunWith (code : SuperstepCode) (input : List ℤ) (options : Options) (reserve : Option Reserve) (verdict : Verdict)
    (exchanges : List Exchange) : Type 0 where
  pub run : IsCodeRun code input options verdict exchanges
  pub within : StaysWithin code run.shape options.bound input reserve

-- The same, and these are its exchanges where they were kept; else there are such.
abbrev pub IsCodeRunKept : SuperstepCode → List ℤ → Options → Option Reserve → Verdict → Option (List Exchange) → Type 0
IsCodeRunKept code input options reserve verdict None =
    (exchanges : List Exchange) × IsCodeRunWith code input options reserve verdict exchanges
IsCodeRunKept code input options reserve verdict (Some exchanges) = IsCodeRunWith code input options reserve verdict exchanges

-- So was the code of a program.
pub record IsProgramRunWith (program : Checked) (input : List ℤ) (options : Options) (reserve : Option Reserve) (verdict : Verdict)
    (exchanges : List Exchange) : Type 0 where
  pub ran : IsProgramRun program input options verdict exchanges
  pub within : StaysWithin ran.code ran.run.shape options.bound input reserve

-- So was that of a text's program.
pub record IsRunByWorkersWith (text : List ℕ) (input : List ℤ) (options : Options) (reserve : Option Reserve) (verdict : Verdict)
    (exchanges : List Exchange) : Type 0 where
  pub by_workers : IsRunByWorkers text input options verdict exchanges
  pub within : StaysWithin by_workers.ran.code by_workers.ran.run.shape options.bound input reserve

-- ---- past it

-- On so many workers code comes past a reserve.
pub record IsCodePast (code : SuperstepCode) (input : List ℤ) (options : Options) (reserve : Reserve) : Type 0 where
  pub shape : Shape
  pub laid_out : AreLaidOut (total_size code.layout) options shape
  pub fits : length input ≤ total_size code.layout
  pub past : ComesPast code shape options.bound input reserve

-- So does the code of a program.
pub record IsProgramPast (program : Checked) (input : List ℤ) (options : Options) (reserve : Reserve) : Type 0 where
  pub code : SuperstepCode
  pub is_code : IsCodeOf program code
  pub past : IsCodePast code input options reserve

-- So does that of a text's program.
pub record IsTextPast (text : List ℕ) (input : List ℤ) (options : Options) (reserve : Reserve) : Type 0 where
  pub program : Checked
  pub is_program : IsProgramOf text program
  pub past : IsProgramPast program input options reserve

-- ---- refusals

-- Code is refused as without a reserve; or it has one and comes past it, where nothing else speaks against the run.
abbrev pub IsCodeRefusedWith : SuperstepCode → List ℤ → Options → Option Reserve → Refusal → Type 0
IsCodeRefusedWith code input options None refusal = IsCodeRefused code input options refusal
IsCodeRefusedWith code input options (Some reserve) refusal =
    IsCodeRefused code input options refusal ⊎ ((refusal ≡ OutOfReserve) × IsCodePast code input options reserve)

-- So is a program.
abbrev pub IsProgramRefusedWith : Checked → List ℤ → Options → Option Reserve → Refusal → Type 0
IsProgramRefusedWith program input options None refusal = IsProgramRefused program input options refusal
IsProgramRefusedWith program input options (Some reserve) refusal =
    IsProgramRefused program input options refusal ⊎ ((refusal ≡ OutOfReserve) × IsProgramPast program input options reserve)

-- So is a text.
abbrev pub IsRunRefusedWith : {X : Type 0} → List ℕ → List ℤ → Options → Option Reserve → Result X Refusal → Type 0
IsRunRefusedWith text input options None result = IsRunRefused text input options result
IsRunRefusedWith text input options (Some reserve) result =
    IsRunRefused text input options result ⊎ ((result ≡ Err OutOfReserve) × IsTextPast text input options reserve)

-- ---- laws

-- Two runs of a text on one input, by workers of one map, within one bound, have the same exchanges.
abbrev pub TextsHaveOneList : Type 0
TextsHaveOneList = (text : List ℕ) (input : List ℤ) (options : Options) (verdict other : Verdict) (exchanges more : List Exchange)
    (run : IsRunByWorkers text input options verdict exchanges) (also : IsRunByWorkers text input options other more) →
    run.ran.run.shape ≡ also.ran.run.shape → exchanges ≡ more

-- By the workers of one map a text is not both run with a reserve and refused for it.
abbrev pub TextsHaveOneReserve : Type 0
TextsHaveOneReserve = (text : List ℕ) (input : List ℤ) (options : Options) (reserve : Reserve) (verdict : Verdict)
    (exchanges : List Exchange)
    (run : IsRunByWorkersWith text input options (Some reserve) verdict exchanges) (past : IsTextPast text input options reserve) →
    run.by_workers.ran.run.shape ≡ past.past.past.shape → ⊥
