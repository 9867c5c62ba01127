-- Why a run of a file's program, or of its code, finds nothing.
use Rattle.std.specs.Prelude.{◌≡◌, ◌⊎◌, ℕ, ℤ, List, length, Option, Some}
use Rattle.pram_trees.specs.Program.{ProgramTree}
use Rattle.pram_model.specs.Layout.{SharedEntry, total_size}
use Rattle.pram_check.specs.Checked.{Checked}
use Rattle.superstep_instructions.specs.Code.{SuperstepCode}
use Rattle.bsp_verify.specs.WellFormed.{IsWellFormed}
use Rattle.program_texts.specs.Report.{IsMeaningRefused}
use Rattle.program_texts.specs.declared.from_text.Refusal.{Refusal}
use Rattle.program_texts.specs.declared.from_text.Refusal.TheVariants as refusal
use Rattle.program_texts.specs.declared.stop.Stop.{Stop}
use Rattle.program_texts.specs.declared.stop.Stop.TheVariants as stop
use Rattle.diagnoses.specs.declared.about.About.{About}
use Rattle.diagnoses.specs.declared.about.About.TheVariants as about
use Rattle.diagnoses.specs.declared.halted.Halted.{Halted}
use Rattle.program_runs.specs.Reserved.{IsCodeRefusedWith, IsProgramRefusedWith}
use Rattle.memory_texts.specs.Chosen.{unknown_name}
use Rattle.memory_texts.specs.declared.choice.Choice.{Choice}
use Rattle.step_text.specs.Focus.{undeclared_name}
use Rattle.command_requests.specs.declared.opening.Opening.{Opening}
use Rattle.command_requests.specs.declared.request.ProgramFile.{ProgramFile}
use Rattle.command_requests.specs.declared.run_words.RunWords.{RunWords}
use Rattle.command_requests.specs.declared.step_words.StepWords.{StepWords}
use Rattle.command_facts.specs.Found.{IsOpening}
use Rattle.command_facts.specs.Held.{IsListingIn, StopsAtListing, StopsAtProgram}
use Rattle.command_facts.specs.Refused.{IsProgramIn, IsToldWith, StopsAtOpening}

-- ---- names

-- a name that is to be shown is that of no declaration
abbrev pub IsUnknownIn : List SharedEntry → Choice → Stop → About → Type 0
IsUnknownIn layout shown (stop.Number word) a = (unknown_name layout shown ≡ Some word.now) × (a ≡ about.Nothing)
IsUnknownIn layout shown _ a = ⊥

-- a name of which alone is to be told is none that the program has
abbrev pub IsForeignTo : ProgramTree → StepWords → Stop → About → Type 0
IsForeignTo tree steps (stop.Number word) a = (undeclared_name tree steps.only ≡ Some word.now) × (a ≡ about.Nothing)
IsForeignTo tree steps _ a = ⊥

-- what a call names that its program doesn't have: nothing; of what is shown; of what is told statement by statement
abbrev pub NamesNone : Checked → Halted → Type 0
NamesNone program h = ⊥

abbrev pub NamesUnknown : Choice → Checked → Halted → Type 0
NamesUnknown shown program h = IsUnknownIn program.layout shown h.stop h.about

abbrev pub NamesForeign : StepWords → Checked → Halted → Type 0
NamesForeign steps program h = IsUnknownIn program.layout steps.drawn h.stop h.about ⊎ IsForeignTo program.tree steps h.stop h.about

-- ---- runs

-- why workers don't run a program so
abbrev pub IsRefusedTo : RunWords → Checked → List ℤ → Refusal → Type 0
IsRefusedTo words program input r = IsProgramRefusedWith program input words.options words.reserve r

-- a run is refused for that, which is told with the numbers of its values and cells
abbrev pub IsRefusedRun : (Refuses : Refusal → Type 0) → (values cells : ℕ) → Stop → About → Type 0
IsRefusedRun Refuses values cells (stop.Refused r) a = Refuses r × IsToldWith r values cells a
IsRefusedRun Refuses values cells _ a = ⊥

-- that of the file's program on what its cells hold
pub record StopsAtRun (holds : List ℕ → Option (List ℕ) → Type 0) (file : ProgramFile) (opening : Opening)
    (Refuses : Checked → List ℤ → Refusal → Type 0) (h : Halted) : Type 0 where
  pub program : Checked
  pub is : IsProgramIn holds file program
  pub input : List ℤ
  pub given : IsOpening holds program.layout opening input
  pub refused : IsRefusedRun (Refuses program input) (length input) (total_size program.layout) h.stop h.about

-- that of the file's code
pub record StopsAtCodeRun (holds : List ℕ → Option (List ℕ) → Type 0) (file : List ℕ) (words : RunWords) (h : Halted) : Type 0 where
  pub code : SuperstepCode
  pub is : IsListingIn (holds file) code
  pub verified : IsWellFormed code
  pub input : List ℤ
  pub given : IsOpening holds code.layout words.opening input
  pub refused : IsRefusedRun (IsCodeRefusedWith code input words.options words.reserve) (length input) (total_size code.layout)
      h.stop h.about

-- ---- calls

-- the call stops behind the program's file: at what it names, or at what its cells hold
abbrev pub StopsBehindProgram : (List ℕ → Option (List ℕ) → Type 0) → ProgramFile → Opening → (Names : Checked → Halted → Type 0) →
    Halted → Type 0
StopsBehindProgram holds file opening Names h =
    (program : Checked) × IsProgramIn holds file program × (Names program h ⊎ StopsAtOpening holds program.layout opening h)

-- or behind the listing's
abbrev pub StopsBehindListing : (List ℕ → Option (List ℕ) → Type 0) → List ℕ → RunWords → Choice → Halted → Type 0
StopsBehindListing holds file words shown h =
    (code : SuperstepCode) × IsListingIn (holds file) code × IsWellFormed code
    × (IsUnknownIn code.layout shown h.stop h.about ⊎ StopsAtOpening holds code.layout words.opening h)

-- The code of a file's program is not compiled, for want of memory.
abbrev pub StopsAtCode : (List ℕ → Option (List ℕ) → Type 0) → ProgramFile → Halted → Type 0
StopsAtCode holds file h =
    ((program : Checked) × IsProgramIn holds file program) × (h.stop ≡ stop.Refused refusal.OutOfMemory) × (h.about ≡ about.Nothing)

-- why it isn't found: the program's file, or that
abbrev pub RefusesCode : (List ℕ → Option (List ℕ) → Type 0) → ProgramFile → Halted → Type 0
RefusesCode holds file h = StopsAtProgram (holds file.name.now) file h ⊎ StopsAtCode holds file h

-- Why a run of a file's program finds nothing, in this order: its file; what is named, and what the cells hold; the run.
abbrev pub RefusesRun : (List ℕ → Option (List ℕ) → Type 0) → ProgramFile → Opening → (Names : Checked → Halted → Type 0) →
    (Refuses : Checked → List ℤ → Refusal → Type 0) → Halted → Type 0
RefusesRun holds file opening Names Refuses h = StopsAtProgram (holds file.name.now) file h
    ⊎ (StopsBehindProgram holds file opening Names h ⊎ StopsAtRun holds file opening Refuses h)

-- that of a run by the definition, and of one by workers
abbrev pub RefusesMeaning : (List ℕ → Option (List ℕ) → Type 0) → ProgramFile → Opening → (Names : Checked → Halted → Type 0) → Halted →
    Type 0
RefusesMeaning holds file opening Names h = RefusesRun holds file opening Names IsMeaningRefused h

abbrev pub RefusesWorkers : (List ℕ → Option (List ℕ) → Type 0) → ProgramFile → RunWords → (Names : Checked → Halted → Type 0) → Halted →
    Type 0
RefusesWorkers holds file words Names h = RefusesRun holds file words.opening Names (IsRefusedTo words) h

-- why a run of a file's code does
abbrev pub RefusesCodeRun : (List ℕ → Option (List ℕ) → Type 0) → List ℕ → RunWords → Choice → Halted → Type 0
RefusesCodeRun holds file words shown h =
    StopsAtListing (holds file) file h ⊎ (StopsBehindListing holds file words shown h ⊎ StopsAtCodeRun holds file words h)
