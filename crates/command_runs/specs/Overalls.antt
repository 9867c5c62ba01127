-- What calls find of a program on all inputs of a scope together.
use Rattle.std.specs.Prelude.{◌≡◌, ◌⊎◌, ◌<◌, ◌≤◌, ℕ, ℤ, List, Option, IfOk, IsOk}
use Rattle.std.specs.Option.{unwrap_or}
use Rattle.pram_model.specs.Layout.{total_size}
use Rattle.pram_check.specs.Checked.{Checked}
use Rattle.write_rules.specs.Verdict.{Verdict, Ended}
use Rattle.pram_meaning.specs.Outcome.{IsOutcome}
use Rattle.costs.specs.Cost.{time}
use Rattle.costs.specs.Steps.{run_steps}
use Rattle.all_inputs.specs.Overall.{HasOneInput, IsInScope, IsJust, IsToldOf, MayEndBehind}
use Rattle.all_inputs.specs.declared.overall.Overall.{Overall}
use Rattle.all_inputs.specs.declared.scope.Scope.{Scope}
use Rattle.command_requests.specs.declared.request.ProgramFile.{ProgramFile}
use Rattle.command_requests.specs.declared.always_words.AlwaysWords.{AlwaysWords}
use Rattle.diagnoses.specs.declared.about.About.{About}
use Rattle.diagnoses.specs.declared.about.About.TheVariants as about
use Rattle.diagnoses.specs.declared.halted.Halted.{Halted}
use Rattle.program_texts.specs.declared.from_text.Refusal.TheVariants as refusal
use Rattle.program_texts.specs.declared.stop.Stop.{Stop}
use Rattle.program_texts.specs.declared.stop.Stop.TheVariants as stop
use Rattle.command_facts.specs.declared.found.FoundOverall.{FoundOverall}
use Rattle.command_facts.specs.declared.loaded.Loaded.{Loaded}
use Rattle.command_facts.specs.Found.{IsLoaded}
use Rattle.command_facts.specs.Held.{StopsAtProgram}
use Rattle.command_facts.specs.Refused.{AreNumbers, IsProgramIn}
use Rattle.command_runs.specs.Scopes.{under_rule}

-- as many values as are asked for, or as there are cells
abbrev pub values_of : AlwaysWords → Checked → ℕ
values_of words program = unwrap_or words.cells (total_size program.layout)

-- these inputs, which have no more values than there are cells
pub record IsAsked (words : AlwaysWords) (program : Checked) (scope : Scope) : Type 0 where
  pub values : scope.values ≡ values_of words program
  pub interval : scope.of ≡ words.of
  pub fit : scope.values ≤ total_size program.layout

-- of a scope of one input the outcome itself is told
abbrev pub TellsTheOne : (program : Checked) (scope : Scope) (bound : ℕ) (overall : Overall) → Type 0
TellsTheOne program scope bound overall = HasOneInput scope → (input : List ℤ) (verdict : Verdict) → IsInScope scope input →
    IsOutcome program input bound verdict → IsJust overall verdict

-- what is told holds of the outcome and of the time of the run on each input of the scope
pub record TellsAll (program : Checked) (scope : Scope) (bound : ℕ) (overall : Overall) : Type 0 where
  pub outcomes : (input : List ℤ) (verdict : Verdict) → IsInScope scope input → IsOutcome program input bound verdict →
      IsToldOf program.layout overall verdict
  pub times : (input output memory : List ℤ) → IsInScope scope input → IsOutcome program input bound (Ended output memory) →
      MayEndBehind overall (time (run_steps program input bound))

-- it does, and the outcome itself is told of one input alone
pub record Tells (program : Checked) (scope : Scope) (bound : ℕ) (overall : Overall) : Type 0 where
  pub all : TellsAll program scope bound overall
  pub one : TellsTheOne program scope bound overall

-- what one run of the file's program tells of its runs on all inputs that are asked for, within so many statements each
pub record IsSurveyed (holds : List ℕ → Option (List ℕ) → Type 0) (file : ProgramFile) (words : AlwaysWords) (bound : ℕ) (f : FoundOverall)
    : Type 0 where
  pub loaded : Loaded
  pub is_loaded : IsLoaded (holds file.name.now) file loaded
  pub ran : f.program ≡ under_rule words.rule loaded.program
  pub asked : IsAsked words f.program f.scope
  pub told : IfOk f.told (Tells f.program f.scope bound)
  pub decided : HasOneInput f.scope → IsOk f.told

-- the inputs have more values than the program has cells, which is told with both numbers; or memory was refused
abbrev pub IsUnfitFor : (values cells : ℕ) → Stop → About → Type 0
IsUnfitFor values cells (stop.Refused refusal.InputTooLong) a = (cells < values) × AreNumbers a values cells
IsUnfitFor values cells (stop.Refused refusal.OutOfMemory) a = a ≡ about.Nothing
IsUnfitFor values cells _ a = ⊥

-- why nothing is found: for the program's file, or for its run
abbrev pub StopsAtSurvey : (List ℕ → Option (List ℕ) → Type 0) → ProgramFile → AlwaysWords → Halted → Type 0
StopsAtSurvey holds file words h = StopsAtProgram (holds file.name.now) file h
    ⊎ ((program : Checked) × IsProgramIn holds file program × IsUnfitFor (values_of words program) (total_size program.layout)
    h.stop h.about)
