-- What calls find of the runs of programs and of listings.
use Rattle.std.specs.Prelude.{◌≡◌, ◌≤◌, ℕ, ℤ, Bool, true, false, List, [], length, Option, Some, None, ◌+◌, ◌/◌}
use Rattle.pram_trees.specs.Program.{ProgramTree}
use Rattle.pram_model.specs.Layout.{SharedEntry, total_size}
use Rattle.pram_check.specs.Checked.{Checked}
use Rattle.superstep_machine.specs.Trace.{Exchange}
use Rattle.bsp_verify.specs.WellFormed.{IsWellFormed}
use Rattle.superstep_instructions.specs.Code.{SuperstepCode}
use Rattle.sized_texts.specs.Pieces.{Expansion}
use Rattle.write_rules.specs.Verdict.{verdict_of}
use Rattle.program_texts.specs.Report.{IsMeaningOf}
use Rattle.costs.specs.declared.cost.Cost.{Cost}
use Rattle.costs.specs.Communication.{most_words}
use Rattle.costs.specs.Steps.{run_steps}
use Rattle.costs.specs.declared.time_step.TimeStep.{TimeStep}
use Rattle.costs.specs.Cost as cost
use Rattle.exchange_bound.specs.Bound.{exchange_bound}
use Rattle.comparing.specs.Compared.{IsComparison}
use Rattle.comparing.specs.declared.rules.UnderRules.{UnderRules}
use Rattle.exchange_lines.specs.Lines.{AreLinesOf}
use Rattle.program_runs.specs.Compiled.{IsCodeOf, IsCompiledFrom}
use Rattle.program_runs.specs.Reserved.{IsCodeRunWith, IsProgramRunWith}
use Rattle.memory_texts.specs.Chosen.{unknown_name}
use Rattle.memory_texts.specs.declared.choice.Choice.{Choice}
use Rattle.step_text.specs.Focus.{undeclared_name}
use Rattle.command_requests.specs.declared.cost_words.CostWords.{CostWords}
use Rattle.command_requests.specs.declared.opening.Opening.{Opening}
use Rattle.command_requests.specs.declared.request.ProgramFile.{ProgramFile}
use Rattle.command_requests.specs.declared.run_words.MeaningWords.{MeaningWords}
use Rattle.command_requests.specs.declared.run_words.RunWords.{RunWords}
use Rattle.command_requests.specs.declared.step_words.StepWords.{StepWords}
use Rattle.command_requests.specs.declared.trace_words.TraceWords.{TraceWords}
use Rattle.command_facts.specs.declared.found.FoundCode.{FoundCode}
use Rattle.command_facts.specs.declared.found.FoundRun.{FoundRun}
use Rattle.command_facts.specs.declared.found.FoundSteps.{FoundSteps}
use Rattle.command_facts.specs.declared.found.FoundTrace.{FoundTrace}
use Rattle.command_facts.specs.declared.loaded.Loaded.{Loaded}
use Rattle.command_facts.specs.Found.{IsLoaded, IsOpening, ending_text}
use Rattle.command_facts.specs.Held.{IsExpansionIn, IsListingIn}
use Rattle.command_runs.specs.Timed.{IsLimitOf, asked_of, behind}

-- ---- code

-- The code of a program's file is compiled from what all that the file holds comes to by the sizes of the words.
abbrev pub IsCodeOfFile : (List ℕ → Option (List ℕ) → Type 0) → ProgramFile → SuperstepCode → Type 0
IsCodeOfFile holds file code =
    (e : Expansion) × IsExpansionIn (holds file.name.now) file.sizes.items e × IsCompiledFrom e.text code

-- ---- costs

-- the numbers of a run that takes these time steps, where rounds are those on q processors
pub record IsCost (ss : List TimeStep) (q : ℕ) (c : Cost) : Type 0 where
  pub time : c.time ≡ cost.time ss
  pub work : c.work ≡ cost.work ss
  pub width : c.width ≡ cost.most_processors ss
  pub reads : c.reads ≡ cost.reads ss
  pub writes : c.writes ≡ cost.writes ss
  pub rounds : c.rounds ≡ cost.rounds q ss
  pub most_rounds : c.most_rounds ≡ cost.work ss / q + cost.time ss
  pub lines : c.lines.items ≡ cost.line_costs ss

-- Rounds are told on as many processors as are asked for; where none are, no rounds are told.
abbrev pub processors_of : Option ℕ → ℕ
processors_of None = 1
processors_of (Some q) = q

-- What a program's run on an input within n statements costs; where a number of workers is asked for, with the most words that they send.
abbrev pub IsCostOf : Checked → List ℤ → ℕ → (schedule workers : Option ℕ) → Cost → Type 0
IsCostOf program input n schedule workers c =
    IsCost (run_steps program input n) (processors_of schedule) c × (c.most_exchanges ≡ exchange_bound program input n)
    × (c.most_words ≡ most_words program workers input n)

-- ---- names

-- The declarations that are to be shown are there.
abbrev pub AreThere : List SharedEntry → Choice → Type 0
AreThere layout shown = unknown_name layout shown ≡ None

-- The program has the names of which alone is to be told.
abbrev pub AreNamed : ProgramTree → StepWords → Type 0
AreNamed tree steps = undeclared_name tree steps.only ≡ None

-- ---- runs

-- the run of the file's program on what its cells hold, with its outcome by the language's definition
pub record IsRunOf (holds : List ℕ → Option (List ℕ) → Type 0) (file : ProgramFile) (opening : Opening) (r : FoundRun) : Type 0 where
  pub loaded : IsLoaded (holds file.name.now) file r.loaded
  pub given : IsOpening holds r.loaded.program.layout opening r.input.items
  pub meaning : IsMeaningOf r.loaded.program r.input.items r.limit.bound (verdict_of r.outcome)

-- by the definition, in time
pub record IsMeant (holds : List ℕ → Option (List ℕ) → Type 0) (file : ProgramFile) (words : MeaningWords) (r : FoundRun) : Type 0 where
  pub run : IsRunOf holds file words.opening r
  pub limit : IsLimitOf words r.limit

-- by workers, in these exchanges
pub record IsRunByWorkers (holds : List ℕ → Option (List ℕ) → Type 0) (file : ProgramFile) (words : RunWords) (r : FoundRun)
    (exchanges : List Exchange) : Type 0 where
  pub run : IsRunOf holds file words.opening r
  pub limit : r.limit ≡ behind words.options.bound
  pub ran : IsProgramRunWith r.loaded.program r.input.items words.options words.reserve (verdict_of r.outcome) exchanges

-- ---- what is found of them

-- a run by the definition, of which some declarations are shown
abbrev pub IsMeaningFound : (List ℕ → Option (List ℕ) → Type 0) → ProgramFile → MeaningWords → Choice → FoundRun → Type 0
IsMeaningFound holds file words shown r = IsMeant holds file words r × AreThere r.loaded.program.layout shown

-- what it costs
abbrev pub IsCostFound : (List ℕ → Option (List ℕ) → Type 0) → ProgramFile → MeaningWords → CostWords → FoundRun → Cost → Type 0
IsCostFound holds file words costs r c =
    IsMeant holds file words r × IsCostOf r.loaded.program r.input.items r.limit.bound costs.schedule costs.workers c

-- a run by workers, of which some declarations are shown
abbrev pub IsRunFound : (List ℕ → Option (List ℕ) → Type 0) → ProgramFile → RunWords → Choice → FoundRun → Type 0
IsRunFound holds file words shown r =
    ((exchanges : List Exchange) × IsRunByWorkers holds file words r exchanges) × AreThere r.loaded.program.layout shown

-- where they are asked for, the lines of the exchanges of the program's code, whatever the workers and their map
abbrev pub AreLinesAsked : (asked : Bool) → Checked → List ℤ → (bound : ℕ) → List ℕ → Type 0
AreLinesAsked false program input bound lines = lines ≡ []
AreLinesAsked true program input bound lines = (code : SuperstepCode) × IsCodeOf program code × AreLinesOf code input bound lines

-- its exchanges
pub record IsTraceFound (holds : List ℕ → Option (List ℕ) → Type 0) (file : ProgramFile) (words : RunWords) (trace : TraceWords)
    (r : FoundRun) (t : FoundTrace) : Type 0 where
  pub run : IsRunByWorkers holds file words r t.counts
  pub lines : AreLinesAsked trace.lines r.loaded.program r.input.items r.limit.bound t.lines.items
  pub ends : t.ends.items ≡ ending_text r.loaded.program.layout (verdict_of r.outcome)

-- The file's program is to be run on the call's input, and told so.
pub record IsStepsFound (holds : List ℕ → Option (List ℕ) → Type 0) (file : ProgramFile) (words : MeaningWords) (steps : StepWords)
    (s : FoundSteps) : Type 0 where
  pub loaded : IsLoaded (holds file.name.now) file s.loaded
  pub given : IsOpening holds s.loaded.program.layout words.opening s.input.items
  pub limit : s.limit ≡ asked_of words
  pub there : AreThere s.loaded.program.layout steps.drawn
  pub named : AreNamed s.loaded.program.tree steps
  pub asked : s.words ≡ steps

-- how the file's program comes out under each rule, on the call's input within its bound
pub record IsComparisonFound (holds : List ℕ → Option (List ℕ) → Type 0) (file : ProgramFile) (opening : Opening) (bound : ℕ)
    (c : UnderRules) : Type 0 where
  pub loaded : Loaded
  pub is_loaded : IsLoaded (holds file.name.now) file loaded
  pub input : List ℤ
  pub given : IsOpening holds loaded.program.layout opening input
  pub declared : c.layout ≡ loaded.program.layout
  pub fits : length input ≤ total_size c.layout
  pub compared : IsComparison loaded.program input bound c

-- the outcome of the file's code on the call's input, by workers
pub record IsCodeFound (holds : List ℕ → Option (List ℕ) → Type 0) (file : List ℕ) (words : RunWords) (shown : Choice) (c : FoundCode)
    : Type 0 where
  pub listing : IsListingIn (holds file) c.code
  pub verified : IsWellFormed c.code
  pub asked : c.shown ≡ shown
  pub there : AreThere c.code.layout shown
  pub input : List ℤ
  pub given : IsOpening holds c.code.layout words.opening input
  pub ran : (exchanges : List Exchange) × IsCodeRunWith c.code input words.options words.reserve (verdict_of c.outcome) exchanges
