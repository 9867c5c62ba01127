-- What calls find of a program on the inputs of a scope, or on some that are drawn.
use Rattle.std.specs.Prelude.{◌≡◌, ◌⊎◌, ◌<◌, ◌≤◌, ℕ, ℤ, Bool, true, false, List, Option, Some, None, take}
use Rattle.std.specs.Option.{unwrap_or}
use Rattle.drawn_kinds.specs.Names.{declarations}
use Rattle.pram_model.specs.Layout.{total_size}
use Rattle.pram_model.specs.declared.rule.Rule.{Rule}
use Rattle.pram_check.specs.Checked.{Checked}
use Rattle.pram_check.specs.OtherRule.{under}
use Rattle.scopes.specs.Found.{Found, found, found_is}
use Rattle.scopes.specs.Scopes.{inputs_of}
use Rattle.scopes.specs.Shrunk.{AreShrunk}
use Rattle.scopes.specs.Specified.{most_values}
use Rattle.scopes.specs.declared.scope.Scope.{Scope}
use Rattle.scopes.specs.declared.specification.Specification.{Specification}
use Rattle.comparing.specs.Found.{AreOfKind, drawn_inputs}
use Rattle.command_requests.specs.declared.input_words.DrawnWords.{DrawnWords}
use Rattle.command_requests.specs.declared.input_words.KindWords.{KindWords}
use Rattle.command_requests.specs.declared.request.ProgramFile.{ProgramFile}
use Rattle.command_requests.specs.declared.scope_words.ExploredInputs.{ExploredInputs}
use Rattle.command_requests.specs.declared.scope_words.ExploredInputs.TheVariants as inputs
use Rattle.command_requests.specs.declared.scope_words.ScopeWords.{ScopeWords}
use Rattle.command_requests.specs.declared.specification_files.SpecificationFiles.{SpecificationFiles}
use Rattle.diagnoses.specs.declared.about.About.{About}
use Rattle.diagnoses.specs.declared.about.About.TheVariants as about
use Rattle.program_texts.specs.declared.from_text.Refusal.TheVariants as refusal
use Rattle.program_texts.specs.declared.stop.Stop.{Stop}
use Rattle.program_texts.specs.declared.stop.Stop.TheVariants as stop
use Rattle.command_facts.specs.declared.found.FoundScope.{FoundScope}
use Rattle.diagnoses.specs.declared.halted.Halted.{Halted}
use Rattle.command_facts.specs.declared.loaded.Loaded.{Loaded}
use Rattle.command_facts.specs.Found.{IsLoaded}
use Rattle.command_facts.specs.Held.{StopsAtProgram}
use Rattle.command_facts.specs.Refused.{AreNumbers, IsProgramIn, IsProgramWhereNamed}
use Rattle.command_runs.specs.Specified.{IsSpecification, StopsAtSpecification}

-- a program under the rule that is asked for, or under its own
abbrev pub under_rule : Option Rule → Checked → Checked
under_rule None program = program
under_rule (Some rule) program = under rule program

-- how many cells are drawn: as many as the words say, or all of the program
abbrev pub cells_drawn : DrawnWords → Checked → ℕ
cells_drawn d p = unwrap_or d.cells (total_size p.layout)

-- how many values each input of a kind has: as many as the words say, or as the first declaration or, of a graph, the first two have cells
abbrev pub kind_cells : KindWords → Checked → ℕ
kind_cells w p = unwrap_or w.cells (total_size (take (declarations w.kind) p.layout))

-- that, where inputs are drawn
abbrev pub drawn_of : ExploredInputs → Checked → Option ℕ
drawn_of (inputs.Scope few shrink) p = None
drawn_of (inputs.Drawn d) p = Some (cells_drawn d p)
drawn_of (inputs.OfKind w) p = Some (kind_cells w p)

-- how many values each input has
abbrev pub values_each : ExploredInputs → Checked → ℕ
values_each (inputs.Scope few shrink) p = few.scope.count
values_each (inputs.Drawn d) p = cells_drawn d p
values_each (inputs.OfKind w) p = kind_cells w p

-- what is told of what is found on all inputs of a scope: with smaller inputs where that is asked for, else as it is
abbrev pub IsToldOfAll : (shrink : Bool) → Scope → Specification → Checked → ℕ → Found → Type 0
IsToldOfAll true scope s p n told = AreShrunk scope s p n (found s p n (inputs_of scope)) told
IsToldOfAll false scope s p n told = told ≡ found s p n (inputs_of scope)

-- what is told: of all inputs of a scope, or as it is of those that the seeds draw, numbers or of a kind
abbrev pub IsTold : ExploredInputs → Specification → Checked → ℕ → Found → Type 0
IsTold (inputs.Scope few shrink) s p n told = IsToldOfAll shrink few.scope s p n told
IsTold (inputs.Drawn d) s p n told =
    told ≡ found s p n (drawn_inputs d.drawing.low d.drawing.high d.drawing.seed (cells_drawn d p) d.count)
IsTold (inputs.OfKind w) s p n told =
    (is : List (List ℤ)) × AreOfKind w.kind w.seed (kind_cells w p) w.count is × (told ≡ found s p n is)

-- what is told of the file's program on these inputs, by the programs of the other files under their own rules, within so many statements
-- each, by 1 to 32 workers; an input has no more values than the program has cells, and the precondition
pub record IsExplored (holds : List ℕ → Option (List ℕ) → Type 0) (file : ProgramFile) (files : SpecificationFiles) (scope : ScopeWords)
    (bound : ℕ) (f : FoundScope) : Type 0 where
  pub loaded : Loaded
  pub is_loaded : IsLoaded (holds file.name.now) file loaded
  pub ran : f.program ≡ under_rule scope.rule loaded.program
  pub specification : IsSpecification holds loaded.program.layout files f.specification
  pub some : 1 ≤ scope.workers
  pub few : scope.workers ≤ 32
  pub fit : values_each scope.inputs f.program ≤ most_values f.specification.precondition f.program
  pub drawn : f.drawn ≡ drawn_of scope.inputs f.program
  pub told : IsTold scope.inputs f.specification f.program bound (found_is f.findings)

-- There are no workers, or more than 32; the inputs have more values than there are cells for them, which is told with both numbers; or
-- memory was refused.
abbrev pub IsRefusedFor : (workers values cells : ℕ) → Stop → About → Type 0
IsRefusedFor workers values cells (stop.Refused refusal.BadWorkers) a = ((workers < 1) ⊎ (32 < workers)) × (a ≡ about.Nothing)
IsRefusedFor workers values cells (stop.Refused refusal.InputTooLong) a = (cells < values) × AreNumbers a values cells
IsRefusedFor workers values cells (stop.Refused refusal.OutOfMemory) a = a ≡ about.Nothing
IsRefusedFor workers values cells _ a = ⊥

-- the runs are refused: there are cells for as many values as the program has, and the precondition
abbrev pub StopsAtRuns : (List ℕ → Option (List ℕ) → Type 0) → SpecificationFiles → ScopeWords → Checked → Halted → Type 0
StopsAtRuns holds files scope program h = (pre : Option Checked) × IsProgramWhereNamed holds files.precondition pre
    × IsRefusedFor scope.workers (values_each scope.inputs program) (most_values pre program) h.stop h.about

-- why nothing is found: for the program's file, for those of precondition and postcondition, or for the runs
abbrev pub StopsAtExploration : (List ℕ → Option (List ℕ) → Type 0) → ProgramFile → SpecificationFiles → ScopeWords → Halted → Type 0
StopsAtExploration holds file files scope h = StopsAtProgram (holds file.name.now) file h
    ⊎ ((program : Checked) × IsProgramIn holds file program
    × (StopsAtSpecification holds file.name.now program.layout files h ⊎ StopsAtRuns holds files scope program h))
