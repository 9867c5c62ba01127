-- A run that is told statement by statement.
use Rattle.std.specs.Prelude.{◌≡◌, ℕ, Bool, ◌||◌, List, ◌++◌, Option, Some, None, true, false}
use Rattle.std.specs.Borrow.{Bor}
use Rattle.pram_model.specs.Layout.{SharedEntry}
use Rattle.pram_trees.specs.Program.{ProgramTree}
use Rattle.pram_check.specs.Checked.{Checked}
use Rattle.memory_texts.specs.declared.choice.Choice.{Choice}
use Rattle.memory_texts.specs.declared.choice.Choice.TheVariants.{All, Named, Nothing}
use Rattle.write_rules.specs.Verdict.{verdict_of}
use Rattle.write_rules.specs.declared.outcome.Outcome.{Outcome}
use Rattle.program_texts.specs.Shown.{shown}
use Rattle.journal.specs.Entries.{Entry}
use Rattle.step_text.specs.declared.focus.Focus.{Focus}
use Rattle.step_text.specs.StepText.{steps_text}
use Rattle.step_text.specs.declared.manner.Manner.{Manner}
use Rattle.step_text.specs.declared.manner.Manner.TheVariants.{OnTerminal, Plain}
use Rattle.step_text.specs.declared.telling.Detail.{Detail}
use Rattle.step_text.specs.declared.telling.Telling.{Telling}
use Rattle.command_requests.specs.declared.step_words.StepWords.{StepWords}
use Rattle.command_text.specs.declared.terminal.Terminal.{Terminal}

-- Entries are written plainly; where standard output is a terminal, beside the text, and in colours if these are wanted.
abbrev pub IsManner : Terminal → (text : List ℕ) → Manner → Type 0
IsManner on text Plain = on.output ≡ false
IsManner on text (OnTerminal source colours) = (on.output ≡ true) × (source.now ≡ text) × (colours ≡ on.colours)

abbrev pub are_given : (names : Choice) → Bool
are_given All = false
are_given Nothing = false
are_given (Named word) = true

-- Variables and locals are told where that is asked for, or names are given.
abbrev pub tells_locals : StepWords → Bool
tells_locals words = words.locals || are_given words.only

-- They are told by the names of the program's tree.
abbrev pub AreNames : (locals : Bool) → ProgramTree → Option (Bor ProgramTree) → Type 0
AreNames locals tree None = locals ≡ false
AreNames locals tree (Some named) = (locals ≡ true) × (named.now ≡ tree)

-- Columns are told too, those of the text that its sizes give, where that is asked for.
abbrev pub AreColumns : (columns : Bool) → (sized : List ℕ) → Option (Bor (List ℕ)) → Type 0
AreColumns columns sized None = columns ≡ false
AreColumns columns sized (Some text) = (columns ≡ true) × (text.now ≡ sized)

abbrev pub IsDetail : StepWords → (sized : List ℕ) → ProgramTree → Detail → Type 0
IsDetail words sized tree d = AreNames (tells_locals words) tree d.locals × AreColumns words.columns sized d.columns

-- Of each entry is looked at what bears one of the names that are given, and at a fault at the locals where that is asked for.
abbrev pub IsFocus : StepWords → Checked → Focus → Type 0
IsFocus words program f =
    (f.names ≡ words.only) × (f.layout.now ≡ program.layout) × (f.tree.now ≡ program.tree) × (f.at_faults ≡ words.locals)

-- of this program: beside the text as it stands in its file, with places in the text that its sizes give
abbrev pub IsTelling : Terminal → StepWords → (text sized : List ℕ) → Checked → Telling → Type 0
IsTelling on words text sized program t =
    IsManner on text t.manner × IsDetail words sized program.tree t.detail × IsFocus words program t.focus

-- the entries whose numbers, counted from 1, go from `first` to `last`, and behind them the outcome
abbrev pub told_text : List SharedEntry → Telling → Outcome → List Entry → (first last : ℕ) → List ℕ
told_text layout telling outcome entries first last = steps_text layout telling first last entries ++ shown layout (verdict_of outcome)
