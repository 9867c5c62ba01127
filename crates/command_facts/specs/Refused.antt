-- Why a call finds nothing.
use Rattle.std.specs.Prelude.{◌≡◌, ℕ, List, Option, Some, None}
use Rattle.pram_model.specs.Layout.{SharedEntry}
use Rattle.pram_check.specs.Checked.{Checked}
use Rattle.program_texts.specs.Report.{IsProgramOf}
use Rattle.program_texts.specs.declared.from_text.Refusal.{Refusal}
use Rattle.program_texts.specs.declared.from_text.Refusal.TheVariants as refusal
use Rattle.program_texts.specs.declared.stop.Stop.{Stop}
use Rattle.program_texts.specs.declared.stop.Stop.TheVariants as stop
use Rattle.diagnoses.specs.declared.about.About.{About}
use Rattle.diagnoses.specs.declared.about.About.TheVariants as about
use Rattle.diagnoses.specs.declared.about.Unread.TheVariants as unread
use Rattle.diagnoses.specs.declared.halted.Halted.{Halted}
use Rattle.sized_texts.specs.Pieces.{Expansion}
use Rattle.command_requests.specs.declared.opening.Opening.{Opening}
use Rattle.command_requests.specs.declared.opening.Opening.TheVariants as opening
use Rattle.command_requests.specs.declared.request.ProgramFile.{ProgramFile}
use Rattle.command_requests.specs.Expanded.{IsExpandedBy}
use Rattle.command_facts.specs.Held.{IsExpansionIn, StopsAtInput, StopsAtMemory, StopsAtProgram}

-- ---- what is told of a run that is refused

-- so many values, and cells for so many
abbrev pub AreNumbers : About → (values cells : ℕ) → Type 0
AreNumbers (about.Values told room) values cells = (told ≡ values) × (room ≡ cells)
AreNumbers _ values cells = ⊥

-- An input with too many values is told with their number and that of the cells; of nothing else more is known than its line says.
abbrev pub IsToldWith : Refusal → (values cells : ℕ) → About → Type 0
IsToldWith refusal.InputTooLong values cells a = AreNumbers a values cells
IsToldWith _ values cells a = a ≡ about.Nothing

-- ---- programs

-- the program is that of what all that its file holds comes to by the sizes of the words
pub record IsProgramIn (holds : List ℕ → Option (List ℕ) → Type 0) (file : ProgramFile) (program : Checked) : Type 0 where
  pub expansion : Expansion
  pub is_expansion : IsExpansionIn (holds file.name.now) file.sizes.items expansion
  pub is_program : IsProgramOf expansion.text program

-- the program is that of what this text, which is all that its file holds, comes to by the sizes of the words
pub record IsProgramOfText (holds : List ℕ → Option (List ℕ) → Type 0) (file : ProgramFile) (text : List ℕ) (program : Checked) :
    Type 0 where
  pub held : holds file.name.now (Some text)
  pub expansion : Expansion
  pub is_expansion : IsExpandedBy file.sizes.items text expansion
  pub is_program : IsProgramOf expansion.text program

-- the program of a file, where one is named; none where none is
abbrev pub IsProgramWhereNamed : (List ℕ → Option (List ℕ) → Type 0) → Option ProgramFile → Option Checked → Type 0
IsProgramWhereNamed holds None program = program ≡ None
IsProgramWhereNamed holds (Some file) None = ⊥
IsProgramWhereNamed holds (Some file) (Some program) = IsProgramIn holds file program

-- the call stops at that file
abbrev pub StopsWhereNamed : (List ℕ → Option (List ℕ) → Type 0) → Option ProgramFile → Halted → Type 0
StopsWhereNamed holds None h = ⊥
StopsWhereNamed holds (Some file) h = StopsAtProgram (holds file.name.now) file h

-- ---- what cells hold

-- the call stops at what its cells hold before the first statement: at the file of its input or of its memory, or for want of memory
abbrev pub StopsAtOpening : (List ℕ → Option (List ℕ) → Type 0) → List SharedEntry → Opening → Halted → Type 0
StopsAtOpening holds layout opening.Zeros h = ⊥
StopsAtOpening holds layout (opening.Input name) h = StopsAtInput (holds name.now) name.now h
StopsAtOpening holds layout (opening.Memory name) h = StopsAtMemory (holds name.now) name.now layout h
StopsAtOpening holds layout (opening.Drawn drawing) h = (h.stop ≡ stop.Refused refusal.OutOfMemory) × (h.about ≡ about.Nothing)
StopsAtOpening holds layout (opening.OfKind kind seed) h = (h.stop ≡ stop.Refused refusal.OutOfMemory) × (h.about ≡ about.Nothing)

-- ---- files that are written

-- the file of that name isn't written: it can't be (P2), or memory was refused (E16)
abbrev pub IsUnwritten : (name : List ℕ) → Stop → About → Type 0
IsUnwritten name (stop.Unreadable word) (about.File unread.Unwritable) = word.now ≡ name
IsUnwritten name (stop.Refused refusal.OutOfMemory) about.Nothing = Unit {0}
IsUnwritten name _ _ = ⊥
