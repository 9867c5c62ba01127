-- What the files of a call hold, and which file a refusal speaks of.
use Rattle.std.specs.Prelude.{◌≡◌, ◌⊎◌, ℕ, ℤ, List, Option, Some, None, Err}
use Rattle.pram_tokens.specs.Input.{IsInputOf}
use Rattle.pram_tokens.specs.Plain.{IsPlain}
use Rattle.pram_tokens.specs.Scanning.{longest}
use Rattle.pram_model.specs.Layout.{SharedEntry}
use Rattle.pram_names.specs.declared.fault.Cause.TheVariants as cause
use Rattle.pram_names.specs.declared.fault.Spot.TheVariants as spot
use Rattle.pram_check.specs.Checked.{Checked}
use Rattle.memory_texts.specs.Memory.{IsMemoryOf, IsRefused}
use Rattle.memory_texts.specs.declared.memory_fault.MemoryFault.TheVariants as no_memory_text
use Rattle.superstep_instructions.specs.Code.{SuperstepCode}
use Rattle.superstep_listing.specs.Text.{IsListing}
use Rattle.superstep_listing.specs.Text.{longest as longest_listing}
use Rattle.system_files.specs.Files.{IsReadFrom}
use Rattle.program_texts.specs.Report.{IsInputRefusal, IsNoProgram}
use Rattle.program_texts.specs.declared.from_text.Refusal.TheVariants as refusal
use Rattle.program_texts.specs.declared.stop.Stop.{Stop}
use Rattle.program_texts.specs.declared.stop.Stop.TheVariants as stop
use Rattle.diagnoses.specs.declared.about.About.{About}
use Rattle.diagnoses.specs.declared.about.About.TheVariants as about
use Rattle.diagnoses.specs.declared.about.Unread.TheVariants as unread
use Rattle.diagnoses.specs.declared.halted.Halted.{Halted}
use Rattle.diagnoses.specs.Sources.{text_in}
use Rattle.command_requests.specs.declared.request.ProgramFile.{ProgramFile}
use Rattle.command_requests.specs.declared.request.SizeWord.{SizeWord}
use Rattle.diagnoses.specs.declared.source.Source.{Source}
use Rattle.sized_texts.specs.Pieces.{Expansion}
use Rattle.command_requests.specs.Expanded.{HasExpansion, HasNoExpansion, IsExpandedBy}
use Rattle.command_requests.specs.Given.{IsOfSizes}
use Rattle.command_facts.specs.Listings.{IsOfListing, IsUnverifiedText}

-- the file holds an input of these values
abbrev pub IsInputIn : (Option (List ℕ) → Type 0) → List ℤ → Type 0
IsInputIn holds values = (text : List ℕ) × holds (Some text) × IsInputOf text values

-- the file holds a memory of these values, by those declarations
abbrev pub IsMemoryIn : (Option (List ℕ) → Type 0) → List SharedEntry → List ℤ → Type 0
IsMemoryIn holds layout values = (text : List ℕ) × holds (Some text) × IsMemoryOf layout text values

-- the file holds a listing of that code
abbrev pub IsListingIn : (Option (List ℕ) → Type 0) → SuperstepCode → Type 0
IsListingIn holds code = (text : List ℕ) × holds (Some text) × IsListing text code

-- The name stands for no file that can be read.
abbrev pub IsNoFile : (Option (List ℕ) → Type 0) → List ℕ → Stop → Type 0
IsNoFile holds name (stop.Unreadable word) = (word.now ≡ name) × holds None
IsNoFile holds name _ = ⊥

-- there is no file of the name; and one that is spelled nearly so, or none
abbrev pub IsOfMissing : About → Type 0
IsOfMissing (about.File (unread.Missing found)) = Unit {0}
IsOfMissing _ = ⊥

-- That is so, with a reason, of which nothing is known here; or memory was refused.
abbrev pub IsUnread : (Option (List ℕ) → Type 0) → List ℕ → Stop → About → Type 0
IsUnread holds name why (about.File u) = IsNoFile holds name why
IsUnread holds name why about.Nothing = why ≡ stop.Refused refusal.OutOfMemory
IsUnread holds name why _ = ⊥

-- a text that was read is all that the file holds, and has its expansion by the sizes of the words
abbrev pub IsTextIn : (Option (List ℕ) → Type 0) → (words : List SizeWord) → Source → Type 0
IsTextIn holds words s = holds (Some s.bytes.items) × HasExpansion words s.bytes.items s.expansion

-- what all that the file holds comes to by the sizes of the words
abbrev pub IsExpansionIn : (Option (List ℕ) → Type 0) → (words : List SizeWord) → Expansion → Type 0
IsExpansionIn holds words e = (text : List ℕ) × holds (Some text) × IsExpandedBy words text e

-- A call stops at a file that stands for itself: it wasn't read; or what it holds, as far as it was read, has what is told.
abbrev pub IsAtFile : (Option (List ℕ) → Type 0) → List ℕ → (most : ℕ) → (Stop → List ℕ → Type 0) → Stop → About → Type 0
IsAtFile holds name most Has why about.Nothing = why ≡ stop.Refused refusal.OutOfMemory
IsAtFile holds name most Has why (about.File u) = IsNoFile holds name why
IsAtFile holds name most Has why (about.Text s) = IsReadFrom holds most s.bytes.items × (s.expansion ≡ None) × Has why s.bytes.items
IsAtFile holds name most Has (stop.NotVerified at word) (about.Line s line) =
    IsReadFrom holds most s.bytes.items × (s.expansion ≡ None) × IsUnverifiedText at word.now s.bytes.items line
IsAtFile holds name most Has why _ = ⊥

-- A call stops at the text of a program: a word gives no size; or the file wasn't read; or what it holds, as far as it was read, has no
-- expansion by the sizes of the words.
abbrev pub IsAtText : (Option (List ℕ) → Type 0) → ProgramFile → Stop → About → Type 0
IsAtText holds file why about.Nothing = IsOfSizes file.sizes.items why ⊎ (why ≡ stop.Refused refusal.OutOfMemory)
IsAtText holds file why (about.File u) = IsNoFile holds file.name.now why
IsAtText holds file why (about.Text s) =
    IsReadFrom holds longest s.bytes.items × (s.expansion ≡ None) × HasNoExpansion file.sizes.items s.bytes.items why
IsAtText holds file why _ = ⊥

-- the text of a program is refused for that
abbrev pub IsOfProgram : Stop → List ℕ → Type 0
IsOfProgram (stop.Refused r) text = IsNoProgram {X = Checked} text (Err r)
IsOfProgram _ text = ⊥

-- what the text of a file comes to is refused for that
abbrev pub IsAtProgram : (Option (List ℕ) → Type 0) → ProgramFile → Stop → About → Type 0
IsAtProgram holds file why (about.Text s) = IsTextIn holds file.sizes.items s × IsOfProgram why (text_in s)
IsAtProgram holds file why _ = ⊥

-- the text of an input is
abbrev pub IsOfInput : Stop → List ℕ → Type 0
IsOfInput (stop.Refused (refusal.Text fault)) text = IsInputRefusal text fault
IsOfInput (stop.Refused refusal.OutOfMemory) text = IsPlain text
IsOfInput _ text = ⊥

-- the text of a memory is refused for that, for the declarations of a program
abbrev pub IsOfMemory : List SharedEntry → Stop → List ℕ → Type 0
IsOfMemory layout (stop.Refused (refusal.Text fault)) text = IsRefused layout text (no_memory_text.Text fault)
IsOfMemory layout (stop.Refused (refusal.Program b)) text =
    (at : ℕ) × (b ≡ record { spot = spot.Offset at; cause = cause.UnknownName }) × IsRefused layout text (no_memory_text.Unknown at)
IsOfMemory layout (stop.Refused refusal.OutOfMemory) text = IsPlain text
IsOfMemory layout _ text = ⊥

-- it gives some cells too many values
abbrev pub IsTooMuch : List SharedEntry → (values cells : ℕ) → Stop → List ℕ → Type 0
IsTooMuch layout values cells (stop.Refused refusal.InputTooLong) text = IsRefused layout text (no_memory_text.TooMany values cells)
IsTooMuch layout values cells _ text = ⊥

-- the code of a listing is refused for the line that is told, or for want of memory
abbrev pub IsOfCodeIn : List ℕ → Stop → About → Type 0
IsOfCodeIn text (stop.NotVerified at word) (about.Line s line) =
    (s.bytes.items ≡ text) × (s.expansion ≡ None) × IsUnverifiedText at word.now s.bytes.items line
IsOfCodeIn text (stop.Refused refusal.OutOfMemory) about.Nothing = Unit {0}
IsOfCodeIn text _ _ = ⊥

-- the call stops at the text of a program; there, or at what it comes to; at the file of an input, of a listing
abbrev pub StopsAtText : (Option (List ℕ) → Type 0) → ProgramFile → Halted → Type 0
StopsAtText holds file h = IsAtText holds file h.stop h.about

abbrev pub StopsAtProgram : (Option (List ℕ) → Type 0) → ProgramFile → Halted → Type 0
StopsAtProgram holds file h = StopsAtText holds file h ⊎ IsAtProgram holds file h.stop h.about

abbrev pub StopsAtInput : (Option (List ℕ) → Type 0) → List ℕ → Halted → Type 0
StopsAtInput holds name h = IsAtFile holds name longest IsOfInput h.stop h.about

-- the text of a memory is refused for what is told, or memory was
abbrev pub IsOfMemoryIn : List SharedEntry → List ℕ → Stop → About → Type 0
IsOfMemoryIn layout text why (about.Text s) = (s.bytes.items ≡ text) × (s.expansion ≡ None) × IsOfMemory layout why text
IsOfMemoryIn layout text why (about.Values values cells) = IsTooMuch layout values cells why text
IsOfMemoryIn layout text why about.Nothing = why ≡ stop.Refused refusal.OutOfMemory
IsOfMemoryIn layout text why (about.Line s line) = ⊥
IsOfMemoryIn layout text why (about.File u) = ⊥

-- at the file of a memory: it wasn't read, or its text is refused
abbrev pub IsAtMemory : (Option (List ℕ) → Type 0) → List ℕ → List SharedEntry → Stop → About → Type 0
IsAtMemory holds name layout why about.Nothing = why ≡ stop.Refused refusal.OutOfMemory
IsAtMemory holds name layout why (about.File u) = IsNoFile holds name why
IsAtMemory holds name layout why (about.Text s) = IsReadFrom holds longest s.bytes.items × (s.expansion ≡ None) × IsOfMemory layout why
    s.bytes.items
IsAtMemory holds name layout why (about.Values values cells) = (text : List ℕ) × IsReadFrom holds longest text × IsTooMuch layout values
    cells why text
IsAtMemory holds name layout why (about.Line s line) = ⊥

abbrev pub StopsAtMemory : (Option (List ℕ) → Type 0) → List ℕ → List SharedEntry → Halted → Type 0
StopsAtMemory holds name layout h = IsAtMemory holds name layout h.stop h.about

abbrev pub StopsAtListing : (Option (List ℕ) → Type 0) → List ℕ → Halted → Type 0
StopsAtListing holds name h = IsAtFile holds name longest_listing IsOfListing h.stop h.about
