-- Programs that were loaded are those of their files.
use Rattle.std.proofs.Common.{ℕ, List}
use Rattle.std.specs.Prelude.{Option, Some, None}
use Rattle.pram_check.specs.Checked.{Checked}
use Rattle.pram_tokens.specs.Plain.{IsPlain}
use Rattle.sized_texts.specs.Faults.{shown}
use Rattle.sized_texts.specs.Pieces.{Expansion}
use Rattle.sized_texts.specs.declared.expanded.Expanded.{Expanded}
use Rattle.superstep_instructions.specs.Code.{SuperstepCode}
use Rattle.program_runs.specs.Compiled.{IsCompiledFrom}
use Rattle.program_texts.specs.Report.{IsProgramOf}
use Rattle.diagnoses.specs.Sources.{text_by}
use Rattle.command_requests.specs.declared.request.ProgramFile.{ProgramFile}
use Rattle.command_requests.specs.declared.request.SizeWord.{SizeWord}
use Rattle.command_facts.specs.declared.loaded.Loaded.{Loaded}
use Rattle.command_requests.specs.Expanded.{HasExpansion, IsExpandedBy}
use Rattle.command_facts.specs.Found.{IsLoaded}
use Rattle.command_facts.specs.Held.{IsExpansionIn}
use Rattle.command_facts.specs.Refused.{IsProgramIn, IsProgramOfText}

-- what is so of the text that a source gives is so of the expansion of what its file holds
expansion_in : (holds : Option (List ℕ) → Type 0) (words : List SizeWord) (bytes : List ℕ) (x : Option Expanded) (Is : List ℕ → Type 0) →
    holds (Some bytes) → HasExpansion words bytes x → Is (text_by x bytes) → (e : Expansion) × IsExpansionIn holds words e × Is e.text
expansion_in holds words bytes None Is held has is = absurd has
expansion_in holds words bytes (Some e) Is held has is = (shown e, (bytes, held, has), is)

pub program_in : (holds : List ℕ → Option (List ℕ) → Type 0) (file : ProgramFile) (l : Loaded) → IsLoaded (holds file.name.now) file l →
    IsProgramIn holds file l.program
program_in holds file l is =
    let found = expansion_in (holds file.name.now) file.sizes.items l.source.bytes.items l.source.expansion
    (λ (t : List ℕ). IsProgramOf t l.program) is.0.0 is.0.1 is.1 in
    record { expansion = found.0; is_expansion = found.1; is_program = found.2 }

-- they are those of the text that was read
expansion_of : (words : List SizeWord) (bytes : List ℕ) (x : Option Expanded) (Is : List ℕ → Type 0) → HasExpansion words bytes x →
    Is (text_by x bytes) → (e : Expansion) × IsExpandedBy words bytes e × Is e.text
expansion_of words bytes None Is has is = absurd has
expansion_of words bytes (Some e) Is has is = (shown e, has, is)

pub program_of : (holds : List ℕ → Option (List ℕ) → Type 0) (file : ProgramFile) (l : Loaded) → IsLoaded (holds file.name.now) file l →
    IsProgramOfText holds file l.source.bytes.items l.program
program_of holds file l is =
    let found = expansion_of file.sizes.items l.source.bytes.items l.source.expansion
    (λ (t : List ℕ). IsProgramOf t l.program) is.0.1 is.1 in
    record { held = is.0.0; expansion = found.0; is_expansion = found.1; is_program = found.2 }

pub of_text : (holds : List ℕ → Option (List ℕ) → Type 0) (file : ProgramFile) (text : List ℕ) (program : Checked) →
    IsProgramOfText holds file text program → IsProgramIn holds file program
of_text holds file text program h =
    record { expansion = h.expansion; is_expansion = (text, h.held, h.is_expansion); is_program = h.is_program }

-- so is their code
pub code_in : (holds : List ℕ → Option (List ℕ) → Type 0) (file : ProgramFile) (l : Loaded) (code : SuperstepCode) →
    IsLoaded (holds file.name.now) file l → ((text : List ℕ) → IsProgramOf text l.program → IsCompiledFrom text code) →
    (e : Expansion) × IsExpansionIn (holds file.name.now) file.sizes.items e × IsCompiledFrom e.text code
code_in holds file l code is compiled =
    let found = program_in holds file l is in (found.expansion, found.is_expansion, compiled found.expansion.text found.is_program)

plain_of : (words : List SizeWord) (bytes : List ℕ) (x : Option Expanded) → HasExpansion words bytes x → IsPlain bytes
plain_of words bytes None has = absurd has
plain_of words bytes (Some e) has = has.plain

-- the text of a program is plain
pub plain_in : (holds : Option (List ℕ) → Type 0) (file : ProgramFile) (l : Loaded) → IsLoaded holds file l → IsPlain l.source.bytes.items
plain_in holds file l is = plain_of file.sizes.items l.source.bytes.items l.source.expansion is.0.1
