-- What a run of a text is, and why a text is not run.
use Rattle.std.specs.Prelude.{◌≡◌, ◌<◌, ◌≤◌, ℕ, List, length, ℤ, Some, Result, Ok, Err}
use Rattle.pram_tokens.specs.declared.error.TextFault.{TextFault}
use Rattle.pram_tokens.specs.declared.error.TextFault.TheVariants.{OutOfMemory}
use Rattle.pram_tokens.specs.Input.{IsInputFault}
use Rattle.pram_model.specs.Layout.{SharedEntry, total_size}
use Rattle.pram_trees.specs.Program.{ProgramTree}
use Rattle.pram_tokens.specs.Plain.{IsPlain}
use Rattle.pram_trees.specs.Text.{IsTextOf, IsFaultOf}
use Rattle.pram_names.specs.declared.fault.Breach.{Breach}
use Rattle.pram_names.specs.Breaches.{breaches, first}
use Rattle.pram_check.specs.Checked.{Checked, IsResolved}
use Rattle.pram_check.specs.Faults.{IsAccepted}
use Rattle.write_rules.specs.Verdict.{Verdict}
use Rattle.pram_meaning.specs.declared.observation.MeaningRefusal.{MeaningRefusal}
use Rattle.pram_meaning.specs.declared.observation.MeaningRefusal.TheVariants as no_meaning
use Rattle.pram_meaning.specs.Outcome.{IsOutcome}
use Rattle.program_texts.specs.declared.from_text.Refusal.{Refusal}
use Rattle.program_texts.specs.declared.from_text.Refusal.TheVariants as refusal

-- the text is that of this accepted program
pub record IsProgramOf (text : List ℕ) (program : Checked) : Type 0 where
  pub is_text : IsTextOf text program.tree
  pub accepted : IsAccepted program.tree
  pub resolved : IsResolved program

-- the verdict is the outcome of the program on the input, which has no more values than there are cells, within n statements
pub record IsMeaningOf (program : Checked) (input : List ℤ) (n : ℕ) (verdict : Verdict) : Type 0 where
  pub fits : length input ≤ total_size program.layout
  pub outcome : IsOutcome program input n verdict

-- the verdict is the outcome of the text's program on the input within n statements, and these are the program's shared declarations
pub record IsRunOf (text : List ℕ) (input : List ℤ) (n : ℕ) (layout : List SharedEntry) (verdict : Verdict) : Type 0 where
  pub program : Checked
  pub is_program : IsProgramOf text program
  pub declared : layout ≡ program.layout
  -- the input has no more values than there are cells
  pub fits : length input ≤ total_size layout
  pub outcome : IsOutcome program input n verdict

-- Two runs of one text on one input, within one bound, have the same shared declarations and the same verdict.
abbrev pub HasOneRunAtMost : Type 0
HasOneRunAtMost =
    (text : List ℕ) (input : List ℤ) (n : ℕ) (layout other : List SharedEntry) (verdict another : Verdict) →
    IsRunOf text input n layout verdict → IsRunOf text input n other another → (layout ≡ other) × (verdict ≡ another)

-- the text is that of a tree, and this is the first thing that is wrong with it
pub record HasBreach (text : List ℕ) (breach : Breach) : Type 0 where
  pub tree : ProgramTree
  pub is_text : IsTextOf text tree
  pub is_first : first (breaches tree) ≡ Some breach

-- the text's program has fewer cells than the input has values
pub record HasTooFewCells (text : List ℕ) (input : List ℤ) : Type 0 where
  pub program : Checked
  pub is_program : IsProgramOf text program
  pub too_long : total_size program.layout < length input

-- What a text, or an input, is refused for. Want of memory has one spelling, and is no refusal of a text.
abbrev pub refusal_of : TextFault → Refusal
refusal_of OutOfMemory = refusal.OutOfMemory
refusal_of fault = refusal.Text fault

-- why a program has no meaning on an input, in the words of calls
abbrev pub refusal_of_meaning : MeaningRefusal → Refusal
refusal_of_meaning no_meaning.InputTooLong = refusal.InputTooLong
refusal_of_meaning no_meaning.OutOfMemory = refusal.OutOfMemory

-- such a fault of the text, which is no want of memory
abbrev pub IsTextRefusal : List ℕ → TextFault → Type 0
IsTextRefusal text OutOfMemory = ⊥
IsTextRefusal text fault = IsFaultOf {X = ProgramTree} text (Err fault)

-- such a fault of an input, which is no want of memory
abbrev pub IsInputRefusal : List ℕ → TextFault → Type 0
IsInputRefusal text OutOfMemory = ⊥
IsInputRefusal text fault = IsInputFault {X = List ℤ} text (Err fault)

-- Each refusal of a text says what is wrong with it. Memory is asked for only where the text is neither too long nor has a byte of 128 or
-- more.
abbrev pub IsNoProgram : {X : Type 0} → List ℕ → Result X Refusal → Type 0
IsNoProgram text (Ok x) = Unit {0}
IsNoProgram text (Err (refusal.Text fault)) = IsTextRefusal text fault
IsNoProgram text (Err (refusal.Program breach)) = HasBreach text breach
IsNoProgram text (Err refusal.InputTooLong) = ⊥
IsNoProgram text (Err refusal.BadMap) = ⊥
IsNoProgram text (Err refusal.BadWorkers) = ⊥
IsNoProgram text (Err refusal.OutOfMemory) = IsPlain text
IsNoProgram text (Err refusal.OutOfReserve) = ⊥

-- A program has no meaning on an input that has more values than there are cells; memory is asked for only where it fits.
abbrev pub IsMeaningRefused : Checked → List ℤ → Refusal → Type 0
IsMeaningRefused program input refusal.InputTooLong = total_size program.layout < length input
IsMeaningRefused program input refusal.OutOfMemory = length input ≤ total_size program.layout
IsMeaningRefused program input _ = ⊥

-- Each refusal of a run says what is wrong with the text or with the input. A run by the definition has no workers, no map
-- and no reserve.
abbrev pub IsRefusedRightly : {X : Type 0} → List ℕ → List ℤ → Result X Refusal → Type 0
IsRefusedRightly text input (Err refusal.InputTooLong) = HasTooFewCells text input
IsRefusedRightly text input (Ok x) = Unit {0}
IsRefusedRightly text input (Err refusal.BadMap) = ⊥
IsRefusedRightly text input (Err refusal.BadWorkers) = ⊥
IsRefusedRightly text input (Err (refusal.Text fault)) = IsTextRefusal text fault
IsRefusedRightly text input (Err (refusal.Program breach)) = HasBreach text breach
IsRefusedRightly text input (Err refusal.OutOfMemory) = IsPlain text
IsRefusedRightly text input (Err refusal.OutOfReserve) = ⊥
