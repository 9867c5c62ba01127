-- How far a text is read, part by part. A tool of the proofs.
use Rattle.std.specs.Prelude.{◌≡◌, ℕ, ◌≤◌, List, [], ◌∷◌, ◌++◌, length}
use Rattle.std.specs.List.{AllByRecursion}
use Rattle.superstep_listing.specs.declared.error.ReadError.{ReadError}
use Rattle.superstep_listing.specs.declared.error.ReadError.TheVariants as read
use Rattle.superstep_instructions.specs.declared.instr.Instr.{Instr}
use Rattle.superstep_instructions.specs.Code.{SuperstepCode}
use Rattle.superstep_instructions.specs.Limits.{IsCode, IsInstr, most_instructions, most_registers}
use Rattle.superstep_listing.specs.Listing.{ended, instr_lines, lines_of, size_lines}

-- A text that begins with none of these lines, or isn't empty where there is none.
abbrev pub CannotBe : List (List ℕ) → List ℕ → Type 0
CannotBe [] back = back ≡ [] → ⊥
CannotBe (bytes ∷ lines) back = (more : List ℕ) → back ≡ bytes ++ 10 ∷ more → ⊥

-- A text whose lines are not those, from the line on that has so many bytes from it on, and not before.
pub record IsStuck (AreLines : List (List ℕ) → Type 0) (text : List ℕ) (left : ℕ) : Type 0 where
  pub front : List (List ℕ)
  pub back : List ℕ
  pub whole : text ≡ ended front ++ back
  pub place : left ≡ length back
  pub more : List (List ℕ)
  pub begins : AreLines (front ++ more)
  pub stuck : (lines : List (List ℕ)) → AreLines (front ++ lines) → CannotBe lines back

-- the lines of some code
pub record AreCode (lines : List (List ℕ)) : Type 0 where
  pub code : SuperstepCode
  pub stands : IsCode code
  pub same : lines_of code ≡ lines

-- those from the numbers of registers on
pub record AreRest (lines : List (List ℕ)) : Type 0 where
  pub uniform : ℕ
  pub private : ℕ
  pub instructions : List Instr
  pub few_uniform : uniform ≤ most_registers
  pub few_private : private ≤ most_registers
  pub few : length instructions ≤ most_instructions
  pub fit : AllByRecursion IsInstr instructions
  pub same : size_lines uniform private (length instructions) ++ instr_lines 0 instructions ≡ lines

-- those of so many instructions
pub record AreInstrs (count : ℕ) (lines : List (List ℕ)) : Type 0 where
  pub instructions : List Instr
  pub counted : length instructions ≡ count
  pub fit : AllByRecursion IsInstr instructions
  pub same : instr_lines 0 instructions ≡ lines

-- the error says where the text is stuck, or that memory was refused
abbrev pub IsReadError : (List (List ℕ) → Type 0) → List ℕ → ReadError → Type 0
IsReadError AreLines text read.OutOfMemory = Unit {0}
IsReadError AreLines text (read.Bad left) = IsStuck AreLines text left
