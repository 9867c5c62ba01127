-- What is wrong with a listing: with its text, or with the code that it spells.
use Rattle.std.specs.Prelude.{◌≡◌, ◌+◌, ℕ, List, ◌++◌, length, map, codes}
use Rattle.superstep_instructions.specs.Code.{SuperstepCode}
use Rattle.superstep_listing.specs.Listing.{entry_line, head_lines, size_lines}
use Rattle.superstep_listing.specs.Text.{IsFirstBad, IsListing}
use Rattle.bsp_verify.specs.FirstFault.{IsFirstFault}
use Rattle.bsp_verify.specs.declared.fault.Reason.{Reason}
use Rattle.bsp_verify.specs.declared.fault.Reason.TheVariants as reason
use Rattle.program_texts.specs.Report.{IsTextRefusal}
use Rattle.program_texts.specs.declared.from_text.Refusal.TheVariants as refusal
use Rattle.program_texts.specs.declared.stop.Stop.{Stop}
use Rattle.program_texts.specs.declared.stop.Stop.TheVariants as stop

-- the word for what is wrong with an instruction
abbrev pub reason_word : Reason → List ℕ
reason_word reason.State = codes "state"
reason_word reason.Register = codes "register"
reason_word reason.Entry = codes "entry"
reason_word reason.Target = codes "target"
reason_word reason.Mode = codes "mode"
reason_word reason.Mask = codes "mask"
reason_word reason.Exchange = codes "exchange"
reason_word reason.End = codes "end"

-- what stands in a listing before its first instruction
abbrev pub lines_before : SuperstepCode → List (List ℕ)
lines_before code =
    head_lines code.rule code.procs
    ++ (map entry_line code.layout ++ size_lines code.uniform_registers code.private_registers (length code.instructions))

-- the line on which instruction k stands there, counted from 1
abbrev pub line_of_instruction : SuperstepCode → ℕ → ℕ
line_of_instruction code k = length (lines_before code) + (k + 1)

-- the text is a listing of code with that first fault, which is told by its word, and that is the fault's line
pub record IsUnverifiedText (at : ℕ) (word text : List ℕ) (line : ℕ) : Type 0 where
  pub code : SuperstepCode
  pub is_listing : IsListing text code
  pub why : Reason
  pub first : IsFirstFault code at why
  pub told : word ≡ reason_word why
  pub stands : line ≡ line_of_instruction code at

-- what the text of a listing is refused for, which the text has
abbrev pub IsOfListing : Stop → List ℕ → Type 0
IsOfListing (stop.Refused (refusal.Text fault)) text = IsTextRefusal text fault
IsOfListing (stop.BadListing at) text = IsFirstBad text at
IsOfListing (stop.Refused refusal.OutOfMemory) text = Unit {0}
IsOfListing _ text = ⊥
