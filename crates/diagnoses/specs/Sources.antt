-- Texts that were read: the text that is judged, and where in the file its bytes came from.
use Rattle.std.specs.Prelude.{ℕ, nat_lt, if◌then◌else◌, min, List, Option, Some, None, length, slice_index}
use Rattle.pram_tokens.specs.declared.error.TextFault.{TextFault}
use Rattle.pram_tokens.specs.declared.error.TextFault.TheVariants as fault
use Rattle.pram_names.specs.declared.fault.Breach.{Breach}
use Rattle.pram_names.specs.declared.fault.Spot.{Spot}
use Rattle.pram_names.specs.declared.fault.Spot.TheVariants as spot
use Rattle.sized_texts.specs.declared.expanded.Expanded.{Expanded}
use Rattle.program_texts.specs.declared.from_text.Refusal.{Refusal}
use Rattle.program_texts.specs.declared.from_text.Refusal.TheVariants as refusal
use Rattle.diagnoses.specs.declared.source.Source.{Source}

-- what the sizes of a text give, and the text itself where it stands for itself
abbrev pub text_by : Option Expanded → List ℕ → List ℕ
text_by None bytes = bytes
text_by (Some e) bytes = e.text.items

-- the text that is judged
abbrev pub text_in : Source → List ℕ
text_in s = text_by s.expansion s.bytes.items

-- the end of a text, as far as an offset of 32 bits can say it
abbrev pub end_of : List ℕ → ℕ
end_of bytes = min (length bytes) 4294967295

-- the place of a byte of an expansion, and at its end or behind it the end of the text that it is of
abbrev pub place_in : Expanded → List ℕ → ℕ → ℕ
place_in e bytes at = if nat_lt at (length e.places.items) then slice_index e.places.items at else end_of bytes

abbrev pub origin_by : Option Expanded → List ℕ → ℕ → ℕ
origin_by None bytes at = at
origin_by (Some e) bytes at = place_in e bytes at

-- the offset in the file from which the byte at an offset of the text that is judged came
abbrev pub origin : Source → ℕ → ℕ
origin s at = origin_by s.expansion s.bytes.items at

-- ---- refusals of the text that is judged, with their offsets in the file

abbrev pub fault_as_it_stands : Source → TextFault → TextFault
fault_as_it_stands s (fault.NotAscii at) = fault.NotAscii (origin s at)
fault_as_it_stands s fault.TextTooLong = fault.TextTooLong
fault_as_it_stands s (fault.BadToken at) = fault.BadToken (origin s at)
fault_as_it_stands s (fault.Syntax at) = fault.Syntax (origin s at)
fault_as_it_stands s (fault.TooDeep at) = fault.TooDeep (origin s at)
fault_as_it_stands s fault.OutOfMemory = fault.OutOfMemory

-- the end of the text stays its end
abbrev pub spot_as_it_stands : Source → Spot → Spot
spot_as_it_stands s (spot.Offset at) = spot.Offset (origin s at)
spot_as_it_stands s spot.TextEnd = spot.TextEnd

abbrev pub breach_as_it_stands : Source → Breach → Breach
breach_as_it_stands s b = record { spot = spot_as_it_stands s b.spot; cause = b.cause }

abbrev pub as_it_stands : Source → Refusal → Refusal
as_it_stands s (refusal.Text f) = refusal.Text (fault_as_it_stands s f)
as_it_stands s (refusal.Program b) = refusal.Program (breach_as_it_stands s b)
as_it_stands s refusal.InputTooLong = refusal.InputTooLong
as_it_stands s refusal.BadMap = refusal.BadMap
as_it_stands s refusal.BadWorkers = refusal.BadWorkers
as_it_stands s refusal.OutOfMemory = refusal.OutOfMemory
as_it_stands s refusal.OutOfReserve = refusal.OutOfReserve
