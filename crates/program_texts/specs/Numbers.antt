-- Refusals by their numbers and names.
use Rattle.std.specs.Prelude.{ℕ, List, codes}
use Rattle.pram_tokens.specs.declared.error.TextFault.{TextFault}
use Rattle.pram_tokens.specs.declared.error.TextFault.TheVariants as text
use Rattle.pram_names.specs.declared.fault.Cause.{Cause}
use Rattle.pram_names.specs.declared.fault.Cause.TheVariants as cause
use Rattle.program_texts.specs.declared.from_text.Refusal.{Refusal}
use Rattle.program_texts.specs.declared.from_text.Refusal.TheVariants as refusal
use Rattle.program_texts.specs.declared.number.Number.{Number}
use Rattle.program_texts.specs.declared.number.Number.TheVariants as number
use Rattle.program_texts.specs.declared.stop.Stop.{Stop}
use Rattle.program_texts.specs.declared.stop.Stop.TheVariants as stop

-- E for what a text, a run or a stream is refused for, P for the command line
abbrev pub code : Number → List ℕ
code number.NotAscii = codes "E1"
code number.TextTooLong = codes "E2"
code number.BadToken = codes "E3"
code number.Syntax = codes "E4"
code number.TooDeep = codes "E5"
code number.UnknownName = codes "E6"
code number.DoubleName = codes "E7"
code number.WrongKind = codes "E8"
code number.AssignedLoopVariable = codes "E9"
code number.Limit = codes "E10"
code number.InputTooLong = codes "E11"
code number.BadMap = codes "E12"
code number.BadWorkers = codes "E13"
code number.NotVerified = codes "E14"
code number.BadListing = codes "E15"
code number.OutOfMemory = codes "E16"
code number.WriteFailed = codes "E17"
code number.OutOfReserve = codes "E18"
code number.BadSize = codes "E19"
code number.CommandLine = codes "P1"
code number.UnreadableFile = codes "P2"

abbrev pub name : Number → List ℕ
name number.NotAscii = codes "NotAscii"
name number.TextTooLong = codes "TextTooLong"
name number.BadToken = codes "BadToken"
name number.Syntax = codes "Syntax"
name number.TooDeep = codes "TooDeep"
name number.UnknownName = codes "UnknownName"
name number.DoubleName = codes "DoubleName"
name number.WrongKind = codes "WrongKind"
name number.AssignedLoopVariable = codes "AssignedLoopVariable"
name number.Limit = codes "Limit"
name number.InputTooLong = codes "InputTooLong"
name number.BadMap = codes "BadMap"
name number.BadWorkers = codes "BadWorkers"
name number.NotVerified = codes "NotVerified"
name number.BadListing = codes "BadListing"
name number.OutOfMemory = codes "OutOfMemory"
name number.WriteFailed = codes "WriteFailed"
name number.OutOfReserve = codes "OutOfReserve"
name number.BadSize = codes "BadSize"
name number.CommandLine = codes "CommandLine"
name number.UnreadableFile = codes "UnreadableFile"

-- ---- which one it is

abbrev pub text_number : TextFault → Number
text_number (text.NotAscii at) = number.NotAscii
text_number text.TextTooLong = number.TextTooLong
text_number (text.BadToken at) = number.BadToken
text_number (text.Syntax at) = number.Syntax
text_number (text.TooDeep at) = number.TooDeep
text_number text.OutOfMemory = number.OutOfMemory

abbrev pub cause_number : Cause → Number
cause_number cause.UnknownName = number.UnknownName
cause_number cause.DoubleName = number.DoubleName
cause_number cause.WrongKind = number.WrongKind
cause_number cause.AssignedLoopVariable = number.AssignedLoopVariable
cause_number (cause.Limit l) = number.Limit

abbrev pub refusal_number : Refusal → Number
refusal_number (refusal.Text fault) = text_number fault
refusal_number (refusal.Program breach) = cause_number breach.cause
refusal_number refusal.InputTooLong = number.InputTooLong
refusal_number refusal.BadMap = number.BadMap
refusal_number refusal.BadWorkers = number.BadWorkers
refusal_number refusal.OutOfMemory = number.OutOfMemory
refusal_number refusal.OutOfReserve = number.OutOfReserve

abbrev pub stop_number : Stop → Number
stop_number (stop.Words message) = number.CommandLine
stop_number (stop.Number word) = number.CommandLine
stop_number (stop.Unreadable file) = number.UnreadableFile
stop_number (stop.Refused r) = refusal_number r
stop_number (stop.NotVerified at reason) = number.NotVerified
stop_number (stop.BadListing at) = number.BadListing
stop_number stop.WriteFailed = number.WriteFailed
stop_number (stop.BadSize at reason) = number.BadSize
