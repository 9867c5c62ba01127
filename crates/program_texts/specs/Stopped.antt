-- What is written where the program stops without an outcome.
use Rattle.std.specs.Prelude.{ℕ, List, [], ◌++◌, Option, Some, None, codes, decimal}
use Rattle.pram_tokens.specs.declared.error.TextFault.{TextFault}
use Rattle.pram_tokens.specs.declared.error.TextFault.TheVariants as text
use Rattle.pram_names.specs.declared.fault.Cause.{Cause}
use Rattle.pram_names.specs.declared.fault.Cause.TheVariants as cause
use Rattle.pram_names.specs.declared.fault.Limit.{Limit}
use Rattle.pram_names.specs.declared.fault.Limit.TheVariants as limit
use Rattle.pram_names.specs.declared.fault.Spot.{Spot}
use Rattle.pram_names.specs.declared.fault.Spot.TheVariants as spot
use Rattle.program_texts.specs.declared.from_text.Refusal.{Refusal}
use Rattle.program_texts.specs.declared.from_text.Refusal.TheVariants as refusal
use Rattle.program_texts.specs.declared.number.Number.{Number}
use Rattle.program_texts.specs.Numbers.{code, name}

-- where something is wrong, if the refusal says so
abbrev pub place_of : Spot → Option ℕ
place_of (spot.Offset at) = Some at
place_of spot.TextEnd = None

abbrev pub limit_word : Limit → List ℕ
limit_word limit.Cells = codes "cells"
limit_word limit.Procs = codes "procs"
limit_word limit.Bounds = codes "bounds"
limit_word limit.Reads = codes "reads"
limit_word limit.Tokens = codes "tokens"

abbrev pub text_place : TextFault → Option ℕ
text_place (text.NotAscii at) = Some at
text_place text.TextTooLong = None
text_place (text.BadToken at) = Some at
text_place (text.Syntax at) = Some at
text_place (text.TooDeep at) = Some at
text_place text.OutOfMemory = None

-- a limit is told without a place
abbrev pub cause_place : Spot → Cause → Option ℕ
cause_place s cause.UnknownName = place_of s
cause_place s cause.DoubleName = place_of s
cause_place s cause.WrongKind = place_of s
cause_place s cause.AssignedLoopVariable = place_of s
cause_place s (cause.Limit l) = None

-- the limit that a program is over
abbrev pub cause_limit : Cause → Option Limit
cause_limit cause.UnknownName = None
cause_limit cause.DoubleName = None
cause_limit cause.WrongKind = None
cause_limit cause.AssignedLoopVariable = None
cause_limit (cause.Limit l) = Some l

abbrev pub limit_of : Refusal → Option Limit
limit_of (refusal.Text fault) = None
limit_of (refusal.Program breach) = cause_limit breach.cause
limit_of refusal.InputTooLong = None
limit_of refusal.BadMap = None
limit_of refusal.BadWorkers = None
limit_of refusal.OutOfMemory = None
limit_of refusal.OutOfReserve = None

abbrev pub detail_text : Option Limit → List ℕ
detail_text None = []
detail_text (Some l) = codes " " ++ limit_word l

-- its place
abbrev pub refusal_place : Refusal → Option ℕ
refusal_place (refusal.Text fault) = text_place fault
refusal_place (refusal.Program breach) = cause_place breach.spot breach.cause
refusal_place refusal.InputTooLong = None
refusal_place refusal.BadMap = None
refusal_place refusal.BadWorkers = None
refusal_place refusal.OutOfMemory = None
refusal_place refusal.OutOfReserve = None

-- `refused E6 UnknownName`
abbrev pub refused_front : Number → (detail : List ℕ) → List ℕ
refused_front n detail = codes "refused " ++ (code n ++ (codes " " ++ (name n ++ detail)))

abbrev pub place_text : Option ℕ → List ℕ
place_text None = codes "\n"
place_text (Some at) = codes " at " ++ (decimal at ++ codes "\n")

-- `refused E6 UnknownName at 57`, or `refused E2 TextTooLong`
abbrev pub refused_line : Number → (detail : List ℕ) → Option ℕ → List ℕ
refused_line n detail place = refused_front n detail ++ place_text place
