-- The subjects in order, and which of them a word doesn't name.
use Rattle.std.proofs.Common.{ℕ, ◌<◌, List, arith, slice_index_or}
use Rattle.pram_values.specs.declared.kind.Kind.TheVariants as kind
use Rattle.program_texts.specs.declared.number.Number.TheVariants as number
use Rattle.help.specs.declared.explained.subject.Subject.{Subject}
use Rattle.help.specs.declared.explained.subject.Subject.TheVariants as subject
use Rattle.help.specs.declared.explained.subject.TheConstants.{SUBJECTS}
use Rattle.help.specs.Explained.{Names, NamesNothing}

abbrev pub subject_at : ℕ → Subject
subject_at k = slice_index_or SUBJECTS k (subject.Refusal number.NotAscii)

-- the word names none of the first n
abbrev pub NoneBelow : List ℕ → ℕ → Type 0
NoneBelow word n = (k : ℕ) → k < n → ¬ (Names word (subject_at k))

pub none_of_all : (word : List ℕ) → NoneBelow word 47 → NamesNothing word
none_of_all word none (subject.Refusal number.NotAscii) = none 0 (omega arith)
none_of_all word none (subject.Refusal number.TextTooLong) = none 1 (omega arith)
none_of_all word none (subject.Refusal number.BadToken) = none 2 (omega arith)
none_of_all word none (subject.Refusal number.Syntax) = none 3 (omega arith)
none_of_all word none (subject.Refusal number.TooDeep) = none 4 (omega arith)
none_of_all word none (subject.Refusal number.UnknownName) = none 5 (omega arith)
none_of_all word none (subject.Refusal number.DoubleName) = none 6 (omega arith)
none_of_all word none (subject.Refusal number.WrongKind) = none 7 (omega arith)
none_of_all word none (subject.Refusal number.AssignedLoopVariable) = none 8 (omega arith)
none_of_all word none (subject.Refusal number.Limit) = none 9 (omega arith)
none_of_all word none (subject.Refusal number.InputTooLong) = none 10 (omega arith)
none_of_all word none (subject.Refusal number.BadMap) = none 11 (omega arith)
none_of_all word none (subject.Refusal number.BadWorkers) = none 12 (omega arith)
none_of_all word none (subject.Refusal number.NotVerified) = none 13 (omega arith)
none_of_all word none (subject.Refusal number.BadListing) = none 14 (omega arith)
none_of_all word none (subject.Refusal number.OutOfMemory) = none 15 (omega arith)
none_of_all word none (subject.Refusal number.WriteFailed) = none 16 (omega arith)
none_of_all word none (subject.Refusal number.OutOfReserve) = none 17 (omega arith)
none_of_all word none (subject.Refusal number.BadSize) = none 18 (omega arith)
none_of_all word none (subject.Refusal number.CommandLine) = none 19 (omega arith)
none_of_all word none (subject.Refusal number.UnreadableFile) = none 20 (omega arith)
none_of_all word none (subject.Fault kind.Overflow) = none 21 (omega arith)
none_of_all word none (subject.Fault kind.DivideByZero) = none 22 (omega arith)
none_of_all word none (subject.Fault kind.OutOfRange) = none 23 (omega arith)
none_of_all word none (subject.Fault kind.TooWide) = none 24 (omega arith)
none_of_all word none (subject.Fault kind.ReadConflict) = none 25 (omega arith)
none_of_all word none (subject.Fault kind.WriteConflict) = none 26 (omega arith)
none_of_all word none subject.Check = none 27 (omega arith)
none_of_all word none subject.Plan = none 28 (omega arith)
none_of_all word none subject.Meaning = none 29 (omega arith)
none_of_all word none subject.Cost = none 30 (omega arith)
none_of_all word none subject.Steps = none 31 (omega arith)
none_of_all word none subject.Rules = none 32 (omega arith)
none_of_all word none subject.Explore = none 33 (omega arith)
none_of_all word none subject.Always = none 34 (omega arith)
none_of_all word none subject.Compare = none 35 (omega arith)
none_of_all word none subject.Grade = none 36 (omega arith)
none_of_all word none subject.Run = none 37 (omega arith)
none_of_all word none subject.Trace = none 38 (omega arith)
none_of_all word none subject.Expand = none 39 (omega arith)
none_of_all word none subject.Fmt = none 40 (omega arith)
none_of_all word none subject.Export = none 41 (omega arith)
none_of_all word none subject.Exec = none 42 (omega arith)
none_of_all word none subject.Explain = none 43 (omega arith)
none_of_all word none subject.Language = none 44 (omega arith)
none_of_all word none subject.Options = none 45 (omega arith)
none_of_all word none subject.Everything = none 46 (omega arith)
