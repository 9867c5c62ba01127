-- What is explained, by which word, and what is said of it.
use Rattle.std.specs.Prelude.{◌≡◌, ℕ, List, codes}
use Rattle.std.specs.Str.{str_to_ascii_lowercase}
use Rattle.pram_values.specs.declared.kind.Kind.{Kind}
use Rattle.pram_values.specs.declared.kind.Kind.TheVariants as kind
use Rattle.program_texts.specs.declared.number.Number.{Number}
use Rattle.program_texts.specs.declared.number.Number.TheVariants as number
use Rattle.program_texts.specs.Numbers.{code}
use Rattle.program_texts.specs.Shown.{kind_text}
use Rattle.help.specs.declared.explained.subject.Subject.{Subject}
use Rattle.help.specs.declared.explained.subject.Subject.TheVariants as subject
use Rattle.help.specs.declared.explained.texts.TheConstants.{NOT_ASCII, TEXT_TOO_LONG, BAD_TOKEN, SYNTAX, TOO_DEEP, BAD_SIZE}
use Rattle.help.specs.declared.explained.names.TheConstants.{UNKNOWN_NAME, DOUBLE_NAME, WRONG_KIND, ASSIGNED_LOOP_VARIABLE, LIMIT}
use Rattle.help.specs.declared.explained.runs.TheConstants.{INPUT_TOO_LONG, BAD_MAP, BAD_WORKERS, NOT_VERIFIED, BAD_LISTING}
use Rattle.help.specs.declared.explained.runs.TheConstants.{OUT_OF_MEMORY, WRITE_FAILED, OUT_OF_RESERVE, COMMAND_LINE, UNREADABLE_FILE}
use Rattle.help.specs.declared.explained.faults.TheConstants.{OVERFLOW, DIVIDE_BY_ZERO, OUT_OF_RANGE, TOO_WIDE}
use Rattle.help.specs.declared.explained.faults.TheConstants.{READ_CONFLICT, WRITE_CONFLICT}
use Rattle.help.specs.declared.explained.commands.TheConstants.{CHECK, PLAN, MEANING, COST, STEPS, RULES, EXPAND, EXPLAIN, FMT}
use Rattle.help.specs.declared.explained.scopes.TheConstants.{ALWAYS, COMPARE, EXPLORE, EXPORT}
use Rattle.help.specs.declared.explained.grades.TheConstants.{GRADE}
use Rattle.help.specs.declared.explained.workers.TheConstants.{RUN, TRACE, EXEC}
use Rattle.help.specs.declared.explained.options.TheConstants.{OPTIONS}
use Rattle.help.specs.declared.explained.overviews.TheConstants.{LANGUAGE, EVERYTHING}

-- the number of a refusal, the name of a fault, a command, or a word of its own; everything has none
abbrev pub subject_word : Subject → List ℕ
subject_word (subject.Refusal n) = code n
subject_word (subject.Fault k) = kind_text k
subject_word subject.Check = codes "check"
subject_word subject.Plan = codes "plan"
subject_word subject.Meaning = codes "meaning"
subject_word subject.Cost = codes "cost"
subject_word subject.Steps = codes "steps"
subject_word subject.Rules = codes "rules"
subject_word subject.Explore = codes "explore"
subject_word subject.Always = codes "always"
subject_word subject.Compare = codes "compare"
subject_word subject.Grade = codes "grade"
subject_word subject.Run = codes "run"
subject_word subject.Trace = codes "trace"
subject_word subject.Expand = codes "expand"
subject_word subject.Fmt = codes "fmt"
subject_word subject.Export = codes "export"
subject_word subject.Exec = codes "exec"
subject_word subject.Explain = codes "explain"
subject_word subject.Language = codes "language"
subject_word subject.Options = codes "options"
subject_word subject.Everything = codes ""

-- a word names the subject whose word it is, in small letters or capitals
abbrev pub Names : List ℕ → Subject → Type 0
Names word s = str_to_ascii_lowercase word ≡ str_to_ascii_lowercase (subject_word s)

-- a word names no subject
abbrev pub NamesNothing : List ℕ → Type 0
NamesNothing word = (s : Subject) → ¬ (Names word s)

-- ---- the text of each

abbrev pub refusal_explained : Number → List ℕ
refusal_explained number.NotAscii = NOT_ASCII
refusal_explained number.TextTooLong = TEXT_TOO_LONG
refusal_explained number.BadToken = BAD_TOKEN
refusal_explained number.Syntax = SYNTAX
refusal_explained number.TooDeep = TOO_DEEP
refusal_explained number.UnknownName = UNKNOWN_NAME
refusal_explained number.DoubleName = DOUBLE_NAME
refusal_explained number.WrongKind = WRONG_KIND
refusal_explained number.AssignedLoopVariable = ASSIGNED_LOOP_VARIABLE
refusal_explained number.Limit = LIMIT
refusal_explained number.InputTooLong = INPUT_TOO_LONG
refusal_explained number.BadMap = BAD_MAP
refusal_explained number.BadWorkers = BAD_WORKERS
refusal_explained number.NotVerified = NOT_VERIFIED
refusal_explained number.BadListing = BAD_LISTING
refusal_explained number.OutOfMemory = OUT_OF_MEMORY
refusal_explained number.WriteFailed = WRITE_FAILED
refusal_explained number.OutOfReserve = OUT_OF_RESERVE
refusal_explained number.BadSize = BAD_SIZE
refusal_explained number.CommandLine = COMMAND_LINE
refusal_explained number.UnreadableFile = UNREADABLE_FILE

abbrev pub fault_explained : Kind → List ℕ
fault_explained kind.Overflow = OVERFLOW
fault_explained kind.DivideByZero = DIVIDE_BY_ZERO
fault_explained kind.OutOfRange = OUT_OF_RANGE
fault_explained kind.TooWide = TOO_WIDE
fault_explained kind.ReadConflict = READ_CONFLICT
fault_explained kind.WriteConflict = WRITE_CONFLICT

abbrev pub explanation : Subject → List ℕ
explanation (subject.Refusal n) = refusal_explained n
explanation (subject.Fault k) = fault_explained k
explanation subject.Check = CHECK
explanation subject.Plan = PLAN
explanation subject.Meaning = MEANING
explanation subject.Cost = COST
explanation subject.Steps = STEPS
explanation subject.Rules = RULES
explanation subject.Explore = EXPLORE
explanation subject.Always = ALWAYS
explanation subject.Compare = COMPARE
explanation subject.Grade = GRADE
explanation subject.Run = RUN
explanation subject.Trace = TRACE
explanation subject.Expand = EXPAND
explanation subject.Fmt = FMT
explanation subject.Export = EXPORT
explanation subject.Exec = EXEC
explanation subject.Explain = EXPLAIN
explanation subject.Language = LANGUAGE
explanation subject.Options = OPTIONS
explanation subject.Everything = EVERYTHING
