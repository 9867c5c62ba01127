-- What calls find of programs and of their runs.
use Rattle.std.specs.Prelude.{◌≡◌, ◌*◌, ℕ, ℤ, List, [], codes, if◌then◌else◌, nat_lt, take, None, Option}
use Rattle.std.specs.Option.{option_map}
use Rattle.pram_model.specs.Layout.{SharedEntry, total_size}
use Rattle.write_rules.specs.Verdict.{verdict_of, Verdict, Ended, Faulted, GoesOn}
use Rattle.write_rules.specs.declared.outcome.Outcome.{Outcome}
use Rattle.program_texts.specs.Report.{IsMeaningOf, IsProgramOf}
use Rattle.program_texts.specs.Shown.{fault_text}
use Rattle.journal.specs.Entries.{Entry}
use Rattle.journal.specs.InTime.{EndsBy}
use Rattle.journal.specs.RunEntries.{run_entries}
use Rattle.drawn_kinds.specs.Kinds.{IsDrawn}
use Rattle.drawn_kinds.specs.Names.{declarations}
use Rattle.scopes.specs.Drawn.{drawn}
use Rattle.command_requests.specs.declared.opening.Opening.{Opening}
use Rattle.command_requests.specs.declared.opening.Opening.TheVariants as opening
use Rattle.command_requests.specs.declared.request.ProgramFile.{ProgramFile}
use Rattle.command_facts.specs.declared.found.FoundRun.{FoundRun}
use Rattle.command_facts.specs.declared.found.FoundSteps.{FoundSteps}
use Rattle.command_facts.specs.declared.found.Limit.{Limit}
use Rattle.command_facts.specs.declared.loaded.Loaded.{Loaded}
use Rattle.diagnoses.specs.Sources.{text_in}
use Rattle.command_facts.specs.Held.{IsInputIn, IsMemoryIn, IsTextIn}

-- ---- files

-- a program with its text, which is all that the file holds, and with what that comes to by the sizes of the words
abbrev pub IsLoaded : (Option (List ℕ) → Type 0) → ProgramFile → Loaded → Type 0
IsLoaded holds file l = IsTextIn holds file.sizes.items l.source × IsProgramOf (text_in l.source) l.program

-- the values of the first cells: none; those of all that the named file holds; those that are drawn for all cells; or an
-- input of a kind that is drawn for those of the first declaration or, of a graph, of the first two
abbrev pub IsOpening : (List ℕ → Option (List ℕ) → Type 0) → List SharedEntry → Opening → List ℤ → Type 0
IsOpening holds layout opening.Zeros values = values ≡ []
IsOpening holds layout (opening.Input name) values = IsInputIn (holds name.now) values
IsOpening holds layout (opening.Memory name) values = IsMemoryIn (holds name.now) layout values
IsOpening holds layout (opening.Drawn d) values = values ≡ drawn d.low d.high d.seed (total_size layout)
IsOpening holds layout (opening.OfKind kind seed) values = IsDrawn kind seed (total_size (take (declarations kind) layout)) values

-- ---- runs

-- how a run ends
abbrev pub ending_text : List SharedEntry → Verdict → List ℕ
ending_text layout (Ended output memory) = codes "ended"
ending_text layout (Faulted fault output) = fault_text layout fault
ending_text layout (GoesOn output) = codes "goes on"

-- what is told within its bound of a run that is told statement by statement
abbrev pub entries_of : FoundSteps → List Entry
entries_of s = run_entries s.loaded.program s.input.items s.limit.bound

-- what it comes to
abbrev pub IsOutcomeOf : FoundSteps → Outcome → Type 0
IsOutcomeOf s o = IsMeaningOf s.loaded.program s.input.items s.limit.bound (verdict_of o)

-- in milliseconds of the call, when a run's time is over
abbrev pub until_of : Limit → Option ℕ
until_of l = option_map (λ seconds. seconds * 1000) l.seconds

-- behind so many statements a run ends: where those are fewer than its limit has, its seconds ended it there
abbrev pub limit_at : Limit → ℕ → Limit
limit_at l behind = record { bound = behind; seconds = if nat_lt behind l.bound then l.seconds else None }

abbrev pub cut_at : FoundSteps → ℕ → FoundSteps
cut_at s behind = record s { limit = limit_at s.limit behind }

-- it may end there: behind as many statements as its limit has, or where it has some seconds behind no more
abbrev pub EndsIn : FoundSteps → ℕ → Type 0
EndsIn s behind = EndsBy (until_of s.limit) s.limit.bound behind

-- the run, once it has come to this
abbrev pub with_outcome : FoundSteps → Outcome → FoundRun
with_outcome s o = record { loaded = s.loaded; input = s.input; limit = s.limit; outcome = o }
