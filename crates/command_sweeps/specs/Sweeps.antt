-- What a sweep over sizes finds: at each size what a call finds that counts the costs at that size alone.
use Rattle.std.specs.Prelude.{◌≡◌, ◌⊎◌, ◌-◌, ℕ, Bool, true, false, not, List, ◌∷◌, [], ◌++◌, length, take, Option, Some, None, Ok, Err}
use Rattle.std.specs.List.{AllZip, list_any, slice_get}
use Rattle.std.specs.Option.{IsSomeAnd}
use Rattle.std.specs.Str.{IsUtf8}
use Rattle.sized_texts.specs.Filling.{filled}
use Rattle.sized_texts.specs.declared.size.Size.{Size}
use Rattle.sized_texts.specs.declared.fault.SizeFault.{SizeFault}
use Rattle.sized_texts.specs.declared.sweep.Sweep.{Sweep}
use Rattle.sized_texts.specs.Sweeps.{IsSweepOf}
use Rattle.write_rules.specs.Verdict.{Ended, Faulted, GoesOn, Verdict, verdict_of}
use Rattle.costs.specs.declared.cost.Cost.{Cost}
use Rattle.program_texts.specs.Shown.{fault_text}
use Rattle.program_texts.specs.declared.from_text.Refusal.TheVariants as refusal
use Rattle.program_texts.specs.declared.stop.Stop.{Stop}
use Rattle.program_texts.specs.declared.stop.Stop.TheVariants as stop
use Rattle.diagnoses.specs.RefusedLines.{stop_line}
use Rattle.diagnoses.specs.declared.about.About.TheVariants as about
use Rattle.pram_model.specs.Layout.{SharedEntry}
use Rattle.sweeps.specs.SweptTables.{IsToldOf, table}
use Rattle.sweeps.specs.declared.measure.Measure.TheVariants.{Time, Work}
use Rattle.sweeps.specs.declared.size_row.Counts.{Counts}
use Rattle.sweeps.specs.declared.size_row.Ending.{Ending}
use Rattle.sweeps.specs.declared.size_row.Ending.TheVariants as ending
use Rattle.sweeps.specs.declared.size_row.SizeRow.{SizeRow}
use Rattle.command_requests.specs.Given.{AreSizesOf, IsOfSizes}
use Rattle.command_requests.specs.declared.opening.Opening.{Opening}
use Rattle.command_requests.specs.declared.opening.Opening.TheVariants as opening
use Rattle.command_requests.specs.declared.request.ProgramFile.{ProgramFile}
use Rattle.command_requests.specs.declared.request.SizeWord.{SizeWord}
use Rattle.command_requests.specs.declared.run_words.MeaningWords.{MeaningWords}
use Rattle.command_requests.specs.declared.sweep_words.SweepWords.{SweepWords}
use Rattle.command_requests.specs.declared.request.SizeWord.TheVariants.{Given, Swept}
use Rattle.command_facts.specs.declared.found.FoundRun.{FoundRun}
use Rattle.command_facts.specs.declared.found.FoundSweep.{FoundSweep}
use Rattle.diagnoses.specs.declared.halted.Halted.{Halted}
use Rattle.command_facts.specs.Held.{StopsAtProgram}
use Rattle.command_runs.specs.Refused.{NamesNone, RefusesMeaning}
use Rattle.command_runs.specs.Runs.{IsCostOf, IsMeant}

-- ---- the call at a size

-- that of a sweep, at a size
abbrev pub IsAtSize : (word : List ℕ) (size : ℕ) → SizeWord → Type 0
IsAtSize word size (Swept told at) = (told.now ≡ word) × (at ≡ size)
IsAtSize word size (Given told) = ⊥

-- the file, with one word of a size more, that of a sweep
pub record IsWithWord (file : ProgramFile) (word : List ℕ) (size : ℕ) (at : ProgramFile) : Type 0 where
  pub name : at.name ≡ file.name
  pub last : SizeWord
  pub is : IsAtSize word size last
  pub sizes : at.sizes.items ≡ file.sizes.items ++ last ∷ []

-- a name by sizes has none: a brace is wrong, or what comes out is no text
abbrev pub HasNoName : List Size → List ℕ → Type 0
HasNoName sizes name =
    ((fault : SizeFault) × (filled sizes name ≡ Err fault)) ⊎ ((text : List ℕ) × (filled sizes name ≡ Ok text) × ¬ (IsUtf8 text))

-- what the cells hold at the sizes of a file's words: an input is read from the file whose name these fill
abbrev pub IsOpeningAt : List SizeWord → Opening → Opening → Type 0
IsOpeningAt words (opening.Input name) (opening.Input at) =
    (sizes : List Size) × AreSizesOf words sizes × (filled sizes name.now ≡ Ok at.now)
IsOpeningAt words (opening.Input name) _ = ⊥
IsOpeningAt words o at = at ≡ o

-- how a program is run on what its cells hold
abbrev pub words_on : SweepWords → Opening → MeaningWords
words_on w o = record { opening = o; bound = w.bound; seconds = None }

-- ---- what comes of it

abbrev pub counts_of : Cost → Counts
counts_of c = record {
  time = c.time;
  work = c.work;
  width = c.width;
  reads = c.reads;
  writes = c.writes;
  most_exchanges = c.most_exchanges;
  most_words = c.most_words;
}

-- a run's counts, with the fault where it faults
abbrev pub IsEndingBy : List SharedEntry → Verdict → Cost → Ending → Type 0
IsEndingBy layout (Ended output memory) c e = e ≡ ending.Ended (counts_of c)
IsEndingBy layout (GoesOn output) c e = e ≡ ending.GoesOn (counts_of c)
IsEndingBy layout (Faulted fault output) c (ending.Faulted counts text) = (counts ≡ counts_of c) × (text.items ≡ fault_text layout fault)
IsEndingBy layout (Faulted fault output) c _ = ⊥

-- the line of a refusal without its end
abbrev pub refusal_text : Halted → List ℕ
refusal_text h = take (length (stop_line h.stop h.about) - 1) (stop_line h.stop h.about)

abbrev pub IsRefusedFor : Halted → Ending → Type 0
IsRefusedFor h (ending.Refused text) = text.items ≡ refusal_text h
IsRefusedFor h _ = ⊥

-- a run by the definition on what its cells hold comes out so, with what it costs
pub record RunsTo (holds : List ℕ → Option (List ℕ) → Type 0) (at : ProgramFile) (w : SweepWords) (o : Opening) (e : Ending) : Type 0 where
  pub run : FoundRun
  pub cost : Cost
  pub meant : IsMeant holds at (words_on w o) run
  pub costs : IsCostOf run.loaded.program run.input.items run.limit.bound None w.workers cost
  pub ends : IsEndingBy run.loaded.program.layout (verdict_of run.outcome) cost e

-- or it is refused
abbrev pub RunsAs : (List ℕ → Option (List ℕ) → Type 0) → ProgramFile → SweepWords → Opening → Ending → Type 0
RunsAs holds at w o e = RunsTo holds at w o e ⊎ ((h : Halted) × RefusesMeaning holds at o NamesNone h × IsRefusedFor h e)

-- its name has none by the sizes of the words, or memory was refused
abbrev pub HasNoNameFor : List SizeWord → List ℕ → Stop → Type 0
HasNoNameFor words name (stop.Number word) = (word.now ≡ name) × ((sizes : List Size) × AreSizesOf words sizes × HasNoName sizes name)
HasNoNameFor words name (stop.Refused refusal.OutOfMemory) = Unit {0}
HasNoNameFor words name _ = ⊥

-- the name of an input's file can't be filled: a word gives no size, or the name has none by these sizes
abbrev pub IsUnfilled : List SizeWord → List ℕ → Stop → Type 0
IsUnfilled words name why = IsOfSizes words why ⊎ HasNoNameFor words name why

abbrev pub HasNoInput : List SizeWord → Opening → Halted → Type 0
HasNoInput words (opening.Input name) h = IsUnfilled words name.now h.stop × (h.about ≡ about.Nothing)
HasNoInput words _ h = ⊥

-- the call at a size comes out so
abbrev pub ComesOut : (List ℕ → Option (List ℕ) → Type 0) → (at : ProgramFile) → SweepWords → Ending → Type 0
ComesOut holds at w e =
    ((o : Opening) × IsOpeningAt at.sizes.items w.opening o × RunsAs holds at w o e)
    ⊎ ((h : Halted) × HasNoInput at.sizes.items w.opening h × IsRefusedFor h e)

-- ---- rows

-- what a sweep tells of a size
pub record IsRow (holds : List ℕ → Option (List ℕ) → Type 0) (file : ProgramFile) (words : SweepWords) (size : ℕ) (row : SizeRow)
    : Type 0 where
  pub sized : row.size ≡ size
  pub at : ProgramFile
  pub is_at : IsWithWord file words.word.now size at
  pub out : ComesOut holds at words row.ending

-- What a sweep finds: a row for each size of its word, in order, and how time and work grow by these.
pub record IsSwept (holds : List ℕ → Option (List ℕ) → Type 0) (file : ProgramFile) (words : SweepWords) (f : FoundSweep) : Type 0 where
  pub sweep : IsSweepOf words.word.now (Some f.sweep)
  pub rows : AllZip (IsRow holds file words) f.sweep.sizes.items f.rows.items
  pub time : IsToldOf f.growths.time (table Time f.rows.items)
  pub work : IsToldOf f.growths.work (table Work f.rows.items)
  pub form : f.form ≡ words.form

-- ---- why a sweep finds nothing

abbrev pub is_refusal : Ending → Bool
is_refusal (ending.Refused text) = true
is_refusal (ending.Ended counts) = false
is_refusal (ending.GoesOn counts) = false
is_refusal (ending.Faulted counts text) = false

abbrev pub is_run : Ending → Bool
is_run e = not (is_refusal e)

abbrev pub IsOfMemory : Halted → Type 0
IsOfMemory h = (h.stop ≡ stop.Refused refusal.OutOfMemory) × (h.about ≡ about.Nothing)

-- the program at a size is refused, or memory was
abbrev pub IsProgramRefused : (List ℕ → Option (List ℕ) → Type 0) → ProgramFile → (word : List ℕ) (size : ℕ) → Halted → Type 0
IsProgramRefused holds file word size h =
    ((at : ProgramFile) × IsWithWord file word size at × StopsAtProgram (holds at.name.now) at h) ⊎ IsOfMemory h

-- at no size there is a run, and the program at the first is refused
pub record NoneRuns (holds : List ℕ → Option (List ℕ) → Type 0) (file : ProgramFile) (words : SweepWords) (sizes : List ℕ) (h : Halted)
    : Type 0 where
  pub rows : List SizeRow
  pub are_rows : AllZip (IsRow holds file words) sizes rows
  pub refused : list_any (λ r. is_run r.ending) rows ≡ false
  pub first : ℕ
  pub is_first : IsSomeAnd (slice_get sizes 0) (λ s. first ≡ s)
  pub stops : IsProgramRefused holds file words.word.now first h

abbrev pub HasNoRows : (List ℕ → Option (List ℕ) → Type 0) → ProgramFile → SweepWords → List ℕ → Halted → Type 0
HasNoRows holds file words sizes h = IsOfMemory h ⊎ NoneRuns holds file words sizes h

-- the word is that of no sweep, or memory was refused
abbrev pub IsOfWord : List ℕ → Stop → Type 0
IsOfWord word (stop.Number told) = told.now ≡ word
IsOfWord word _ = ⊥

abbrev pub HasNoSweep : List ℕ → Halted → Type 0
HasNoSweep word h = (IsOfWord word h.stop × (h.about ≡ about.Nothing) × IsSweepOf word None) ⊎ IsOfMemory h

-- the word is that of no sweep, or there are no rows for its sizes
abbrev pub StopsAtSweep : (List ℕ → Option (List ℕ) → Type 0) → ProgramFile → SweepWords → Halted → Type 0
StopsAtSweep holds file words h =
    HasNoSweep words.word.now h ⊎ ((s : Sweep) × IsSweepOf words.word.now (Some s) × HasNoRows holds file words s.sizes.items h)
