-- What a call finds, or why it finds nothing.
use Rattle.std.specs.Prelude.{◌≡◌, ◌⊎◌, ℕ, List, Option, None, Result, Ok, Err}
use Rattle.std.specs.Option.{option_map}
use Rattle.bsp_verify.specs.WellFormed.{IsWellFormed}
use Rattle.program_texts.specs.declared.stop.Stop.{Stop}
use Rattle.diagnoses.specs.declared.about.About.TheVariants as about
use Rattle.diagnoses.specs.declared.halted.Halted.{Halted}
use Rattle.command_requests.specs.declared.request.ProgramFile.{ProgramFile}
use Rattle.command_requests.specs.declared.request.Request.{Request}
use Rattle.command_requests.specs.declared.request.Request.TheVariants as request
use Rattle.command_requests.specs.declared.scope_words.ScopeWords.{ScopeWords}
use Rattle.command_requests.specs.declared.specification_files.SpecificationFiles.{SpecificationFiles}
use Rattle.command_facts.specs.declared.found.Found.{Found}
use Rattle.command_facts.specs.declared.found.Found.TheVariants as found
use Rattle.command_facts.specs.declared.found.Settled.TheVariants as settled
use Rattle.command_facts.specs.Found.{IsLoaded}
use Rattle.command_facts.specs.Held.{IsListingIn, IsTextIn, StopsAtListing, StopsAtProgram, StopsAtText}
use Rattle.command_pairs.specs.Grades.{IsGraded, StopsAtGrade}
use Rattle.command_pairs.specs.Pairs.{IsPaired, StopsAtPair}
use Rattle.command_runs.specs.Refused.{NamesForeign, NamesNone, NamesUnknown, RefusesCode, RefusesCodeRun, RefusesMeaning, RefusesWorkers}
use Rattle.command_runs.specs.Runs.{IsCodeFound, IsCodeOfFile, IsComparisonFound, IsCostFound, IsMeaningFound, IsRunFound, IsStepsFound}
use Rattle.command_runs.specs.Runs.{IsTraceFound}
use Rattle.command_runs.specs.Overalls.{IsSurveyed, StopsAtSurvey}
use Rattle.command_runs.specs.Scopes.{IsExplored, StopsAtExploration}
use Rattle.command_sweeps.specs.Sweeps.{IsSwept, StopsAtSweep}

-- what is found on inputs
abbrev pub IsExploration : (List ℕ → Option (List ℕ) → Type 0) → ProgramFile → SpecificationFiles → ScopeWords → (bound : ℕ) → Found → Type 0
IsExploration holds file files scope bound (found.Settled (settled.Explored f)) = IsExplored holds file files scope bound f
IsExploration holds file files scope bound _ = ⊥

-- what a call finds
abbrev pub Finds : (List ℕ → Option (List ℕ) → Type 0) → Request → Found → Type 0
Finds holds request.Version (found.Settled settled.Version) = Unit {0}
Finds holds (request.Explanation subject) (found.Settled (settled.Explanation told)) = told ≡ subject
Finds holds (request.Check file) (found.Settled (settled.Accepted l)) = IsLoaded (holds file.name.now) file l
Finds holds (request.Expand file) (found.Settled (settled.Expanded s)) = IsTextIn (holds file.name.now) file.sizes.items s
Finds holds (request.Plan file) (found.Settled (settled.Planned code)) = IsCodeOfFile holds file code
Finds holds (request.Export file) (found.Settled (settled.Exported code)) = IsCodeOfFile holds file code
Finds holds (request.PlainC file) (found.Settled (settled.ExportedAlone code)) = IsCodeOfFile holds file code
Finds holds (request.Meaning file words shown) (found.Settled (settled.Run r told)) =
    IsMeaningFound holds file words shown r × (told ≡ shown)
Finds holds (request.Cost file words costs) (found.Settled (settled.Costed r told c)) =
    IsCostFound holds file words costs r c × (told ≡ costs)
Finds holds (request.Steps file words steps) (found.Stepped s) = IsStepsFound holds file words steps s
Finds holds (request.Rules file opening bound) (found.Settled (settled.Compared c)) = IsComparisonFound holds file opening bound c
Finds holds (request.Run file words shown) (found.Settled (settled.Run r told)) = IsRunFound holds file words shown r × (told ≡ shown)
Finds holds (request.Trace file words trace) (found.Settled (settled.Traced r told t)) =
    IsTraceFound holds file words trace r t × (told ≡ trace)
Finds holds (request.Sweep file words) (found.Settled (settled.Swept s)) = IsSwept holds file words s
Finds holds (request.Exploration file files scope bound witness) f = IsExploration holds file files scope bound f
Finds holds (request.Always file words bound) (found.Settled (settled.Surveyed f)) = IsSurveyed holds file words bound f
Finds holds (request.Pair words) (found.Settled (settled.Paired f)) = IsPaired holds words f
Finds holds (request.Grade words) (found.Settled (settled.Graded f)) = IsGraded holds words f
Finds holds (request.Listing file words shown) (found.Settled (settled.Executed c)) = IsCodeFound holds file.now words shown c
Finds holds (request.ListingInC file) (found.Settled (settled.Exported code)) = IsListingIn (holds file.now) code × IsWellFormed code
Finds holds _ _ = ⊥

-- the file into which the first input is to be written on which something goes wrong, if a call names one
abbrev pub witness_of : Request → Option (List ℕ)
witness_of (request.Exploration file files scope bound witness) = option_map (λ name. name.now) witness
witness_of _ = None

-- what a call asks for is found before anything is told of it: texts that are laid out are told one by one
abbrev pub IsFoundFirst : Request → Type 0
IsFoundFirst (request.Arrange words) = ⊥
IsFoundFirst _ = Unit {0}

-- why a call finds nothing
abbrev pub Refuses : (List ℕ → Option (List ℕ) → Type 0) → Request → Halted → Type 0
Refuses holds request.Version h = ⊥
Refuses holds (request.Explanation subject) h = ⊥
Refuses holds (request.Check file) h = StopsAtProgram (holds file.name.now) file h
Refuses holds (request.Expand file) h = StopsAtText (holds file.name.now) file h
Refuses holds (request.Arrange words) h = ⊥
Refuses holds (request.Plan file) h = RefusesCode holds file h
Refuses holds (request.Export file) h = RefusesCode holds file h
Refuses holds (request.PlainC file) h = RefusesCode holds file h
Refuses holds (request.Meaning file words shown) h = RefusesMeaning holds file words.opening (NamesUnknown shown) h
Refuses holds (request.Cost file words costs) h = RefusesMeaning holds file words.opening NamesNone h
Refuses holds (request.Steps file words steps) h = RefusesMeaning holds file words.opening (NamesForeign steps) h
Refuses holds (request.Rules file opening bound) h = RefusesMeaning holds file opening NamesNone h
Refuses holds (request.Run file words shown) h = RefusesWorkers holds file words (NamesUnknown shown) h
Refuses holds (request.Trace file words trace) h = RefusesWorkers holds file words NamesNone h
Refuses holds (request.Sweep file words) h = StopsAtSweep holds file words h
Refuses holds (request.Exploration file files scope bound witness) h = StopsAtExploration holds file files scope h
Refuses holds (request.Always file words bound) h = StopsAtSurvey holds file words h
Refuses holds (request.Pair words) h = StopsAtPair holds words h
Refuses holds (request.Grade words) h = StopsAtGrade holds words h
Refuses holds (request.Listing file words shown) h = RefusesCodeRun holds file.now words shown h
Refuses holds (request.ListingInC file) h = StopsAtListing (holds file.now) file.now h

-- why a request is refused: its words are, or nothing is found
abbrev pub IsStop : (List ℕ → Option (List ℕ) → Type 0) → Result Request Stop → Halted → Type 0
IsStop holds (Ok request) h = Refuses holds request h
IsStop holds (Err why) h = (h.stop ≡ why) × (h.about ≡ about.Nothing)
