-- What calls find of two programs on the same inputs.
use Rattle.std.specs.Prelude.{◌≡◌, ◌⊎◌, ℕ, ℤ, Bool, not, ◌&&◌, List, [], Option, Some, None, is_none, codes, if◌then◌else◌}
use Rattle.std.specs.List.{AllZip, Any, filter_map, find}
use Rattle.std.specs.Option.{unwrap_or}
use Rattle.pram_model.specs.Layout.{SharedEntry, total_size}
use Rattle.pram_model.specs.Names.{same_text}
use Rattle.pram_check.specs.Checked.{Checked}
use Rattle.pram_check.specs.OtherRule.{under}
use Rattle.pram_model.specs.declared.rule.Rule.{Rule}
use Rattle.scopes.specs.Scopes.{inputs_of}
use Rattle.memory_texts.specs.Chosen.{is_chosen, parts}
use Rattle.memory_texts.specs.declared.choice.Choice.{Choice}
use Rattle.memory_texts.specs.declared.choice.Choice.TheVariants.{All, Named, Nothing}
use Rattle.comparing.specs.Common.{common, common_named, first_front_cells, front_cells, whole}
use Rattle.drawn_kinds.specs.Names.{declarations}
use Rattle.comparing.specs.Found.{AreOfKind, drawn_inputs, found, found_is, longest, most_told, too_long}
use Rattle.comparing.specs.declared.compared.CommonRange.{CommonRange}
use Rattle.comparing.specs.declared.compared.Compared.{Compared}
use Rattle.comparing.specs.declared.comparison.Comparison.{Comparison}
use Rattle.comparing.specs.declared.refusal.Side.{Side}
use Rattle.comparing.specs.declared.refusal.Side.TheVariants as side
use Rattle.command_requests.specs.declared.input_words.DrawnWords.{DrawnWords}
use Rattle.command_requests.specs.declared.input_words.KindWords.{KindWords}
use Rattle.command_requests.specs.declared.input_words.InputFile.{InputFile}
use Rattle.command_requests.specs.declared.input_words.InputWords.{InputWords}
use Rattle.command_requests.specs.declared.input_words.InputWords.TheVariants as inputs
use Rattle.command_requests.specs.declared.pair_words.PairWords.{PairWords}
use Rattle.diagnoses.specs.declared.about.About.{About}
use Rattle.diagnoses.specs.declared.about.About.TheVariants as about
use Rattle.program_texts.specs.declared.from_text.Refusal.TheVariants as refusal
use Rattle.program_texts.specs.declared.stop.Stop.{Stop}
use Rattle.program_texts.specs.declared.stop.Stop.TheVariants as stop
use Rattle.command_facts.specs.declared.found.FoundPair.{FoundPair}
use Rattle.diagnoses.specs.declared.halted.Halted.{Halted}
use Rattle.command_facts.specs.Held.{IsInputIn, StopsAtInput, StopsAtProgram}
use Rattle.command_pairs.specs.Limits.{AreLimits, AreMostProcs, HaveNoLimits, HasNoMostProcs}
use Rattle.command_facts.specs.Refused.{AreNumbers, IsProgramIn, IsProgramOfText, IsProgramWhereNamed, StopsWhereNamed}

-- ---- what is compared

-- the cells of a declaration of the first program, if it is chosen and both have it
abbrev pub range_named : Choice → (first second : List SharedEntry) → SharedEntry → Option CommonRange
range_named choice first second e = if is_chosen choice e.name then common_named first second e.name else None

-- of all declarations that both have; where the second program is graded, of all that the first has
abbrev pub all_ranges : (graded : Bool) → (first second : List SharedEntry) → List CommonRange
all_ranges graded first second = if graded then whole first second else common first second

-- all these cells, or those of the declarations that are named, in the order of the first program
abbrev pub ranges_of : Choice → (graded : Bool) → (first second : List SharedEntry) → List CommonRange
ranges_of All graded first second = all_ranges graded first second
ranges_of Nothing graded first second = []
ranges_of (Named word) graded first second = filter_map (range_named (Named word) first second) first

-- a name that is neither that of the output nor of a declaration that both have
abbrev pub is_uncommon : (first second : List SharedEntry) → (name : List ℕ) → Bool
is_uncommon first second name = not (same_text name (codes "output")) && is_none (common_named first second name)

-- the first of them
abbrev pub uncommon_name : Choice → (first second : List SharedEntry) → Option (List ℕ)
uncommon_name All first second = None
uncommon_name Nothing first second = None
uncommon_name (Named word) first second = find (is_uncommon first second) (parts word.now)

-- the output and all that is compared of the declarations, or what is named, by the limits that are asked for, of the second program,
-- which has this text
pub record IsCompared (words : PairWords) (first second : List SharedEntry) (text : List ℕ) (c : Compared) : Type 0 where
  pub there : uncommon_name words.only first second ≡ None
  pub output : c.output ≡ is_chosen words.only (codes "output")
  pub ranges : c.ranges.items ≡ ranges_of words.only words.is_graded first second
  pub limits : AreLimits words text c.limits

-- ---- the inputs

abbrev pub IsInputOfFile : (List ℕ → Option (List ℕ) → Type 0) → InputFile → List ℤ → Type 0
IsInputOfFile holds file values = IsInputIn (holds file.name.now) values

-- the program beside which the first begins with declarations of which cells are drawn: the second, or, where that is graded, the first
-- itself, so that the inputs are the same whatever is graded
abbrev pub drawn_beside : (graded : Bool) → (p q : Checked) → Checked
drawn_beside graded p q = if graded then p else q

-- how many cells are drawn: as many as the words say, or those of the declarations with which both programs begin
abbrev pub cells_drawn : DrawnWords → (p q : Checked) → ℕ
cells_drawn d p q = unwrap_or d.cells (front_cells p.layout q.layout)

-- how many values each input of a kind has: as many as the words say, or as the first declaration or, of a graph, the first two have
-- cells, as far as both programs begin with them
abbrev pub kind_cells : KindWords → (p q : Checked) → ℕ
kind_cells w p q = unwrap_or w.cells (first_front_cells (declarations w.kind) p.layout q.layout)

-- that, where inputs are drawn
abbrev pub drawn_of : InputWords → (p q : Checked) → Option ℕ
drawn_of (inputs.Scope few) p q = None
drawn_of (inputs.Files files) p q = None
drawn_of (inputs.Drawn d) p q = Some (cells_drawn d p q)
drawn_of (inputs.OfKind w) p q = Some (kind_cells w p q)

-- those of a scope; or those of files; or drawn, of values for so many cells, also of a kind
abbrev pub AreInputs : (List ℕ → Option (List ℕ) → Type 0) → InputWords → (p q : Checked) → List (List ℤ) → Type 0
AreInputs holds (inputs.Scope few) p q is = is ≡ inputs_of few.scope
AreInputs holds (inputs.Files files) p q is = AllZip (IsInputOfFile holds) files.items is
AreInputs holds (inputs.Drawn d) p q is =
    is ≡ drawn_inputs d.drawing.low d.drawing.high d.drawing.seed (cells_drawn d p q) d.count
AreInputs holds (inputs.OfKind w) p q is = AreOfKind w.kind w.seed (kind_cells w p q) w.count is

-- ---- what is found

-- the most values that one of them has
abbrev pub most_values : InputWords → (p q : Checked) → List (List ℤ) → ℕ
most_values (inputs.Scope few) p q is = few.scope.count
most_values (inputs.Files files) p q is = longest is
most_values (inputs.Drawn d) p q is = cells_drawn d p q
most_values (inputs.OfKind w) p q is = kind_cells w p q

-- Over just those of these inputs that count by the precondition, within so many statements each, none of which is too long for a program;
-- told are as many of those on which they differ as there may be of so many values.
pub record IsFoundBy (w : Option Checked) (p q : Checked) (c : Compared) (bound values : ℕ) (is : List (List ℤ)) (f : Comparison) :
    Type 0 where
  pub fit : too_long w p q values ≡ None
  pub found : found_is f ≡ found w p q c bound (most_told values) is

-- the inputs are those of the first program beside a program r
abbrev pub IsFoundOn : (List ℕ → Option (List ℕ) → Type 0) → Option Checked → (p q r : Checked) → Compared → InputWords → (bound : ℕ)
    → Comparison → Type 0
IsFoundOn holds w p q r c words bound f =
    (is : List (List ℤ)) × AreInputs holds words p r is × IsFoundBy w p q c bound (most_values words p r is) is f

-- a program under the rule that is asked for, or under its own
abbrev pub under_rule : Option Rule → Checked → Checked
under_rule None program = program
under_rule (Some rule) program = under rule program

-- of the programs of the two files, the second under the rule that is asked for, by the text of the second one, and by the precondition,
-- where a file is named for it
pub record IsPaired (holds : List ℕ → Option (List ℕ) → Type 0) (words : PairWords) (f : FoundPair) : Type 0 where
  pub first : IsProgramIn holds words.first f.first
  pub text : List ℕ
  pub written : Checked
  pub second : IsProgramOfText holds words.second text written
  pub ran : f.second ≡ under_rule words.under written
  pub declared : f.rule ≡ written.rule
  pub procs : AreMostProcs words text f.most_procs
  pub precondition : IsProgramWhereNamed holds words.precondition f.precondition
  pub drawn : f.drawn ≡ drawn_of words.inputs f.first (drawn_beside words.is_graded f.first f.second)
  pub compared : Compared
  pub is_compared : IsCompared words f.first.layout f.second.layout text compared
  pub found : IsFoundOn holds f.precondition f.first f.second (drawn_beside words.is_graded f.first f.second) compared words.inputs
      words.bound f.comparison

-- ---- why nothing is

-- what is to be compared has such a name, which is told; or memory was refused
abbrev pub IsUncommonIn : PairWords → (first second : List SharedEntry) → Stop → About → Type 0
IsUncommonIn words first second (stop.Number word) a = (uncommon_name words.only first second ≡ Some word.now) × (a ≡ about.Nothing)
IsUncommonIn words first second (stop.Refused refusal.OutOfMemory) a = a ≡ about.Nothing
IsUncommonIn words first second _ a = ⊥

-- the file of one of the inputs is refused; or memory was
abbrev pub StopsAtInputs : (List ℕ → Option (List ℕ) → Type 0) → List InputFile → Halted → Type 0
StopsAtInputs holds files h =
    Any (λ file. StopsAtInput (holds file.name.now) file.name.now h) files
    ⊎ ((h.stop ≡ stop.Refused refusal.OutOfMemory) × (h.about ≡ about.Nothing))

abbrev pub StopsAtWords : (List ℕ → Option (List ℕ) → Type 0) → InputWords → Halted → Type 0
StopsAtWords holds (inputs.Scope few) h = ⊥
StopsAtWords holds (inputs.Files files) h = StopsAtInputs holds files.items h
StopsAtWords holds (inputs.Drawn d) h = ⊥
StopsAtWords holds (inputs.OfKind w) h = ⊥

-- the most values that an input of these files has
abbrev pub AreMostIn : (List ℕ → Option (List ℕ) → Type 0) → List InputFile → ℕ → Type 0
AreMostIn holds files n = (is : List (List ℤ)) × AllZip (IsInputOfFile holds) files is × (n ≡ longest is)

-- the most values that an input has
abbrev pub AreMost : (List ℕ → Option (List ℕ) → Type 0) → InputWords → (p q : Checked) → ℕ → Type 0
AreMost holds (inputs.Scope few) p q n = n ≡ few.scope.count
AreMost holds (inputs.Files files) p q n = AreMostIn holds files.items n
AreMost holds (inputs.Drawn d) p q n = n ≡ cells_drawn d p q
AreMost holds (inputs.OfKind w) p q n = n ≡ kind_cells w p q

-- those of a precondition, if there is one
abbrev pub cells_where : Option Checked → ℕ
cells_where None = 0
cells_where (Some w) = total_size w.layout

-- the cells of one of two programs, or of the precondition
abbrev pub cells_of : Option Checked → (p q : Checked) → Side → ℕ
cells_of w p q side.First = total_size p.layout
cells_of w p q side.Second = total_size q.layout
cells_of w p q side.Precondition = cells_where w

-- those are more than one of the programs has cells, the first before the second before the precondition, which is told with both numbers;
-- or memory was refused
abbrev pub IsTooLong : Option Checked → (p q : Checked) → (values : ℕ) → Stop → About → Type 0
IsTooLong w p q values (stop.Refused refusal.InputTooLong) a =
    (of : Side) × (too_long w p q values ≡ Some of) × AreNumbers a values (cells_of w p q of)
IsTooLong w p q values (stop.Refused refusal.OutOfMemory) a = a ≡ about.Nothing
IsTooLong w p q values _ a = ⊥

-- the runs are refused
abbrev pub IsRefusedPair : (List ℕ → Option (List ℕ) → Type 0) → InputWords → Option Checked → (p q r : Checked) → Halted → Type 0
IsRefusedPair holds words w p q r h =
    StopsAtWords holds words h ⊎ ((values : ℕ) × AreMost holds words p r values × IsTooLong w p q values h.stop h.about)

-- a limit has no number by the text of the second program
abbrev pub StopsAtLimits : (List ℕ → Option (List ℕ) → Type 0) → PairWords → Halted → Type 0
StopsAtLimits holds words h =
    (text : List ℕ) × holds words.second.name.now (Some text) × (HaveNoLimits words text h ⊎ HasNoMostProcs words text h)

-- behind all files of programs: at what is to be compared, at a limit, at an input, or at the runs
pub record StopsBehindAll (holds : List ℕ → Option (List ℕ) → Type 0) (words : PairWords) (h : Halted) : Type 0 where
  pub first : Checked
  pub written : Checked
  pub second : Checked
  pub is_first : IsProgramIn holds words.first first
  pub is_second : IsProgramIn holds words.second written
  pub ran : second ≡ under_rule words.under written
  pub precondition : Option Checked
  pub is_precondition : IsProgramWhereNamed holds words.precondition precondition
  pub refused : IsUncommonIn words first.layout second.layout h.stop h.about
      ⊎ (StopsAtLimits holds words h
      ⊎ IsRefusedPair holds words.inputs precondition first second (drawn_beside words.is_graded first second) h)

-- why nothing is found: for the first file, for the second, for that of the precondition, or behind all
abbrev pub StopsAtPair : (List ℕ → Option (List ℕ) → Type 0) → PairWords → Halted → Type 0
StopsAtPair holds words h =
    StopsAtProgram (holds words.first.name.now) words.first h
    ⊎ (StopsAtProgram (holds words.second.name.now) words.second h
    ⊎ (StopsWhereNamed holds words.precondition h ⊎ StopsBehindAll holds words h))
