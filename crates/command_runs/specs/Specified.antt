-- The programs by which inputs count and results are right, by the files of a call.
use Rattle.std.specs.Prelude.{◌≡◌, ◌⊎◌, ℕ, ℤ, true, false, List, [], ◌++◌, Option, Some, None, codes, drop, take, slice_get}
use Rattle.std.specs.List.{All}
use Rattle.std.specs.Str.Lossy.{utf8_lossy}
use Rattle.pram_model.specs.Layout.{SharedEntry}
use Rattle.pram_check.specs.Checked.{Checked}
use Rattle.text_places.specs.Escaped.{escaped}
use Rattle.memory_texts.specs.Cells.{declaration}
use Rattle.scopes.specs.Handed.{is_unlike}
use Rattle.scopes.specs.declared.specification.Specification.{Specification}
use Rattle.program_texts.specs.Shown.{bounds_text}
use Rattle.program_texts.specs.declared.from_text.Refusal.TheVariants as refusal
use Rattle.program_texts.specs.declared.stop.Stop.{Stop}
use Rattle.program_texts.specs.declared.stop.Stop.TheVariants as stop
use Rattle.command_requests.specs.declared.request.ProgramFile.{ProgramFile}
use Rattle.command_requests.specs.declared.specification_files.SpecificationFiles.{SpecificationFiles}
use Rattle.diagnoses.specs.declared.about.About.{About}
use Rattle.diagnoses.specs.declared.about.About.TheVariants as about
use Rattle.diagnoses.specs.declared.halted.Halted.{Halted}
use Rattle.command_facts.specs.Held.{StopsAtProgram}
use Rattle.command_facts.specs.Refused.{IsProgramIn, IsProgramWhereNamed, StopsWhereNamed}

-- ---- the programs of a call

-- no declaration of a postcondition has other bounds than the one that it is named after
abbrev pub IsAlike : (layout post : List SharedEntry) → Type 0
IsAlike layout post = All (λ e. is_unlike layout e ≡ false) post

-- the program of a file, of which that is so
abbrev pub IsAlikeIn : (List ℕ → Option (List ℕ) → Type 0) → List SharedEntry → ProgramFile → Checked → Type 0
IsAlikeIn holds layout file program = IsProgramIn holds file program × IsAlike layout program.layout

-- the same, where a file is named
abbrev pub IsPostcondition : (List ℕ → Option (List ℕ) → Type 0) → List SharedEntry → Option ProgramFile → Option Checked → Type 0
IsPostcondition holds layout None program = program ≡ None
IsPostcondition holds layout (Some file) None = ⊥
IsPostcondition holds layout (Some file) (Some program) = IsAlikeIn holds layout file program

-- the precondition and the postcondition are the programs of the files that are named, for a program with these declarations
pub record IsSpecification (holds : List ℕ → Option (List ℕ) → Type 0) (layout : List SharedEntry) (files : SpecificationFiles)
    (s : Specification) : Type 0 where
  pub precondition : IsProgramWhereNamed holds files.precondition s.precondition
  pub postcondition : IsPostcondition holds layout files.postcondition s.postcondition

-- ---- a postcondition that is refused

-- the first declaration of a postcondition that has other bounds than the one that it is named after
pub record IsFirstUnlike (layout post : List SharedEntry) (e : SharedEntry) : Type 0 where
  pub number : ℕ
  pub there : slice_get post number ≡ Some e
  pub unlike : is_unlike layout e ≡ true
  pub first : All (λ d. is_unlike layout d ≡ false) (take number post)

-- `a[1..4]`
abbrev pub declared_text : (name : List ℕ) → Option (ℤ × ℤ) → List ℕ
declared_text name bounds = name ++ bounds_text bounds

-- a declaration of that name, where there is one
abbrev pub named_text : (name : List ℕ) → Option (ℕ × Option (ℤ × ℤ)) → List ℕ
named_text name None = []
named_text name (Some d) = declared_text name d.1

-- the name behind `opening_`
abbrev pub opened_name : List ℕ → List ℕ
opened_name name = drop 8 name

-- the declaration of that name; where there is none, that of the name behind `opening_`
abbrev pub namesake_by : List SharedEntry → (name : List ℕ) → Option (ℕ × Option (ℤ × ℤ)) → List ℕ
namesake_by layout name None = named_text (opened_name name) (declaration 0 layout (opened_name name))
namesake_by layout name (Some d) = declared_text name d.1

abbrev pub namesake_text : List SharedEntry → (name : List ℕ) → List ℕ
namesake_text layout name = namesake_by layout name (declaration 0 layout name)

-- `error: post.pram declares opening_a[1..4], and sort.pram a[1..8]: they have to have the same bounds`
abbrev pub sentence : (post declares file namesake : List ℕ) → List ℕ
sentence post declares file namesake =
    codes "error: " ++ (post ++ (codes " declares " ++ (declares
    ++ (codes ", and " ++ (file ++ (codes " " ++ (namesake ++ codes ": they have to have the same bounds\n")))))))

abbrev pub unlike_text : (file post : List ℕ) → List SharedEntry → SharedEntry → List ℕ
unlike_text file post layout e = sentence (escaped post) (declared_text e.name e.bounds) (escaped file) (namesake_text layout e.name)

-- such a declaration is told, the first, with both bounds; or memory was refused
abbrev pub IsUnlikeTold : (file post : List ℕ) → (layout of_post : List SharedEntry) → Stop → About → Type 0
IsUnlikeTold file post layout of_post (stop.Words text) a =
    ((e : SharedEntry) × IsFirstUnlike layout of_post e × (text.bytes.items ≡ utf8_lossy (unlike_text file post layout e)))
    × (a ≡ about.Nothing)
IsUnlikeTold file post layout of_post (stop.Refused refusal.OutOfMemory) a = a ≡ about.Nothing
IsUnlikeTold file post layout of_post _ a = ⊥

-- the call stops at the file of a postcondition, or its program has such a declaration
abbrev pub StopsAtAlike : (List ℕ → Option (List ℕ) → Type 0) → (name : List ℕ) → List SharedEntry → ProgramFile → Halted → Type 0
StopsAtAlike holds name layout file h = StopsAtProgram (holds file.name.now) file h
    ⊎ ((q : Checked) × IsProgramIn holds file q × IsUnlikeTold name file.name.now layout q.layout h.stop h.about)

-- the same, where a file is named
abbrev pub StopsAtPostcondition : (List ℕ → Option (List ℕ) → Type 0) → (name : List ℕ) → List SharedEntry → Option ProgramFile → Halted →
    Type 0
StopsAtPostcondition holds name layout None h = ⊥
StopsAtPostcondition holds name layout (Some file) h = StopsAtAlike holds name layout file h

-- at the file of the precondition, or behind it at the postcondition
abbrev pub StopsAtSpecification : (List ℕ → Option (List ℕ) → Type 0) → (name : List ℕ) → List SharedEntry → SpecificationFiles → Halted →
    Type 0
StopsAtSpecification holds name layout files h =
    StopsWhereNamed holds files.precondition h ⊎ StopsAtPostcondition holds name layout files.postcondition h
