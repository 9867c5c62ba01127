-- What calls find of programs that are graded by a first one.
use Rattle.std.specs.Prelude.{◌≡◌, ◌⊎◌, ℕ, List, Option, Result, Ok, Err}
use Rattle.std.specs.List.{AllZip}
use Rattle.command_requests.specs.declared.pair_words.GradeWords.{GradeWords}
use Rattle.command_requests.specs.declared.pair_words.PairWords.{PairWords}
use Rattle.program_texts.specs.declared.from_text.Refusal.TheVariants as refusal
use Rattle.program_texts.specs.declared.stop.Stop.TheVariants as stop
use Rattle.diagnoses.specs.declared.about.About.TheVariants as about
use Rattle.diagnoses.specs.declared.halted.Halted.{Halted}
use Rattle.command_facts.specs.declared.found.FoundGrade.{FoundGrade}
use Rattle.command_facts.specs.declared.found.FoundPair.{FoundPair}
use Rattle.command_facts.specs.declared.found.GradeRow.{GradeRow}
use Rattle.command_facts.specs.Held.{StopsAtProgram}
use Rattle.command_facts.specs.Refused.{IsProgramIn}
use Rattle.command_pairs.specs.Pairs.{IsPaired, StopsAtPair}

-- what is found of the two programs, or why nothing is
abbrev pub IsGradeBy : (List ℕ → Option (List ℕ) → Type 0) → PairWords → Result FoundPair Halted → Type 0
IsGradeBy holds words (Ok f) = IsPaired holds words f
IsGradeBy holds words (Err h) = StopsAtPair holds words h

-- the row of a program: under its file's name what is found of it and the first program, whatever is found of others
abbrev pub IsRow : (List ℕ → Option (List ℕ) → Type 0) → PairWords → GradeRow → Type 0
IsRow holds words row = (row.name.now ≡ words.second.name.now) × IsGradeBy holds words row.graded

-- a row for each program, in their order; the first program is there
pub record IsGraded (holds : List ℕ → Option (List ℕ) → Type 0) (words : GradeWords) (f : FoundGrade) : Type 0 where
  pub reference : IsProgramIn holds words.reference f.reference
  pub name : f.name.now ≡ words.reference.name.now
  pub rows : AllZip (IsRow holds) words.pairs.items f.rows.items

-- the first program is not there; or memory for the rows was refused
abbrev pub StopsAtGrade : (List ℕ → Option (List ℕ) → Type 0) → GradeWords → Halted → Type 0
StopsAtGrade holds words h =
    StopsAtProgram (holds words.reference.name.now) words.reference h
    ⊎ ((h.stop ≡ stop.Refused refusal.OutOfMemory) × (h.about ≡ about.Nothing))
