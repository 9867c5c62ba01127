-- What a program, and a text, is compiled to.
use Rattle.std.specs.Prelude.{◌≡◌, ℕ, List, true}
use Rattle.superstep_instructions.specs.Code.{SuperstepCode}
use Rattle.pram_check.specs.Checked.{Checked}
use Rattle.pram_check.specs.Bounded.{IsBounded}
use Rattle.plain_form.specs.PlainForm.{form_of}
use Rattle.fusing.specs.Fusing.{IsFused}
use Rattle.program_texts.specs.Report.{IsProgramOf}
use Rattle.compiled_meaning.specs.Supersteps.{IsFusedForm}

-- The code of a program: its plain form without the sends that send nothing. Exactly one code is that.
abbrev pub IsCodeOf : Checked → SuperstepCode → Type 0
IsCodeOf p code = IsFused (form_of true p) code

-- The text is that of an accepted program, of which this is the code: on the workers of every lawful map, for every input and every
-- bound, it comes out as this program does, and as nothing else, by at most as many supersteps as the program's bound.
pub record IsCompiledFrom (text : List ℕ) (code : SuperstepCode) : Type 0 where
  pub program : Checked
  pub is_program : IsProgramOf text program
  pub is_code : IsCodeOf program code
  pub means : IsFusedForm program code

-- ---- laws

-- any two codes of a program are equal, and each program within bounds has one
abbrev pub HasOneCode : Type 0
HasOneCode = (p : Checked) (one other : SuperstepCode) → IsCodeOf p one → IsCodeOf p other → one ≡ other

abbrev pub HasACode : Type 0
HasACode = (p : Checked) → IsBounded p → (code : SuperstepCode) × IsCodeOf p code

-- any two codes of the programs of one text are equal
abbrev pub TextsHaveOneCode : Type 0
TextsHaveOneCode = (text : List ℕ) (p q : Checked) → IsProgramOf text p → IsProgramOf text q → (code other : SuperstepCode) →
    IsCodeOf p code → IsCodeOf q other → code ≡ other
