-- What a reader of a C text may rely on.
use Rattle.std.specs.Prelude.{◌≡◌, ℕ}
use Rattle.std.specs.List.{AllByRecursion}
use Rattle.pram_model.specs.Layout.{SharedEntry}
use Rattle.superstep_instructions.specs.Code.{SuperstepCode}
use Rattle.superstep_instructions.specs.Limits.{IsCode}
use Rattle.mpi_export.specs.Program.{c_text}

-- a byte that is no quotation mark, no backslash and no end of a line
abbrev pub IsPlain : ℕ → Type 0
IsPlain b = (b ≡ 34 → ⊥) × (b ≡ 92 → ⊥) × (b ≡ 10 → ⊥)

-- No name of a declaration has a byte that means something in a string literal of C, so it stands there as it is.
abbrev pub NamesStandInLiterals : Type 0
NamesStandInLiterals = (code : SuperstepCode) → IsCode code → AllByRecursion (λ (e : SharedEntry). AllByRecursion IsPlain e.name)
    code.layout

-- A text is that of one code: who reads the plan in it knows each word of the code.
abbrev pub TextsTellCodes : Type 0
TextsTellCodes = (one two : SuperstepCode) → IsCode one → IsCode two → c_text one ≡ c_text two → one ≡ two
