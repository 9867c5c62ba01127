-- The text of a program: what its file holds, expanded by the sizes that the words of the call give.
use Rattle.std.specs.Prelude.{◌≡◌, ◌<◌, ◌⊎◌, ℕ, List, length, Option, Some, None, Ok, Err}
use Rattle.std.specs.List.{slice_get}
use Rattle.std.specs.Option.{IsSomeAnd}
use Rattle.pram_tokens.specs.Plain.{IsFirstOther, IsPlain}
use Rattle.pram_tokens.specs.Scanning.{longest}
use Rattle.pram_tokens.specs.declared.error.TextFault.{TextFault}
use Rattle.pram_tokens.specs.declared.error.TextFault.TheVariants as fault
use Rattle.sized_texts.specs.Expansion.{expansion}
use Rattle.sized_texts.specs.Faults.{shown}
use Rattle.sized_texts.specs.Pieces.{Expansion}
use Rattle.sized_texts.specs.declared.expanded.Expanded.{Expanded}
use Rattle.sized_texts.specs.declared.fault.SizeFault.TheVariants as no_expansion
use Rattle.sized_texts.specs.declared.size.Size.{Size}
use Rattle.program_texts.specs.declared.from_text.Refusal.TheVariants as refusal
use Rattle.program_texts.specs.declared.stop.Stop.{Stop}
use Rattle.program_texts.specs.declared.stop.Stop.TheVariants as stop
use Rattle.command_requests.specs.declared.request.SizeWord.{SizeWord}
use Rattle.command_requests.specs.Given.{AreSizesOf, word_text}

-- the text has that expansion by the sizes of the words
pub record IsExpandedBy (words : List SizeWord) (text : List ℕ) (e : Expansion) : Type 0 where
  pub plain : IsPlain text
  pub sizes : List Size
  pub given : AreSizesOf words sizes
  pub is : expansion sizes text ≡ Ok e

-- so it has this one
abbrev pub HasExpansion : (words : List SizeWord) → (text : List ℕ) → Option Expanded → Type 0
HasExpansion words text None = ⊥
HasExpansion words text (Some e) = IsExpandedBy words text (shown e)

-- ---- texts without an expansion

-- The text is too long, or has a byte of 128 or more.
abbrev pub IsNotPlain : List ℕ → TextFault → Type 0
IsNotPlain text fault.TextTooLong = longest < length text
IsNotPlain text (fault.NotAscii at) = IsFirstOther text at
IsNotPlain text _ = ⊥

-- why a text has no expansion by sizes: one of its places, its length, or the word of a size that it doesn't declare
abbrev pub IsUnexpanded : (words : List SizeWord) → List Size → (text : List ℕ) → Stop → Type 0
IsUnexpanded words sizes text (stop.BadSize at reason) = expansion sizes text ≡ Err (no_expansion.BadSize at reason)
IsUnexpanded words sizes text (stop.Refused (refusal.Text fault.TextTooLong)) = expansion sizes text ≡ Err no_expansion.TooLong
IsUnexpanded words sizes text (stop.Number word) =
    (i : ℕ) × (expansion sizes text ≡ Err (no_expansion.NotDeclared i)) × IsSomeAnd (slice_get words i) (λ w. word.now ≡ word_text w)
IsUnexpanded words sizes text (stop.Refused refusal.OutOfMemory) = Unit {0}
IsUnexpanded words sizes text _ = ⊥

-- A plain text has none by the sizes of the words. Memory is asked for only where the text is plain.
pub record IsUnexpandedBy (words : List SizeWord) (text : List ℕ) (why : Stop) : Type 0 where
  pub plain : IsPlain text
  pub sizes : List Size
  pub given : AreSizesOf words sizes
  pub is : IsUnexpanded words sizes text why

-- what a text that isn't plain is refused for
abbrev pub IsOfBytes : List ℕ → Stop → Type 0
IsOfBytes text (stop.Refused (refusal.Text why)) = IsNotPlain text why
IsOfBytes text _ = ⊥

-- a text has no expansion for that
abbrev pub HasNoExpansion : (words : List SizeWord) → (text : List ℕ) → Stop → Type 0
HasNoExpansion words text why = IsOfBytes text why ⊎ IsUnexpandedBy words text why
