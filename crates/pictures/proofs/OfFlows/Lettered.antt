-- What has no letter that a text of SVG has otherwise.
use Rattle.std.proofs.Common.{◌≡◌, ◌∙◌, ℕ, ℤ, Bool, true, false, List, [], ◌∷◌, ◌++◌, ap, codes, refl}
use Rattle.std.specs.Prelude.{if◌then◌else◌, nat_lt}
use Rattle.std.specs.Fmt.{signed_decimal}
use Rattle.program_texts.specs.Shown.{spaced}
use Rattle.svg_texts.specs.Letters.{letters}
use Rattle.svg_texts.proofs.LettersJoined.{letters_append, letters_signed}
use Rattle.pictures.specs.Flows.Picture.{cell_cut}

pub spaced_letters : (vs : List ℤ) → letters (spaced vs) ≡ spaced vs
spaced_letters [] = refl
spaced_letters (v ∷ vs) =
    ap (λ t. codes " " ++ t) (letters_append (signed_decimal v) (spaced vs) ∙ (λ i. letters_signed v i ++ spaced_letters vs i))

pub cut_letters : (found : ℕ) → cell_cut found ≡ letters (cell_cut found)
cut_letters found = by (nat_lt 64 found)
  where
    some : List ℕ
    some = codes "the first that these statements touch, and that of a fault"

    all : List ℕ
    all = codes "those that these statements touch"

    by : (b : Bool) → (if b then some else all) ≡ letters (if b then some else all)
    by true = refl
    by false = refl
