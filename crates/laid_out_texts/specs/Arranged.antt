-- A text laid out anew, with nothing in it changed but white space.
use Rattle.std.specs.Prelude.{ℕ, nat_le, Bool, true, false, ◌&&◌, if◌then◌else◌, List, length, Option, Some, None}
use Rattle.pram_model.specs.Names.{same_text}
use Rattle.pram_tokens.specs.Scanning.{longest}
use Rattle.laid_out_texts.specs.Layout.{laid_out}
use Rattle.laid_out_texts.specs.Pieces.{listed}
use Rattle.laid_out_texts.specs.Spelled.{spelled}

-- whether both are there, and are one
abbrev pub same_lines : Option (List ℕ) → Option (List ℕ) → Bool
same_lines (Some a) (Some b) = same_text a b
same_lines _ _ = false

-- whether both have the same pieces in their order, and the same tokens, and the second is laid out already
abbrev pub is_same : (old new : List ℕ) → Bool
is_same old new =
    nat_le (length new) longest
    && (same_text (listed new) (listed old) && (same_lines (spelled new) (spelled old) && same_text (laid_out new) new))

abbrev pub chosen : Bool → (old new : List ℕ) → List ℕ
chosen true old new = new
chosen false old new = old

-- A text laid out. It stays as it is where its layout would not have the same pieces and tokens, would not be its own layout, or would be
-- longer than a text may be.
unfoldable pub arranged : List ℕ → List ℕ
arranged text = chosen (is_same text (laid_out text)) text (laid_out text)
