-- The lines of declarations are read in one way.
use Rattle.std.proofs.Common.{◌≡◌, ℕ, List, [], ◌∷◌, ◌++◌, refl, sym, ◌∙◌, ◌≤◌, arith, subst, Bool, true, false, not, lit≤}
use Rattle.std.proofs.lemmas.Bool.Decides.{nat_tests}
use Rattle.std.proofs.lemmas.Int.{ints}
use Rattle.std.specs.Fmt.{signed_decimal}
use Rattle.std.specs.Prelude.{ℤ, pos, Some, None, Option, ◌&&◌}
use Rattle.pram_model.specs.Names.{IsName, are_words, begins_with_letter, is_keyword, is_name, is_word}
use Rattle.superstep_instructions.specs.Code.{Wide}
use Rattle.std.specs.Prelude.{codes}
use Rattle.pram_model.specs.Layout.{SharedEntry}
use Rattle.superstep_listing.specs.Cutting.{IsCut, Lacks}
use Rattle.superstep_instructions.specs.Limits.{AreBounds, Fits, IsEntry}
use Rattle.superstep_listing.specs.Listing.{entry_line, entry_words, line}
use Rattle.superstep_listing.proofs.Cuts.{cut_as}
use Rattle.superstep_listing.proofs.Decoded.{lacks_visible}
use lib.Signed.{lt_z}
use mir.Syntax.{w64}
use mir.Val.{to_z, of_z}
use Rattle.pram_model.proofs.Truths.{both}
use Rattle.std.proofs.lemmas.Bool.{not-true}

pub is_name_yes : (text : List ℕ) → is_name text ≡ true → IsName text
is_name_yes text h =
    let first = both (begins_with_letter text) (are_words text && not (is_keyword text)) h in
    let rest = both (are_words text) (not (is_keyword text)) first.1 in
    record { letter = first.0; words = rest.0; no_keyword = not-true (is_keyword text) rest.1 }

pub is_name_no : (text : List ℕ) (b : Bool) → b ≡ is_name text → b ≡ false → IsName text → ⊥
is_name_no text b told is n =
    let e : is_name text ≡ true = simp (n.letter, n.words, n.no_keyword) in cc

-- a word's byte is above the space
not_blank : (b byte : ℕ) → byte ≤ 32 → is_word b ≡ true → b ≡ byte → ⊥
not_blank b byte low h e = grind (arith, nat_tests)

lacks_words : (byte : ℕ) (text : List ℕ) → byte ≤ 32 → are_words text ≡ true → Lacks byte text
lacks_words byte [] low h = tt
lacks_words byte (b ∷ rest) low h =
    let parts = both (is_word b) (are_words rest) h in
    (not_blank b byte low parts.0, lacks_words byte rest low parts.1)

pub lacks_name : (byte : ℕ) (text : List ℕ) → byte ≤ 32 → IsName text → Lacks byte text
lacks_name byte text low n = lacks_words byte text low n.words

pub low_fits : (low high : ℤ) → AreBounds (Some (low, high)) → Fits (Wide low)
low_fits low high h = (omega (arith, ints), omega (arith, ints))

pub high_fits : (low high : ℤ) → AreBounds (Some (low, high)) → Fits (Wide high)
high_fits low high h = (omega (arith, ints), omega (arith, ints))

-- numbers whose tests contradict the order of bounds
pub low_below : (v low high : ℤ) → v ≡ low → AreBounds (Some (low, high)) → lt_z (to_z w64 (of_z w64 v)) (pos 0) ≡ true → ⊥
low_below v low high same h lt = grind (arith, ints)

pub high_below : (v w low high : ℤ) → v ≡ low → w ≡ high → AreBounds (Some (low, high)) → lt_z (to_z w64 (of_z w64 w))
    (to_z w64 (of_z w64 v)) ≡ true → ⊥
high_below v w low high same_low same_high h lt = grind (arith, ints)

-- a line that is no declaration's, by its first word and what stands behind that
module _ (bytes word rest : List ℕ) (parts : IsCut 32 bytes word rest) where
  none_by : ((name : List ℕ) → IsName name → word ≡ codes "cell" → rest ≡ name → ⊥)
      → ((name : List ℕ) (low high : ℤ) → IsName name → AreBounds (Some (low, high)) → word ≡ codes "array" →
      rest ≡ name ++ 32 ∷ (signed_decimal low ++ 32 ∷ signed_decimal high) → ⊥)
      → (name : List ℕ) (bounds : Option (ℤ × ℤ)) → IsName name → AreBounds bounds → bytes ≡ line (entry_words name bounds) → ⊥
  none_by no_cell no_array name None n h e = let is = cut_as (codes "cell") name parts (lacks_visible 32 (codes "cell") (lit≤ tt) refl) e in
      no_cell name n is.0 is.1
  none_by no_cell no_array name (Some (low, high)) n h e =
      let is = cut_as (codes "array") _ parts (lacks_visible 32 (codes "array") (lit≤ tt) refl) e in no_array name low high n h is.0 is.1

  pub no_kind : (word ≡ codes "cell" → ⊥) × (word ≡ codes "array" → ⊥) → (e : SharedEntry) → IsEntry e → bytes ≡ entry_line e → ⊥
  no_kind neither e is = none_by (λ name n w r. neither.0 w) (λ name low high n h w r. neither.1 w) e.name e.bounds is.is_name is.are_bounds

  pub no_cell : word ≡ codes "cell" → (IsName rest → ⊥) → (e : SharedEntry) → IsEntry e → bytes ≡ entry_line e → ⊥
  no_cell is_cell none e is = none_by (λ name n w r. none (subst IsName (sym r) n)) (λ name low high n h w r.
      absurd (let both : codes "cell" ≡ codes "array" = sym is_cell ∙ w in cc)) e.name e.bounds is.is_name is.are_bounds

  pub no_array : word ≡ codes "array"
      → ((name : List ℕ) (low high : ℤ) → IsName name → AreBounds (Some (low, high)) →
      rest ≡ name ++ 32 ∷ (signed_decimal low ++ 32 ∷ signed_decimal high) → ⊥)
      → (e : SharedEntry) → IsEntry e → bytes ≡ entry_line e → ⊥
  no_array is_array none e is = none_by (λ name n w r. absurd (let both : codes "cell" ≡ codes "array" = sym w ∙ is_array in cc))
      (λ name low high n h w r. none name low high n h r) e.name e.bounds is.is_name is.are_bounds
