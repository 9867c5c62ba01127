-- The name of a sweep's word ends at its first `=`.
use Rattle.std.proofs.Common.{◌≡◌, ◌<◌, ◌≢◌, ◌∷◌, ◌&&◌, [], Bor, List, ℕ, arith, get_or, length, subst, suc, true, zero}
use Rattle.std.specs.Prelude.{Option}
use Rattle.std.specs.Option.{MatchOption}
use Rattle.std.proofs.lemmas.Str.Pattern.{IsSplitOnceResult, split_after}
use Rattle.pram_model.proofs.Truths.{both}
use Rattle.pram_model.specs.Names.{are_words, is_word}
use Rattle.sized_texts.specs.Sweeps.{IsSweepWord, are_some_words}

no_equals : (name : List ℕ) → are_words name ≡ true → (i : ℕ) → i < length name → get_or name i 0 ≢ 61
no_equals [] h i l e = omega (arith, l)
no_equals (b ∷ name) h zero l e = absurd (cc (subst (λ x. is_word x && are_words name ≡ true) e h))
no_equals (b ∷ name) h (suc i) l e = no_equals name (both (is_word b) (are_words name) h).1 i (omega (arith, l)) e

-- where the word of a sweep is cut
pub cut_at : (word name sizes : List ℕ) (r : Option (Bor (List ℕ) × Bor (List ℕ))) → IsSplitOnceResult 61 word r →
    (w : IsSweepWord word name sizes) → MatchOption r ⊥ (λ x. (x.0.now ≡ name) × (x.1.now ≡ w.text))
cut_at word name sizes r h w = split_after 61 word name w.text r h (omega arith) w.parts (no_equals name w.words)

pub some_words : (name : List ℕ) → 0 < length name → are_words name ≡ true → are_some_words name ≡ true
some_words [] some h = absurd (omega (arith, some))
some_words (b ∷ name) some h = h
