-- Words that are written one item after the other.
use Rattle.std.proofs.Common.{◌≡◌, ℕ, ℤ, zero, suc, ◌+◌, ◌*◌, ◌≤◌, ◌^◌, List, [], ◌∷◌, ◌++◌, length, set, take, drop, Bool, true, false}
use Rattle.std.proofs.Common.{refl, sym, ap, ◌∙◌, arith, cond, append_assoc, append-nil, length-append, FitsSigned, w64}
use Rattle.std.specs.List.{flat_map, filter}
use Rattle.std.proofs.lemmas.List.{drop-drop, drop_all}
use native.Mathlib.Numerals.{unary_clauses}
use Rattle.pram_model.specs.declared.rule.Rule.{Rule}
use Rattle.pram_model.specs.declared.rule.Rule.TheVariants.{Sum}
use Rattle.superstep_machine.specs.Words.{CellPut, put_words, bit, word_of, low_word, high_word}
use Rattle.superstep_machine.specs.WordReading.{put_length}
use Rattle.superstep_machine.specs.Fitting.{FitsValue}
use Rattle.write_rules.specs.Rule.{is_sum}

-- ---- words written from n on

pub take_one : {X : Type 0} (xs : List X) (n : ℕ) (a : X) → n + 1 ≤ length xs → take (n + 1) (set xs n a) ≡ take n xs ++ a ∷ []
take_one [] n a h = absurd (omega arith)
take_one (x ∷ xs) zero a h = refl
take_one (x ∷ xs) (suc n) a h = let e = simp unary_clauses at (take_one xs n a (omega arith)) in simp unary_clauses (ap (λ w. x ∷ w) e)

pub take_three : {X : Type 0} (xs : List X) (n : ℕ) (a b c : X) → n + 3 ≤ length xs →
    take (n + 3) (set (set (set xs n a) (n + 1) b) (n + 2) c) ≡ take n xs ++ a ∷ b ∷ c ∷ []
take_three [] n a b c h = absurd (omega arith)
take_three (x ∷ []) n a b c h = absurd (omega arith)
take_three (x ∷ y ∷ []) n a b c h = absurd (omega arith)
take_three (x ∷ y ∷ z ∷ xs) zero a b c h = refl
take_three (x ∷ y ∷ z ∷ xs) (suc n) a b c h = let e = simp unary_clauses at (take_three (y ∷ z ∷ xs) n a b c (omega arith)) in
    simp unary_clauses (ap (λ w. x ∷ w) e)

pub take_four : {X : Type 0} (xs : List X) (n : ℕ) (a b c d : X) → n + 4 ≤ length xs →
    take (n + 4) (set (set (set (set xs n a) (n + 1) b) (n + 2) c) (n + 3) d) ≡ take n xs ++ a ∷ b ∷ c ∷ d ∷ []
take_four [] n a b c d h = absurd (omega arith)
take_four (x ∷ []) n a b c d h = absurd (omega arith)
take_four (x ∷ y ∷ []) n a b c d h = absurd (omega arith)
take_four (x ∷ y ∷ z ∷ []) n a b c d h = absurd (omega arith)
take_four (x ∷ y ∷ z ∷ v ∷ xs) zero a b c d h = refl
take_four (x ∷ y ∷ z ∷ v ∷ xs) (suc n) a b c d h = let e = simp unary_clauses at (take_four (y ∷ z ∷ v ∷ xs) n a b c d (omega arith)) in
    simp unary_clauses (ap (λ w. x ∷ w) e)

-- what is behind stays
pub drop_further : {X : Type 0} (xs ys : List X) (n k : ℕ) → drop n xs ≡ drop n ys → drop (n + k) xs ≡ drop (n + k) ys
drop_further xs ys n k e = sym (drop-drop k n xs) ∙ ap (drop k) e ∙ drop-drop k n ys

-- ---- a put by the rule

pub sum_words : (rule : Rule) (x : CellPut) → is_sum rule ≡ true → put_words rule x ≡ (x.cell + 2 ^ 20 * bit x.entry.clash)
    ∷ word_of x.entry.owner ∷ low_word x.entry.value ∷ high_word x.entry.value ∷ []
sum_words Sum x h = refl
sum_words rule x h = cc

pub value_words : (rule : Rule) (x : CellPut) → is_sum rule ≡ false → put_words rule x ≡ (x.cell + 2 ^ 20 * bit x.entry.clash)
    ∷ word_of x.entry.owner ∷ word_of x.entry.value ∷ []
value_words Sum x h = cc
value_words rule x h = refl

pub sum_length : (rule : Rule) → is_sum rule ≡ true → put_length rule ≡ 4
sum_length Sum h = refl
sum_length rule h = cc

pub value_length : (rule : Rule) → is_sum rule ≡ false → put_length rule ≡ 3
value_length Sum h = cc
value_length rule h = refl

pub value_fits : (rule : Rule) (z : ℤ) → is_sum rule ≡ false → FitsValue rule z → FitsSigned w64 z
value_fits Sum z h f = cc
value_fits rule z h f = f

-- ---- the loop

abbrev pub packed : {X : Type 0} → (X → List ℕ) → (X → Bool) → List X → List ℕ
packed words mine held = flat_map words (filter mine held)

module _ {X : Type 0} (words : X → List ℕ) (mine : X → Bool) where
  packed_yes : (x : X) (xs : List X) → mine x ≡ true → packed words mine (x ∷ xs) ≡ words x ++ packed words mine xs
  packed_yes x xs h = ap (λ b. flat_map words (cond b (x ∷ filter mine xs) (filter mine xs))) h

  packed_not : (x : X) (xs : List X) → mine x ≡ false → packed words mine (x ∷ xs) ≡ packed words mine xs
  packed_not x xs h = ap (λ b. flat_map words (cond b (x ∷ filter mine xs) (filter mine xs))) h

  -- one item on: where it is for the module, and where it isn't
  module _ (held : List X) (i : ℕ) (q : X) (more : drop i held ≡ q ∷ drop (i + 1) held) (before all : List ℕ)
      (known : before ++ packed words mine (drop i held) ≡ all) where
    pub pack_yes : (after : List ℕ) → mine q ≡ true → after ≡ before ++ words q → after ++ packed words mine (drop (i + 1) held) ≡ all
    pack_yes after h e =
        ap (λ w. w ++ packed words mine (drop (i + 1) held)) e
        ∙ append_assoc before (words q) (packed words mine (drop (i + 1) held))
        ∙ sym (ap (λ w. before ++ w) (ap (packed words mine) more ∙ packed_yes q (drop (i + 1) held) h))
        ∙ known

    pub pack_not : mine q ≡ false → before ++ packed words mine (drop (i + 1) held) ≡ all
    pack_not h = sym (ap (λ w. before ++ w) (ap (packed words mine) more ∙ packed_not q (drop (i + 1) held) h)) ∙ known

    pub pack_room : (n : ℕ) → mine q ≡ true → length before ≡ n → n + length (words q) ≤ length all
    pack_room n h e =
        let a = ap length (sym (ap (λ w. before ++ w) (ap (packed words mine) more ∙ packed_yes q (drop (i + 1) held) h)) ∙ known) in
        let b = length-append before (words q ++ packed words mine (drop (i + 1) held)) in
        let d = length-append (words q) (packed words mine (drop (i + 1) held)) in
        omega arith

  -- at the end
  pub pack_end : (held : List X) (i : ℕ) (before all : List ℕ) → length held ≤ i → before ++ packed words mine (drop i held) ≡ all →
      before ≡ all
  pack_end held i before all l e = sym (append-nil before) ∙ sym (ap (λ w. before ++ packed words mine w) (drop_all i held l)) ∙ e
