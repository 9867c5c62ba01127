-- What a test of two texts tells.
use Rattle.std.proofs.Common.{◌≡◌, ◌∙◌, ℕ, Bool, true, false, ◌==◌, ◌&&◌, List, [], ◌∷◌, ap, eqb-true, eq-eqb, refl}
use Rattle.pram_model.specs.Names.{same_text}

-- texts that it takes for one are one
pub same_is : (x y : List ℕ) → same_text x y ≡ true → x ≡ y
same_is [] [] h = refl
same_is [] (b ∷ y) h = absurd (cc)
same_is (a ∷ x) [] h = absurd (cc)
same_is (a ∷ x) (b ∷ y) h = by (a == b) (same_text x y) refl (same_is x y) h
  where
    by : (p q : Bool) → (a == b) ≡ p → (q ≡ true → x ≡ y) → (p && q) ≡ true → (a ∷ x) ≡ (b ∷ y)
    by true true e f g = ap (λ c. c ∷ x) (eqb-true a b e) ∙ ap (λ l. b ∷ l) (f refl)
    by true false e f g = absurd (cc)
    by false q e f g = absurd (cc)

-- a text is taken for itself
pub same_itself : (x : List ℕ) → same_text x x ≡ true
same_itself [] = refl
same_itself (a ∷ x) = ap (λ (b : Bool). b && same_text x x) (eq-eqb a a refl) ∙ same_itself x
