-- What two exchanges and two turns leave of the slots that a seat holds.
use Rattle.std.proofs.Common.{◌≡◌, ℕ, List, [], ◌∷◌, ◌++◌, sym, ap, ◌∙◌, append_assoc}
use Rattle.atomic_table.specs.Table.{rest, turned}

module _ {S : Type 0} where
  pub headed : (m l : List (ℕ × S)) (x : ℕ × S) → m ≡ x ∷ l → m ≡ x ∷ rest m
  headed m l x e = e ∙ ap (λ (z : List (ℕ × S)). x ∷ z) (sym (ap rest e))

  -- after the first exchange and the first turn
  pub once : (m m₁ m₂ : List (ℕ × S)) (i j : ℕ) (a b n : S) → m ≡ (i, a) ∷ (j, b) ∷ rest (rest m) → m₁ ≡ (i, n) ∷ rest m → m₂ ≡ turned m₁ →
      m₂ ≡ (j, b) ∷ (rest (rest m) ++ (i, n) ∷ [])
  once m m₁ m₂ i j a b n h e f = f ∙ ap turned e ∙ ap (λ (z : List (ℕ × S)). z ++ (i, n) ∷ []) (ap rest h)

  -- and after the second
  pub twice : (m m₂ m₃ m₄ : List (ℕ × S)) (i j : ℕ) (b n o : S) → m₂ ≡ (j, b) ∷ (rest (rest m) ++ (i, n) ∷ []) → m₃ ≡ (j, o) ∷ rest m₂ →
      m₄ ≡ turned m₃ → m₄ ≡ rest (rest m) ++ (i, n) ∷ (j, o) ∷ []
  twice m m₂ m₃ m₄ i j b n o h e f = f ∙ ap turned e ∙ ap (λ (z : List (ℕ × S)). z ++ (j, o) ∷ []) (ap rest h)
      ∙ append_assoc (rest (rest m)) ((i, n) ∷ []) ((j, o) ∷ [])
