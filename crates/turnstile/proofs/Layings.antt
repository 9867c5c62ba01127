-- How a worker lays its pieces into its slots, one pair after the other.
use Rattle.std.proofs.Common.{◌≡◌, ℕ, zero, suc, ◌+◌, ◌-◌, ◌<◌, Option, Some, None, List, [], ◌∷◌, ◌++◌, length, take, drop, sym, refl, ap}
use Rattle.std.proofs.Common.{◌∙◌, append_assoc, arith}
use lib.Seq.{length-take-le}
use Rattle.atomic_table.specs.Table.{rest}
use Rattle.exchange_arena.specs.Piece.{PieceState}
use Rattle.turnstile.specs.Turns.{slot, Carried}
use Rattle.turnstile.specs.Loads.{emptied, loaded}
use Rattle.turnstile.proofs.Gives.{loaded_end}

take_one : (xs ys : List PieceState) (x : PieceState) (j : ℕ) → drop j xs ≡ x ∷ ys → (take (suc j) xs ≡ take j xs ++ x ∷ [])
    × (drop (suc j) xs ≡ ys)
take_one [] ys x zero e = absurd (cc)
take_one [] ys x (suc j) e = absurd (cc)
take_one (z ∷ zs) ys x zero e = let a : z ≡ x = cc in let b : zs ≡ ys = cc in (ap (λ (q : PieceState). q ∷ []) a, b)
take_one (z ∷ zs) ys x (suc j) e = let h = take_one zs ys x j e in (ap (λ (q : List PieceState). z ∷ q) h.0, h.1)

pub some_more : (xs : List PieceState) (j : ℕ) → j < length xs → 0 < length (drop j xs)
some_more [] j lt = absurd (omega arith)
some_more (x ∷ xs) zero lt = omega arith
some_more (x ∷ xs) (suc j) lt = some_more xs j (omega arith)

module _ (p w s : ℕ) where
  pub first_empty : (j : ℕ) (l : Carried) → j < p → emptied p w s j (p - j) ++ l ≡ (slot p s w j, None) ∷ (slot p (s + 1) j w, None)
      ∷ (emptied p w s (suc j) (p - suc j) ++ l)
  first_empty j l lt = let z : p - j ≡ suc (p - suc j) = omega arith in rw z refl

  pub laid_more : (j : ℕ) (xs ys xs' ys' : List PieceState) (x y : PieceState) (m m' : Carried) → j < p → length xs ≡ p → length ys ≡ p →
      m ≡ emptied p w s j (p - j) ++ loaded p w s 0 (take j xs) (take j ys)
      → drop j xs ≡ x ∷ xs' → drop j ys ≡ y ∷ ys' → m' ≡ rest (rest m) ++ (slot p s w j, Some x) ∷ (slot p (s + 1) j w, Some y) ∷ []
      → (m' ≡ emptied p w s (j + 1) (p - (j + 1)) ++ loaded p w s 0 (take (j + 1) xs) (take (j + 1) ys)) × (xs' ≡ drop (j + 1) xs)
      × (ys' ≡ drop (j + 1) ys)
  laid_more j xs ys xs' ys' x y m m' lt lx ly e dx dy f =
      let a = take_one xs xs' x j dx in let b = take_one ys ys' y j dy in let z : j + 1 ≡ suc j = omega arith in
      let l = loaded p w s 0 (take j xs) (take j ys) in
      let tx : length (take j xs) ≡ j = length-take-le j xs (omega arith) in let ty : length (take j ys) ≡ j =
      length-take-le j ys (omega arith) in
      let m₁ : rest (rest m) ≡ emptied p w s (suc j) (p - suc j) ++ l = ap (λ (q : Carried). rest (rest q)) (e ∙ first_empty j l lt) in
      let grown : loaded p w s 0 (take (suc j) xs) (take (suc j) ys) ≡ l ++ (slot p s w j, Some x) ∷ (slot p (s + 1) j w, Some y) ∷ [] =
      (λ q. loaded p w s 0 (a.0 q) (b.0 q)) ∙ loaded_end p w s 0 (take j xs) (take j ys) x y (tx ∙ sym ty)
      ∙ (let n : 0 + length (take j xs) ≡ j = omega arith in
      ap (λ (k : ℕ). l ++ (slot p s w k, Some x) ∷ (slot p (s + 1) k w, Some y) ∷ []) n) in (
        rw z (f ∙ ap (λ (q : Carried). q ++ (slot p s w j, Some x) ∷ (slot p (s + 1) j w, Some y) ∷ []) m₁
            ∙ append_assoc (emptied p w s (suc j) (p - suc j)) l ((slot p s w j, Some x) ∷ (slot p (s + 1) j w, Some y) ∷ [])
            ∙ ap (λ (q : Carried). emptied p w s (suc j) (p - suc j) ++ q) (sym grown)),
        rw z (sym a.1),
        rw z (sym b.1),
      )

pub two_first : (m l : Carried) (a b : ℕ × Option PieceState) → m ≡ a ∷ b ∷ l → m ≡ a ∷ b ∷ rest (rest m)
two_first m l a b e = e ∙ ap (λ (z : Carried). a ∷ b ∷ z) (sym (ap (λ (z : Carried). rest (rest z)) e))
