-- Lists of runners, and how items are laid.
use Rattle.std.proofs.Common.{◌≡◌, ℕ, zero, suc, ◌+◌, ◌-◌, ◌<◌, List, [], ◌∷◌, ◌++◌, map, length, take, drop, Option, Some, None, slice_get}
use Rattle.std.proofs.Common.{sym, refl, ap, ◌∙◌, ⊎_elim, length-append, append_assoc, arith}
use lib.Seq.{length-take-le}
use Rattle.atomic_table.specs.Table.{rest, turned}
use Rattle.atomic_table.specs.Seated.{TableId}
use Rattle.turnstile.specs.declared.start.told.Told.TheVariants.{Nothing}
use Rattle.turnstile.specs.Lines.{slots_of, bare}
use Rattle.turnstile.specs.Runners.{RunnerState, AreNewRunners}
use Rattle.turnstile.proofs.Shelvings.{get_end}

module _ {T : Type 0} where
  slots_end : (k : ℕ) (os : List (Option T)) (o : Option T) → slots_of k (os ++ o ∷ []) ≡ slots_of k os ++ (k + length os, o) ∷ []
  slots_end k [] o = let z : k ≡ k + 0 = omega arith in ap (λ (n : ℕ). (n, o) ∷ []) z
  slots_end k (a ∷ os) o = let z : suc k + length os ≡ k + suc (length os) = omega arith in
      ap (λ (l : List (ℕ × Option T)). (k, a) ∷ l) (slots_end (suc k) os o ∙ ap (λ (n : ℕ). slots_of (suc k) os ++ (n, o) ∷ []) z)

  pub bare_first : (j p : ℕ) (l : List (ℕ × Option T)) → j < p → bare j (p - j) ++ l ≡ (j, None) ∷ (bare (suc j) (p - suc j) ++ l)
  bare_first j p l lt = let z : p - j ≡ suc (p - suc j) = omega arith in rw z refl

  take_one : (xs ys : List T) (x : T) (j : ℕ) → drop j xs ≡ x ∷ ys → (take (suc j) xs ≡ take j xs ++ x ∷ []) × (drop (suc j) xs ≡ ys)
  take_one [] ys x zero e = absurd (cc)
  take_one [] ys x (suc j) e = absurd (cc)
  take_one (z ∷ zs) ys x zero e = let a : z ≡ x = cc in let b : zs ≡ ys = cc in (ap (λ (q : T). q ∷ []) a, b)
  take_one (z ∷ zs) ys x (suc j) e = let h = take_one zs ys x j e in (ap (λ (q : List T). z ∷ q) h.0, h.1)

  map_end : (xs : List T) (x : T) → map Some (xs ++ x ∷ []) ≡ map Some xs ++ Some x ∷ []
  map_end [] x = refl
  map_end (y ∷ ys) x = ap (λ (z : List (Option T)). Some y ∷ z) (map_end ys x)

  -- one item is laid: m before, m₁ after the exchange, m₂ after the turn
  pub laid_more : (j p : ℕ) (xs ys : List T) (x : T) (m m₁ m₂ : List (ℕ × Option T)) → j < p → length xs ≡ p →
      m ≡ bare j (p - j) ++ slots_of 0 (map Some (take j xs)) → drop j xs ≡ x ∷ ys → m₁ ≡ (j, Some x) ∷ rest m → m₂ ≡ turned m₁
      → (m₂ ≡ bare (j + 1) (p - (j + 1)) ++ slots_of 0 (map Some (take (j + 1) xs))) × (ys ≡ drop (j + 1) xs)
  laid_more j p xs ys x m m₁ m₂ lt len e d e₁ e₂ =
      let l : List (ℕ × Option T) = slots_of 0 (map Some (take j xs)) in let t = take_one xs ys x j d in let z : j + 1 ≡ suc j =
      omega arith in
      let r : rest m ≡ bare (suc j) (p - suc j) ++ l = ap rest (e ∙ bare_first j p l lt) in
      let n : length (map Some (take j xs)) ≡ j = lib.ListN.length-map (take j xs) Some ∙ length-take-le j xs (omega arith) in
      let grown : slots_of 0 (map Some (take (suc j) xs)) ≡ l ++ (j, Some x) ∷ [] = ap (λ (q : List T). slots_of 0 (map Some q)) t.0
      ∙ ap (slots_of 0) (map_end (take j xs) x) ∙ slots_end 0 (map Some (take j xs)) (Some x)
      ∙ (let w : 0 + length (map Some (take j xs)) ≡ j = omega arith in ap (λ (k : ℕ). l ++ (k, Some x) ∷ []) w) in (
        rw z (e₂ ∙ ap turned e₁ ∙ ap (λ (q : List (ℕ × Option T)). q ++ (j, Some x) ∷ []) r
            ∙ append_assoc (bare (suc j) (p - suc j)) l ((j, Some x) ∷ [])
            ∙ ap (λ (q : List (ℕ × Option T)). bare (suc j) (p - suc j) ++ q) (sym grown)),
        rw z (sym t.1),
      )

  pub headed : (m l : List (ℕ × Option T)) (x : ℕ × Option T) → m ≡ x ∷ l → m ≡ x ∷ rest m
  headed m l x e = e ∙ ap (λ (z : List (ℕ × Option T)). x ∷ z) (sym (ap rest e))

pub seam : {A : Type 0} (l : List A) (x : A) (t : List A) → slice_get (l ++ x ∷ t) (length l) ≡ Some x
seam [] x t = refl
seam (y ∷ ys) x t = seam ys x t

pub elem_of : {A B : Type 0} (f : A → B) (l : List A) (j : ℕ) (b : A) → slice_get l j ≡ Some b →
    lib.ListN.get_elem? (map f l) j ≡ mathlib.Core.Option.some (f b)
elem_of f [] j b e = absurd (cc)
elem_of f (x ∷ xs) zero b e = ap (λ y. mathlib.Core.Option.some (f y)) (let h : Option.Some x ≡ Some b = e in let r : x ≡ b = cc in r)
elem_of f (x ∷ xs) (suc j) b e = elem_of f xs j b e

pub elem : {A : Type 0} (l : List A) (k : ℕ) → k < length l → (a : A) × (slice_get l k ≡ Some a)
elem [] k lt = absurd (omega arith)
elem (x ∷ xs) zero lt = (x, refl)
elem (x ∷ xs) (suc k) lt = elem xs k (omega arith)

pub runners_end : {T : Type 0} (id : TableId) (n : ℕ) (rs : List (RunnerState T)) (r : RunnerState T) → AreNewRunners id n rs →
    r.table ≡ id → r.at ≡ n → r.heard ≡ Nothing → AreNewRunners id (n + 1) (rs ++ r ∷ [])
runners_end {T} id n rs r h table at heard = record {
  count = length-append rs (r ∷ []) ∙ ap (λ (z : ℕ). z + 1) h.count;
  tables = λ k q e. ⊎_elim (λ old. h.tables k q old) (λ t. ap (λ (z : RunnerState T). z.table) (sym t.1) ∙ table) (get_end rs r q k e);
  order = λ k q e. ⊎_elim (λ old. h.order k q old) (λ t. ap (λ (z : RunnerState T). z.at) (sym t.1) ∙ at
      ∙ sym (t.0 ∙ h.count)) (get_end rs r q k e);
  silence = λ k q e. ⊎_elim (λ old. h.silence k q old) (λ t. ap (λ (z : RunnerState T). z.heard) (sym t.1) ∙ heard) (get_end rs r q k e);
}
