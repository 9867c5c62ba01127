-- Lists of lists, functions changed at one place, and lists that grow by one.
use Rattle.std.proofs.Common.{length-set, subst, set, ◌∙◌, ◌≡◌, ℕ, zero, suc, ◌<◌, ◌≢◌, ◌⊎◌, List, [], ◌∷◌, ◌++◌, length, replicate, sym}
use Rattle.std.proofs.Common.{refl, ap, inl, inr, ⊎_elim, arith}
use mathlib.Core.Option.{some, some-injective, some-ne-none}
use native.Mathlib.Decide.{ℕ_discrete}
use lib.ListN.{get_elem?}
use mathlib.Core.Logic.{dite}
use Rattle.std.specs.Prelude.{All}
use Rattle.atomic_table.proofs.Lists.{at_set, set_here, set_else}
use Rattle.turnstile.specs.Turns.{entry, with_entry}

module _ {A : Type 0} where
  abbrev pick : {P : Type 0} → Dec P → A → A → A
  pick (yes _) a b = a
  pick (no _) a b = b

  -- f, with a at i
  pub put : (ℕ → A) → ℕ → A → ℕ → A
  put f i a j = pick (ℕ_discrete j i) a (f j)

  pub at_put : (f : ℕ → A) (i : ℕ) (a : A) (F : ℕ → A → Type 0) (j : ℕ) → (j ≡ i → F j a) → (j ≢ i → F j (f j)) → F j (put f i a j)
  unfolding put
  at_put f i a F j here other = go (ℕ_discrete j i)
    where
      go : (d : Dec (j ≡ i)) → F j (pick d a (f j))
      go (yes e) = here e
      go (no n) = other n

  pub put_here : (f : ℕ → A) (i : ℕ) (a : A) → put f i a i ≡ a
  put_here f i a = at_put f i a (λ _ x. x ≡ a) i (λ _. refl) (λ n. absurd (n refl))

  pub put_else : (f : ℕ → A) (i : ℕ) (a : A) (j : ℕ) → j ≢ i → put f i a j ≡ f j
  put_else f i a j n = at_put f i a (λ k x. x ≡ f k) j (λ e. absurd (n e)) (λ _. refl)

  pub at_end : (l : List A) (a b : A) (j : ℕ) → get_elem? (l ++ a ∷ []) j ≡ some b → (get_elem? l j ≡ some b) ⊎ ((j ≡ length l) × (a ≡ b))
  at_end [] a b zero e = inr (refl, some-injective a b e)
  at_end [] a b (suc j) e = absurd (some-ne-none b (sym e))
  at_end (x ∷ xs) a b zero e = inl e
  at_end (x ∷ xs) a b (suc j) e = ⊎_elim inl (λ t. inr (ap suc t.0, t.1)) (at_end xs a b j e)

  pub at_below : (l : List A) (j : ℕ) (b : A) → get_elem? l j ≡ some b → j < length l
  at_below [] j b e = absurd (some-ne-none b (sym e))
  at_below (x ∷ xs) zero b e = omega arith
  at_below (x ∷ xs) (suc j) b e = let h = at_below xs j b e in omega arith

  pub at_replicate : (n : ℕ) (a b : A) (j : ℕ) → get_elem? (replicate n a) j ≡ some b → a ≡ b
  at_replicate zero a b j e = absurd (some-ne-none b (sym e))
  at_replicate (suc n) a b zero e = some-injective a b e
  at_replicate (suc n) a b (suc j) e = at_replicate n a b j e

  pub entry-with_entry : (l : List (List A)) (s i : ℕ) (a : A) (t j : ℕ) (b : A) → entry (with_entry l s i a) t j ≡ some b →
      ((t ≡ s) × (j ≡ i) × (a ≡ b) × (s < length l)) ⊎ (entry l t j ≡ some b)
  entry-with_entry [] s i a t j b e = inr e
  entry-with_entry (r ∷ rs) zero i a zero j b e = ⊎_elim (λ h. inl (refl, h.0, h.1, omega arith)) (λ h. inr h.1) (at_set r i j a b e)
  entry-with_entry (r ∷ rs) zero i a (suc t) j b e = inr e
  entry-with_entry (r ∷ rs) (suc s) i a zero j b e = inr e
  entry-with_entry (r ∷ rs) (suc s) i a (suc t) j b e =
      ⊎_elim (λ h. inl (ap suc h.0, h.1, h.2, (let lt = h.3 in omega arith))) (λ h. inr h) (entry-with_entry rs s i a t j b e)

  pub length-with_entry : (l : List (List A)) (s i : ℕ) (a : A) → length (with_entry l s i a) ≡ length l
  length-with_entry [] s i a = refl
  length-with_entry (r ∷ rs) zero i a = refl
  length-with_entry (r ∷ rs) (suc s) i a = ap suc (length-with_entry rs s i a)

  pub entry_end : (l : List (List A)) (r : List A) (s i : ℕ) (b : A) → entry (l ++ r ∷ []) s i ≡ some b →
      (entry l s i ≡ some b) ⊎ (get_elem? r i ≡ some b)
  entry_end [] r zero i b e = inr e
  entry_end [] r (suc s) i b e = inl e
  entry_end (x ∷ xs) r zero i b e = inl e
  entry_end (x ∷ xs) r (suc s) i b e = entry_end xs r s i b e

  pub entry_longer : (l : List (List A)) (r : List A) (s i : ℕ) (b : A) → entry l s i ≡ some b → entry (l ++ r ∷ []) s i ≡ some b
  entry_longer [] r s i b e = absurd (some-ne-none b (sym e))
  entry_longer (x ∷ xs) r zero i b e = e
  entry_longer (x ∷ xs) r (suc s) i b e = entry_longer xs r s i b e

  pub entry_last : (l : List (List A)) (r : List A) (i : ℕ) (b : A) → get_elem? r i ≡ some b → entry (l ++ r ∷ []) (length l) i ≡ some b
  entry_last [] r i b e = e
  entry_last (x ∷ xs) r i b e = entry_last xs r i b e

  -- where each row has n entries, each has still n
  pub wide-with_entry : (n : ℕ) (l : List (List A)) (s i : ℕ) (a : A) → All (λ r. length r ≡ n) l → All (λ r. length r ≡ n)
      (with_entry l s i a)
  wide-with_entry n [] s i a h k d lt = absurd (omega arith)
  wide-with_entry n (r ∷ rs) zero i a h zero d lt = length-set r i a ∙ h zero d (omega arith)
  wide-with_entry n (r ∷ rs) zero i a h (suc k) d lt = h (suc k) d lt
  wide-with_entry n (r ∷ rs) (suc s) i a h zero d lt = h zero d (omega arith)
  wide-with_entry n (r ∷ rs) (suc s) i a h (suc k) d lt =
      wide-with_entry n rs s i a (λ j e below. h (suc j) e (omega arith)) k d (omega arith)

  pub entry_here : (n : ℕ) (l : List (List A)) (s i : ℕ) (a : A) → All (λ r. length r ≡ n) l → s < length l → i < n →
      entry (with_entry l s i a) s i ≡ some a
  entry_here n [] s i a h ls li = absurd (omega arith)
  entry_here n (r ∷ rs) zero i a h ls li = set_here r i a (subst (λ (z : ℕ). i < z) (sym (h zero r (omega arith))) li)
  entry_here n (r ∷ rs) (suc s) i a h ls li = entry_here n rs s i a (λ j e below. h (suc j) e (omega arith)) (omega arith) li

  set_keeps : (P : A → Type 0) (r : List A) (i j : ℕ) (a b : A) → get_elem? r j ≡ some b → P a → P b →
      (c : A) × (get_elem? (set r i a) j ≡ some c) × P c
  set_keeps P r i j a b e pa pb = dite (ℕ_discrete j i)
      (λ (same : j ≡ i). (
        a,
        subst (λ (z : ℕ). get_elem? (set r i a) z ≡ some a) (sym same)
            (set_here r i a (subst (λ (z : ℕ). z < length r) same (at_below r j b e))),
        pa,
      ))
      (λ other. (b, set_else r i j a other ∙ e, pb))

  -- an entry that has P has it still where another that has P is written
  pub entry_keeps : (P : A → Type 0) (l : List (List A)) (s i : ℕ) (a : A) (t j : ℕ) (b : A) → entry l t j ≡ some b → P a → P b →
      (c : A) × (entry (with_entry l s i a) t j ≡ some c) × P c
  entry_keeps P [] s i a t j b e pa pb = (b, e, pb)
  entry_keeps P (r ∷ rs) zero i a zero j b e pa pb = set_keeps P r i j a b e pa pb
  entry_keeps P (r ∷ rs) zero i a (suc t) j b e pa pb = (b, e, pb)
  entry_keeps P (r ∷ rs) (suc s) i a zero j b e pa pb = (b, e, pb)
  entry_keeps P (r ∷ rs) (suc s) i a (suc t) j b e pa pb = entry_keeps P rs s i a t j b e pa pb
