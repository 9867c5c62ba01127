-- What is so of all messages that were sent is so of all that were received.
use Rattle.std.proofs.Common.{◌≡◌, ℕ, zero, suc, ◌<◌, List, [], ◌∷◌, length, Some, refl, sym, ◌∙◌, subst, arith}
use Rattle.std.specs.Prelude.{slice_get}
use Rattle.std.specs.List.{AllByRecursion}
use Rattle.worker_histories.specs.Histories.{entry, HaveExchanged}
use Rattle.std.proofs.lemmas.Option.{slice_get_within}

module _ {M : Type 0} (P : M → Type 0) where
  by_index : (xs : List M) → ((i : ℕ) (x : M) → slice_get xs i ≡ Some x → P x) → AllByRecursion P xs
  by_index [] h = tt
  by_index (x ∷ xs) h = (h 0 x refl, by_index xs (λ i y e. h (suc i) y e))

  at_index : (xs : List M) → AllByRecursion P xs → (i : ℕ) (x : M) → slice_get xs i ≡ Some x → P x
  at_index [] h i x e = absurd (cc e)
  at_index (y ∷ xs) h zero x e = subst P (unsome y x e) h.0
    where
      unsome : (a b : M) → Some a ≡ Some b → a ≡ b
      unsome a b e = cc
  at_index (y ∷ xs) h (suc i) x e = at_index xs h.1 i x e

  by_entry : (p : ℕ) (cs : List (List M)) → AllByRecursion (λ (c : List M). length c ≡ p) cs →
      ((k i : ℕ) (x : M) → i < p → entry cs k i ≡ Some x → P x) → AllByRecursion (AllByRecursion P) cs
  by_entry p [] wide h = tt
  by_entry p (c ∷ cs) wide h = (
    by_index c (λ i x e. h 0 i x (let l = slice_get_within c i x e in let n = wide.0 in omega (arith, l, n)) e),
    by_entry p cs wide.1 (λ k i x l e. h (suc k) i x l e),
  )

  at_entry : (rs : List (List M)) → AllByRecursion (AllByRecursion P) rs → (k i : ℕ) (x : M) → entry rs k i ≡ Some x → P x
  at_entry [] h k i x e = absurd (cc e)
  at_entry (r ∷ rs) h zero i x e = at_index r h.0 i x e
  at_entry (r ∷ rs) h (suc k) i x e = at_entry rs h.1 k i x e

  pub received_all : (p n : ℕ) (rows columns : ℕ → List (List M)) → HaveExchanged p n rows columns →
      ((i : ℕ) → i < p → AllByRecursion (AllByRecursion P) (rows i)) → (j : ℕ) → j < p → AllByRecursion (AllByRecursion P) (columns j)
  received_all p n rows columns exchanged sent j l =
      by_entry p (columns j) (exchanged.wide j l)
      (λ k i x within e. at_entry (rows i) (sent i within) k j x (sym (exchanged.same i j k within l) ∙ e))
