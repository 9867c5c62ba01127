-- Lists that are gone through by number.
use Rattle.std.proofs.Common.{◌≡◌, ℕ, zero, suc, ◌+◌, ◌<◌, ◌≤◌, List, [], ◌∷◌, length, drop, refl, sym, ap, ◌∙◌, arith, ⊎_elim, ◌⊎◌, inl}
use Rattle.std.proofs.Common.{inr, slice_index_or}
use Rattle.std.proofs.lemmas.Bool.Decides.{eqb_tells}

pub split_at : {A : Type 0} (xs : List A) (k : ℕ) (x : A) → k < length xs → x ≡ slice_index_or xs k x → drop k xs ≡ x ∷ drop (k + 1) xs
split_at [] k x h e = absurd (omega arith)
split_at (y ∷ ys) zero x h e = ap (λ z. z ∷ ys) (sym e)
split_at (y ∷ ys) (suc k) x h e =
    let next : suc (k + 1) ≡ suc k + 1 = omega arith in
    split_at ys k x (omega arith) e ∙ ap (λ n. x ∷ drop n (y ∷ ys)) next

pub drop_all : {A : Type 0} (xs : List A) (k : ℕ) → length xs ≤ k → drop k xs ≡ []
drop_all [] zero h = refl
drop_all [] (suc k) h = refl
drop_all (x ∷ xs) zero h = absurd (omega arith)
drop_all (x ∷ xs) (suc k) h = drop_all xs k (omega arith)

pub at_or_before : (k v : ℕ) → k < v + 1 → (k ≡ v) ⊎ (k < v)
at_or_before k v m = ⊎_elim (λ e. inl (sym e.1)) (λ e. inr (let apart = e.1 in omega (arith, apart, m))) (eqb_tells v k)

pub below_or_past : (k n : ℕ) → (k < n) ⊎ (n ≤ k)
below_or_past k zero = inr (omega arith)
below_or_past zero (suc n) = inl (omega arith)
below_or_past (suc k) (suc n) = ⊎_elim (λ (a : k < n). inl (omega arith)) (λ (a : n ≤ k). inr (omega arith)) (below_or_past k n)
