-- The least and the greatest of numbers.
use Rattle.std.proofs.Common.{◌≡◌, ◌⊎◌, ◌↔◌, ℕ, zero, suc, ◌≤◌, min, max, Some, None, List, [], ◌∷◌, refl, sym, subst, inl, inr, ◌∙◌, arith}
use Rattle.std.proofs.lemmas.List.Elements.{All-cons, All-nil}
use Rattle.std.proofs.lemmas.Bool.{cases_lt}
use Rattle.std.specs.List.{All, Contains, fold}
use Rattle.scopes.specs.declared.findings.Span.{Span}
use Rattle.scopes.specs.Found.{span_of}

-- in place of one of two numbers, both
one_back : (c a k : ℕ) (ks : List ℕ) (x : ℕ) → (c ≡ a) ⊎ (c ≡ k) → Contains (c ∷ ks) x → Contains (a ∷ k ∷ ks) x
one_back c a k ks x h (suc i, lt, e) = (suc (suc i), omega arith, e)
one_back c a k ks x (inl same) (zero, lt, e) = (0, omega arith, sym same ∙ e)
one_back c a k ks x (inr same) (zero, lt, e) = (1, omega arith, sym same ∙ e)

-- a fold that takes one of two numbers each time comes to one of them
chosen : (f : ℕ → ℕ → ℕ) → ((a b : ℕ) → (f a b ≡ a) ⊎ (f a b ≡ b)) → (a : ℕ) (ks : List ℕ) → Contains (a ∷ ks) (fold f a ks)
chosen f one a [] = (0, omega arith, refl)
chosen f one a (k ∷ ks) = one_back (f a k) a k ks (fold f (f a k) ks) (one a k) (chosen f one (f a k) ks)

min_one : (a b : ℕ) → (min a b ≡ a) ⊎ (min a b ≡ b)
min_one a b = elim (cases_lt a b) [ inl less ↦ inl (omega arith) | inr more ↦ inr (omega arith) ]

max_one : (a b : ℕ) → (max a b ≡ a) ⊎ (max a b ≡ b)
max_one a b = elim (cases_lt a b) [ inl less ↦ inr (omega arith) | inr more ↦ inl (omega arith) ]

least_below : (a : ℕ) (ks : List ℕ) → (fold min a ks ≤ a) × All (λ (k : ℕ). fold min a ks ≤ k) ks
least_below a [] = (omega arith, All-nil (λ (k : ℕ). a ≤ k))
least_below a (k ∷ ks) =
    let r = least_below (min a k) ks in
    let below = r.0 in
    (omega arith, All-cons (λ (j : ℕ). fold min (min a k) ks ≤ j) k ks (omega arith) r.1)

greatest_above : (a : ℕ) (ks : List ℕ) → (a ≤ fold max a ks) × All (λ (k : ℕ). k ≤ fold max a ks) ks
greatest_above a [] = (omega arith, All-nil (λ (k : ℕ). k ≤ a))
greatest_above a (k ∷ ks) =
    let r = greatest_above (max a k) ks in
    let above = r.0 in
    (omega arith, All-cons (λ (j : ℕ). j ≤ fold max (max a k) ks) k ks (omega arith) r.1)

pub among : (ks : List ℕ) (s : Span) → span_of ks ≡ Some s → Contains ks s.least × Contains ks s.greatest
among [] s e = absurd (let P : None ≡ Some s → ⊥ = λ h. cc in P e)
among (k ∷ ks) s e =
    let is : (record { least = fold min k ks; greatest = fold max k ks }) ≡ s = cc in
    subst (λ (t : Span). Contains (k ∷ ks) t.least × Contains (k ∷ ks) t.greatest) is
    (chosen min min_one k ks, chosen max max_one k ks)

pub bounds : (ks : List ℕ) (s : Span) → span_of ks ≡ Some s → All (λ (k : ℕ). (s.least ≤ k) × (k ≤ s.greatest)) ks
bounds [] s e = All-nil (λ (k : ℕ). (s.least ≤ k) × (k ≤ s.greatest))
bounds (k ∷ ks) s e =
    let is : (record { least = fold min k ks; greatest = fold max k ks }) ≡ s = cc in
    let l = least_below k ks in
    let g = greatest_above k ks in
    subst (λ (t : Span). All (λ (j : ℕ). (t.least ≤ j) × (j ≤ t.greatest)) (k ∷ ks)) is
    (All-cons (λ (j : ℕ). (fold min k ks ≤ j) × (j ≤ fold max k ks)) k ks (l.0, g.0)
    (λ i d lt. (l.1 i d lt, g.1 i d lt)))

pub none : (ks : List ℕ) → (span_of ks ≡ None) ↔ (ks ≡ [])
none [] = (λ e. refl, λ e. refl)
none (k ∷ ks) = (λ e. cc, λ e. cc)
