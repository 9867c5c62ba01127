-- Elements of lists.
use Rattle.std.proofs.Common.{◌≡◌, ◌⊎◌, inl, inr, ℕ, zero, suc, List, [], ◌∷◌, refl, sym, subst, ap, ◌∙◌}
use Rattle.std.proofs.Common.{Bool, true, false, ◌||◌, Some, arith, tests}
use Rattle.std.specs.Prelude.{slice_get}
use Rattle.std.specs.List.{Contains, All, flat_map, list_any}
use Rattle.std.proofs.lemmas.List.Elements.{Contains-append_cases, Contains-append_left, Contains-append_right, All-head, All-tail}

pub first : {A : Type 0} (x : A) (xs : List A) → Contains (x ∷ xs) x
first x xs = (0, omega arith, refl)

pub deeper : {A : Type 0} (x : A) (xs : List A) (y : A) → Contains xs y → Contains (x ∷ xs) y
deeper x xs y c = Contains-append_right (x ∷ []) xs y c

pub first_or_rest : {A : Type 0} (x : A) (xs : List A) (y : A) → Contains (x ∷ xs) y → (y ≡ x) ⊎ Contains xs y
first_or_rest x xs y (zero, below, e) = inl (sym e)
first_or_rest x xs y (suc k, below, e) = inr (k, omega (arith, below), e)

pub none_there : {A : Type 0} (y : A) → Contains [] y → ⊥
none_there y (k, below, e) = absurd (omega (arith, below))

pub not_empty : {A : Type 0} (xs : List A) (x : A) → Contains xs x → xs ≡ [] → ⊥
not_empty [] x c none = none_there x c
not_empty (y ∷ xs) x c none = cc none

pub all_at : {A : Type 0} (P : A → Type 0) (xs : List A) (k : ℕ) (x : A) → All P xs → slice_get xs k ≡ Some x → P x
all_at P [] k x all is = absurd (cc is)
all_at P (y ∷ xs) zero x all is =
    let same : y ≡ x = cc is in subst P same (All-head P y xs all)
all_at P (y ∷ xs) (suc k) x all is = all_at P xs k x (All-tail P y xs all) is

-- ---- lists that are made of lists

pub record ComesFrom {A B : Type 0} (f : A → List B) (xs : List A) (y : B) : Type 0 where
  pub one : A
  pub among : Contains xs one
  pub gives : Contains (f one) y

pub comes_from : {A B : Type 0} (f : A → List B) (xs : List A) (y : B) → Contains (flat_map f xs) y → ComesFrom f xs y
comes_from f [] y c = absurd (none_there y c)
comes_from f (x ∷ xs) y c = elim (Contains-append_cases (f x) (flat_map f xs) y c) [
  | inl here ↦ record { one = x; among = first x xs; gives = here }
  | inr there ↦ let r = comes_from f xs y there in record { one = r.one; among = deeper x xs r.one r.among; gives = r.gives }
]

pub among_all : {A B : Type 0} (f : A → List B) (xs : List A) (x : A) (y : B) → Contains xs x → Contains (f x) y →
    Contains (flat_map f xs) y
among_all f [] x y c there = absurd (none_there x c)
among_all f (z ∷ xs) x y c there = elim (first_or_rest z xs x c) [
  | inl e ↦ Contains-append_left (f z) (flat_map f xs) y (subst (λ z. Contains (f z) y) e there)
  | inr rest ↦ Contains-append_right (f z) (flat_map f xs) y (among_all f xs x y rest there)
]

-- ---- tests

pub record IsAnswered {A : Type 0} (test : A → Bool) (xs : List A) : Type 0 where
  pub one : A
  pub among : Contains xs one
  pub yes : test one ≡ true

pub any_one : {A : Type 0} (test : A → Bool) (xs : List A) → list_any test xs ≡ true → IsAnswered test xs
any_one test [] e = absurd (cc e)
any_one test (x ∷ xs) e = by (test x) refl (any_one test xs)
  where
    by : (b : Bool) → test x ≡ b → (list_any test xs ≡ true → IsAnswered test xs) → IsAnswered test (x ∷ xs)
    by true t rest = record { one = x; among = first x xs; yes = t }
    by false t rest =
        let r = rest (sym (ap (λ b. b || list_any test xs) t) ∙ e) in
        record { one = r.one; among = deeper x xs r.one r.among; yes = r.yes }

pub any_of : {A : Type 0} (test : A → Bool) (xs : List A) (x : A) → Contains xs x → test x ≡ true → list_any test xs ≡ true
any_of test [] x c h = absurd (none_there x c)
any_of test (z ∷ xs) x c h = elim (first_or_rest z xs x c) [
  | inl e ↦ (let t : test z ≡ true = ap test (sym e) ∙ h in grind (arith, tests, t))
  | inr rest ↦ (let t = any_of test xs x rest h in grind (arith, tests, t))
]
