-- The nearest of the names that pass a test: none of them is nearer, and where there is none, none is near.
use Rattle.std.proofs.Common.{◌≡◌, ◌∷◌, ◌≤◌, [], true, false, Bool, List, ℕ, Option, Some, None, arith, cond, refl, sym}
use Rattle.std.proofs.lemmas.Bool.{ltb-false, ltb-true}
use Rattle.std.specs.Prelude.{◌&&◌, filter, nat_lt}
use Rattle.std.specs.List.{AllByRecursion, fold}
use Rattle.help.specs.InScope.{Known}
use Rattle.help.specs.Nearness.{edits, is_near, nearer}

abbrev pub steps : List ℕ → Known → ℕ
steps word k = edits word k.name

-- if it passes and is near, it is at least so far
abbrev pub IsAsFar : List ℕ → (Known → Bool) → ℕ → Known → Type 0
IsAsFar word test m k = test k ≡ true → is_near word k ≡ true → m ≤ steps word k

-- it doesn't pass, or isn't near
abbrev pub IsFar : List ℕ → (Known → Bool) → Known → Type 0
IsFar word test k = test k ≡ true → is_near word k ≡ false

-- no farther than the name so far, if there is one
abbrev pub IsAtMost : (Known → ℕ) → ℕ → Option Known → Type 0
IsAtMost far m None = Unit {0}
IsAtMost far m (Some k) = m ≤ far k

-- ---- one name more

by_near : (far : Known → ℕ) (m : ℕ) (x : Known) (near : Bool) → IsAtMost far m (cond near (Some x) None) → near ≡ true → m ≤ far x
by_near far m x true h is = h
by_near far m x false h is = absurd (cc is)

by_nearer : (far : Known → ℕ) (m : ℕ) (x best : Known) (near closer : Bool) → closer ≡ nat_lt (far x) (far best) →
    IsAtMost far m (cond (near && closer) (Some x) (Some best)) → (m ≤ far best) × (near ≡ true → m ≤ far x)
by_nearer far m x best true true is h = let below = ltb-true (far x) (far best) (sym is) in (omega (arith, h, below), λ e. h)
by_nearer far m x best true false is h = let above = ltb-false (far x) (far best) (sym is) in (h, λ e. omega (arith, h, above))
by_nearer far m x best false closer is h = (h, λ e. absurd (cc e))

one_more : (word : List ℕ) (acc : Option Known) (x : Known) (m : ℕ) → IsAtMost (steps word) m (nearer word acc x) →
    IsAtMost (steps word) m acc × (is_near word x ≡ true → m ≤ steps word x)
one_more word None x m h = (tt, by_near (steps word) m x (is_near word x) h)
one_more word (Some best) x m h =
    by_nearer (steps word) m x best (is_near word x) (nat_lt (steps word x) (steps word best)) refl h

none_if : (c : Bool) (x : Known) → cond c (Some x) None ≡ None → c ≡ false
none_if true x e = absurd (cc e)
none_if false x e = refl

some_if : (c : Bool) (x best : Known) → cond c (Some x) (Some best) ≡ None → ⊥
some_if true x best e = cc e
some_if false x best e = cc e

still_none : (word : List ℕ) (acc : Option Known) (x : Known) → nearer word acc x ≡ None → (acc ≡ None) × (is_near word x ≡ false)
still_none word None x e = (refl, none_if (is_near word x) x e)
still_none word (Some best) x e =
    absurd (some_if (is_near word x && nat_lt (steps word x) (steps word best)) x best e)

-- ---- all names

module _ (word : List ℕ) (test : Known → Bool) where
  far_by : (x : Known) (names : List Known) (k : Known) (acc : Option Known)
      → ((a : Option Known) → fold (nearer word) a (filter test names) ≡ Some k →
      IsAtMost (steps word) (steps word k) a × AllByRecursion (IsAsFar word test (steps word k)) names)
      → (b : Bool) → test x ≡ b → fold (nearer word) acc (cond b (x ∷ filter test names) (filter test names)) ≡ Some k
      → IsAtMost (steps word) (steps word k) acc × AllByRecursion (IsAsFar word test (steps word k)) (x ∷ names)
  far_by x names k acc rest true is e =
      let later = rest (nearer word acc x) e in
      let now = one_more word acc x (steps word k) later.0 in
      (now.0, (λ passes near. now.1 near, later.1))
  far_by x names k acc rest false is e =
      let later = rest acc e in (later.0, (λ passes near. absurd (cc (passes, is)), later.1))

  pub all_as_far : (names : List Known) (k : Known) (acc : Option Known) → fold (nearer word) acc (filter test names) ≡ Some k →
      IsAtMost (steps word) (steps word k) acc × AllByRecursion (IsAsFar word test (steps word k)) names
  all_as_far [] k None e = (tt, tt)
  all_as_far [] k (Some a) e = let same : a ≡ k = cc e in (rw same (omega (arith)), tt)
  all_as_far (x ∷ names) k acc e = far_by x names k acc (λ a. all_as_far names k a) (test x) refl e

  none_by : (x : Known) (names : List Known) (acc : Option Known)
      → ((a : Option Known) → fold (nearer word) a (filter test names) ≡ None → (a ≡ None) × AllByRecursion (IsFar word test) names)
      → (b : Bool) → test x ≡ b → fold (nearer word) acc (cond b (x ∷ filter test names) (filter test names)) ≡ None
      → (acc ≡ None) × AllByRecursion (IsFar word test) (x ∷ names)
  none_by x names acc rest true is e =
      let later = rest (nearer word acc x) e in
      let now = still_none word acc x later.0 in (now.0, (λ passes. now.1, later.1))
  none_by x names acc rest false is e =
      let later = rest acc e in (later.0, (λ passes. absurd (cc (passes, is)), later.1))

  pub all_far : (names : List Known) (acc : Option Known) → fold (nearer word) acc (filter test names) ≡ None →
      (acc ≡ None) × AllByRecursion (IsFar word test) names
  all_far [] acc e = (e, tt)
  all_far (x ∷ names) acc e = none_by x names acc (λ a. all_far names a) (test x) refl e
