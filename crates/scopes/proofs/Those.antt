-- The inputs of a scope among all lists of so many values of its interval.
use Rattle.std.proofs.Common.{◌≡◌, ◌≢◌, ◌↔◌, ◌&&◌, ◌||◌, ℕ, zero, suc, ◌<◌, ◌^◌, Bool, true, false, not, cond, if◌then◌else◌, List, []}
use Rattle.std.proofs.Common.{◌∷◌, ℤ, pos, ◌+ℤ◌, length, get_or, refl, ap, sym, subst, ◌∙◌, arith}
use Rattle.std.proofs.lemmas.List.Elements.{All-contains, All-contains_itself, All-filter, filter_passes}
use Rattle.std.proofs.lemmas.List.Kept.{AllPairs-filter}
use Rattle.std.specs.List.{AllPairs, Contains, filter, list_any}
use Rattle.pram_model.proofs.Truths.{or_second}
use Rattle.scopes.specs.Lists.{AreWithin, IsBefore, are_apart, lists_of, same_value, values}
use Rattle.scopes.specs.Scopes.{inputs_of}
use Rattle.scopes.specs.declared.scope.Scope.{Scope}
use Rattle.scopes.proofs.Clashes.{is_same, same_is}
use Rattle.scopes.proofs.Listed.{ascending, counted, listed, not_itself}

-- ---- no value stands twice
pub any_at : (p : ℤ → Bool) (xs : List ℤ) (j : ℕ) (d : ℤ) → j < length xs → p (get_or xs j d) ≡ true → list_any p xs ≡ true
any_at p [] j d lt h = absurd (omega arith)
any_at p (x ∷ xs) zero d lt h = ap (λ (b : Bool). b || list_any p xs) h
any_at p (x ∷ xs) (suc j) d lt h = ap (λ (b : Bool). p x || b) (any_at p xs j d (omega arith) h) ∙ or_second (p x) true refl

pub both_left : (a b : Bool) → not a && b ≡ true → a ≡ false
both_left true b h = sym h
both_left false b h = refl

pub both_right : (a b : Bool) → not a && b ≡ true → b ≡ true
both_right true b h = absurd (let P : false ≡ true → ⊥ = λ k. cc in P h)
both_right false b h = h

pub no_pair : (xs : List ℤ) → are_apart xs ≡ true → (i j : ℕ) (d : ℤ) → i < j → j < length xs → get_or xs i d ≡ get_or xs j d → ⊥
no_pair [] h i j d lt le e = omega arith
no_pair (x ∷ xs) h i zero d lt le e = omega arith
no_pair (x ∷ xs) h zero (suc j) d lt le e =
    let p : ℤ → Bool = λ v. same_value v x in
    let there : list_any p xs ≡ true = any_at p xs j d (omega arith) (is_same (get_or xs j d) x (sym e)) in
    let none : list_any p xs ≡ false = both_left (list_any p xs) (are_apart xs) h in cc
no_pair (x ∷ xs) h (suc i) (suc j) d lt le e = no_pair xs (both_right (list_any (λ (v : ℤ). same_value v x) xs) (are_apart xs) h) i j d
    (omega arith) (omega arith) e

not_same : (x y : ℤ) (b : Bool) → same_value x y ≡ b → (x ≡ y → ⊥) → same_value x y ≡ false
not_same x y true e h = absurd (h (same_is x y e))
not_same x y false e h = e

none_any : (p : ℤ → Bool) (xs : List ℤ) → ((k : ℕ) (d : ℤ) → k < length xs → p (get_or xs k d) ≡ false) → list_any p xs ≡ false
none_any p [] h = refl
none_any p (x ∷ xs) h =
    ap (λ (b : Bool). b || list_any p xs) (h 0 x (omega arith)) ∙ none_any p xs (λ k d lt. h (suc k) d (omega arith))

pub pairs_apart : (xs : List ℤ) → ((i j : ℕ) (d : ℤ) → i < j → j < length xs → get_or xs i d ≡ get_or xs j d → ⊥) → are_apart xs ≡ true
pairs_apart [] h = refl
pairs_apart (x ∷ xs) h =
    let p : ℤ → Bool = λ v. same_value v x in
    let none : list_any p xs ≡ false =
    none_any p xs (λ k d lt. not_same (get_or xs k d) x (same_value (get_or xs k d) x) refl
    (λ e. h 0 (suc k) d (omega arith) (omega arith) (sym e))) in
    ap (λ (b : Bool). not b && are_apart xs) none ∙ pairs_apart xs (λ i j d lt le. h (suc i) (suc j) d (omega arith) (omega arith))

-- ---- those that pass a test

there_step : (p : List ℤ → Bool) (ys : List ℤ) (xss : List (List ℤ)) (xs : List ℤ) (b : Bool) → Contains (filter p xss) xs →
    Contains (cond b (ys ∷ filter p xss) (filter p xss)) xs
there_step p ys xss xs true (k, lt, e) = (suc k, omega arith, e)
there_step p ys xss xs false h = h

there_kept : (p : List ℤ → Bool) (xss : List (List ℤ)) (xs : List ℤ) → Contains xss xs → p xs ≡ true → Contains (filter p xss) xs
there_kept p [] xs (k, lt, e) h = absurd (omega arith)
there_kept p (ys ∷ xss) xs (zero, lt, e) h =
    subst (λ (b : Bool). Contains (cond b (ys ∷ filter p xss) (filter p xss)) xs) (sym (ap p e ∙ h)) (0, omega arith, e)
there_kept p (ys ∷ xss) xs (suc k, lt, e) h = there_step p ys xss xs (p ys) (there_kept p xss xs (k, omega arith, e) h)

pub kept_there : (p : List ℤ → Bool) (xss : List (List ℤ)) (xs : List ℤ) → Contains (filter p xss) xs → Contains xss xs × (p xs ≡ true)
kept_there p xss xs h = (
  All-contains (Contains xss) (filter p xss) xs (All-filter p (Contains xss) xss (All-contains_itself xss)) h,
  All-contains (λ (ys : List ℤ). p ys ≡ true) (filter p xss) xs (filter_passes p xss) h,
)

-- ---- of a scope

just : (apart : Bool) (low high : ℤ) (k : ℕ) (xs : List ℤ) →
    Contains (if apart then filter are_apart (lists_of (values low high) k) else lists_of (values low high) k) xs
    ↔ (length xs ≡ k) × AreWithin low high xs × (apart ≡ true → AllPairs (λ (x y : ℤ). x ≢ y) xs)
just true low high k xs =
    let all = lists_of (values low high) k in
    let is = listed low high k xs in (
      λ h. let t = kept_there are_apart all xs h in let u = is.0 t.0 in (u.0, u.1, λ e. no_pair xs t.1),
      λ h. there_kept are_apart all xs (is.1 (h.0, h.1)) (pairs_apart xs (h.2 refl)),
    )
just false low high k xs =
    let is = listed low high k xs in (
      λ h. let u = is.0 h in (u.0, u.1, λ e. absurd (let P : false ≡ true → ⊥ = λ k. cc in P e)),
      λ h. is.1 (h.0, h.1),
    )

pub just_those : (s : Scope) (xs : List ℤ) →
    Contains (inputs_of s) xs ↔ (length xs ≡ s.count) × AreWithin s.low s.high xs × (s.apart ≡ true → AllPairs (λ (x y : ℤ). x ≢ y) xs)
just_those s xs = just s.apart s.low s.high s.count xs

pub ascending_inputs : (s : Scope) → AllPairs IsBefore (inputs_of s)
ascending_inputs s =
    let all = lists_of (values s.low s.high) s.count in
    let order = ascending s.low s.high s.count in
    elim s.apart as (λ (b : Bool). AllPairs IsBefore (if b then filter are_apart all else all)) [
      | true ↦ AllPairs-filter IsBefore are_apart all order
      | false ↦ order
    ]

pub each_once : (s : Scope) → AllPairs (λ (xs ys : List ℤ). xs ≢ ys) (inputs_of s)
each_once s = λ i j d lt le same.
    let xss = inputs_of s in
    not_itself (get_or xss j d) (subst (λ (zs : List ℤ). IsBefore zs (get_or xss j d)) same (ascending_inputs s i j d lt le))

pub counted_inputs : (s : Scope) (n : ℕ) → s.apart ≡ false → s.high +ℤ pos 1 ≡ s.low +ℤ pos n → length (inputs_of s) ≡ n ^ s.count
counted_inputs s n not_apart wide =
    let all = lists_of (values s.low s.high) s.count in
    ap (λ (b : Bool). length (if b then filter are_apart all else all)) not_apart ∙ counted s.low s.high n s.count wide
