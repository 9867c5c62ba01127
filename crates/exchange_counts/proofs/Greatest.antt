-- The greatest of some numbers.
use Rattle.std.proofs.Common.{◌≡◌, ℕ, ◌+◌, suc, zero, ◌<◌, ◌≤◌, List, [], ◌∷◌, length, get_or, max, nat_le}
use Rattle.std.proofs.Common.{Bool, true, false, if◌then◌else◌, ap, ◌∙◌, sym, ⊎_elim, arith}
use Rattle.std.proofs.lemmas.Bool.Decides.{leb_tells}
use Rattle.std.proofs.lemmas.Bool.{cases_eq}
use Rattle.superstep_machine.specs.Trace.{Exchange, greatest, relation_of}

the_greater : (x y : ℕ) → (if nat_le x y then y else x) ≡ max x y
the_greater x y =
    ⊎_elim
    (λ (h : (nat_le x y ≡ true) × (x ≤ y)).
    let le = h.1 in
    let is : y ≡ max x y = omega (arith, le) in
    ap (λ (b : Bool). if b then y else x) h.0 ∙ is)
    (λ (h : (nat_le x y ≡ false) × (y < x)).
    let lt = h.1 in
    let is : x ≡ max x y = omega (arith, lt) in
    ap (λ (b : Bool). if b then y else x) h.0 ∙ is) (leb_tells x y)

greatest_cons : (x : ℕ) (xs : List ℕ) → greatest (x ∷ xs) ≡ max x (greatest xs)
greatest_cons x xs = the_greater x (greatest xs)

pub at_most_greatest : (xs : List ℕ) (i : ℕ) → i < length xs → get_or xs i 0 ≤ greatest xs
at_most_greatest [] i l = omega (arith, l)
at_most_greatest (x ∷ xs) zero l = (let e = greatest_cons x xs in omega (arith, e))
at_most_greatest (x ∷ xs) (suc i) l =
    let e = greatest_cons x xs in
    let h = at_most_greatest xs i (omega (arith, l)) in
    omega (arith, e, h)

greatest_at_most : (xs : List ℕ) (m : ℕ) → ((i : ℕ) → i < length xs → get_or xs i 0 ≤ m) → greatest xs ≤ m
greatest_at_most [] m h = omega arith
greatest_at_most (x ∷ xs) m h =
    let e = greatest_cons x xs in
    let here : x ≤ m = h 0 (omega arith) in
    let rest = greatest_at_most xs m (λ i l. h (suc i) (omega (arith, l))) in
    omega (arith, e, here, rest)

-- the greatest of those before w, and then of one more
module _ (xs : List ℕ) (w now : ℕ) (most : (i : ℕ) → i < w → get_or xs i 0 ≤ now) (reached : now ≤ greatest xs) where
  pub most_more : (value next : ℕ) → value ≡ get_or xs w 0 → next ≡ max now value → (i : ℕ) → i < w + 1 → get_or xs i 0 ≤ next
  most_more value next is e i l =
      ⊎_elim
      (λ (same : i ≡ w). let h = ap (λ j. get_or xs j 0) same in omega (arith, h, is, e))
      (λ (apart : i ≡ w → ⊥). let h = most i (omega (arith, l, apart)) in omega (arith, h, e)) (cases_eq i w)

  pub reached_more : (value next : ℕ) → value ≡ get_or xs w 0 → next ≡ max now value → w < length xs → next ≤ greatest xs
  reached_more value next is e l = (let h = at_most_greatest xs w l in omega (arith, h, is, e, reached))

  pub is_greatest : length xs ≤ w → now ≡ greatest xs
  is_greatest l =
      let h = greatest_at_most xs now (λ i b. most i (omega (arith, b, l))) in
      omega (arith, h, reached)

pub relation_is : (e : Exchange) (sent received : ℕ) → sent ≡ greatest e.sent → received ≡ greatest e.received →
    max sent received ≡ relation_of e
relation_is e sent received s r = (λ i. max (s i) (r i)) ∙ sym (the_greater (greatest e.sent) (greatest e.received))
