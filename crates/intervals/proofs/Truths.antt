-- When comparisons and connectives hold on members of intervals.
use Rattle.std.proofs.Common.{◌≡◌, ℤ, Bool, true, false, not, ◌&&◌, ◌||◌, ◌↔◌, ◌⊎◌, inl, inr, IsTrue, Some, None, arith, refl, sym, ap, ◌∙◌}
use Rattle.std.proofs.lemmas.Int.{ints}
use Rattle.pram_values.specs.Truth.{is_nonzero, is_equal}
use Rattle.intervals.specs.declared.interval.Interval.{Interval}
use Rattle.intervals.specs.Intervals.{IsMeet}
use Rattle.intervals.specs.Comparisons.{Comes, ComesOnOne}
use Rattle.intervals.proofs.Joins.{least_in}

pub same_equal : (x : ℤ) → is_equal x x ≡ true
same_equal x = grind (arith, ints)

pub equal_same : (x y : ℤ) → is_equal x y ≡ true → x ≡ y
equal_same x y h = grind (arith, ints)

pub met : (a b i : Interval) → IsMeet a b (Some i) → Comes (λ x y. is_equal x y) a b true
met a b i m = let w = (m i.least).0 (least_in i) in record { left = i.least; right = i.least; left_in = w.0; right_in = w.1; is = same_equal i.least }

pub unmet : (a b : Interval) → IsMeet a b None → Comes (λ x y. is_equal x y) a b true → ⊥
unmet a b m c = m c.left c.left_in (rw (sym (equal_same c.left c.right c.is)) at c.right_in)

pub turned : (t : ℤ → ℤ → Bool) (a b : Interval) (v h : Bool) → IsTrue h ↔ Comes t b a v → IsTrue h ↔ Comes (λ x y. t y x) a b v
turned t a b v h p = (
  λ k. let c = p.0 k in record { left = c.right; right = c.left; left_in = c.right_in; right_in = c.left_in; is = c.is },
  λ c. p.1 (record { left = c.right; right = c.left; left_in = c.right_in; right_in = c.left_in; is = c.is }),
)

not_false : (v : Bool) → not v ≡ true → v ≡ false
not_false true h = absurd (cc)
not_false false h = refl

pub opposed : (t u : ℤ → ℤ → Bool) (a b : Interval) (e : Bool) → ((x y : ℤ) → u x y ≡ not (t x y)) → IsTrue e ↔ Comes u a b true → IsTrue e ↔ Comes t a b false
opposed t u a b e o p = (
  λ k. let c = p.0 k in
      record { left = c.left; right = c.right; left_in = c.left_in; right_in = c.right_in; is = not_false (t c.left c.right) (sym (o c.left c.right) ∙ c.is) },
  λ c. p.1 (record { left = c.left; right = c.right; left_in = c.left_in; right_in = c.right_in; is = o c.left c.right ∙ ap not c.is }),
)

-- ---- connectives

and_true : (p q : Bool) → (p && q) ≡ true → (p ≡ true) × (q ≡ true)
and_true true q h = (refl, h)
and_true false q h = absurd (cc)

true_and : (p q : Bool) → p ≡ true → q ≡ true → (p && q) ≡ true
true_and p q h k = rw (h, k)

and_false : (p q : Bool) → (p && q) ≡ false → (p ≡ false) ⊎ (q ≡ false)
and_false true q h = inr h
and_false false q h = inl refl

or_true : (p q : Bool) → (p || q) ≡ true → (p ≡ true) ⊎ (q ≡ true)
or_true true q h = inl refl
or_true false q h = inr h

or_false : (p q : Bool) → (p || q) ≡ false → (p ≡ false) × (q ≡ false)
or_false true q h = absurd (cc)
or_false false q h = (refl, h)

false_or : (p q : Bool) → p ≡ false → q ≡ false → (p || q) ≡ false
false_or p q h k = rw (h, k)

left_true_or : (p q : Bool) → p ≡ true → (p || q) ≡ true
left_true_or p q h = rw h

right_true_or : (p q : Bool) → q ≡ true → (p || q) ≡ true
right_true_or true q h = refl
right_true_or false q h = h

left_false_and : (p q : Bool) → p ≡ false → (p && q) ≡ false
left_false_and p q h = rw h

right_false_and : (p q : Bool) → q ≡ false → (p && q) ≡ false
right_false_and true q h = h
right_false_and false q h = refl

module _ (a b : Interval) (h k : Bool) where
  -- both ask for a value of each
  pub and_holds : IsTrue h ↔ ComesOnOne is_nonzero a true → IsTrue k ↔ ComesOnOne is_nonzero b true
      → IsTrue (h && k) ↔ Comes (λ x y. is_nonzero x && is_nonzero y) a b true
  and_holds p q = (
    λ t. let w = and_true h k t in let c = p.0 w.0 in let d = q.0 w.1 in
        record { left = c.member; right = d.member; left_in = c.is_in; right_in = d.is_in; is = true_and _ _ c.is d.is },
    λ c. let w = and_true (is_nonzero c.left) (is_nonzero c.right) c.is in
        true_and h k (p.1 (record { member = c.left; is_in = c.left_in; is = w.0 })) (q.1 (record { member = c.right; is_in = c.right_in; is = w.1 })),
  )

  pub or_fails : IsTrue h ↔ ComesOnOne is_nonzero a false → IsTrue k ↔ ComesOnOne is_nonzero b false
      → IsTrue (h && k) ↔ Comes (λ x y. is_nonzero x || is_nonzero y) a b false
  or_fails p q = (
    λ t. let w = and_true h k t in let c = p.0 w.0 in let d = q.0 w.1 in
        record { left = c.member; right = d.member; left_in = c.is_in; right_in = d.is_in; is = false_or _ _ c.is d.is },
    λ c. let w = or_false (is_nonzero c.left) (is_nonzero c.right) c.is in
        true_and h k (p.1 (record { member = c.left; is_in = c.left_in; is = w.0 })) (q.1 (record { member = c.right; is_in = c.right_in; is = w.1 })),
  )

  -- one asks for a value of one of them
  pub and_fails : IsTrue h ↔ ComesOnOne is_nonzero a false → IsTrue k ↔ ComesOnOne is_nonzero b false
      → IsTrue (h || k) ↔ Comes (λ x y. is_nonzero x && is_nonzero y) a b false
  and_fails p q = (
    λ t. elim (or_true h k t) [
      | inl l ↦ let c = p.0 l in record { left = c.member; right = b.least; left_in = c.is_in; right_in = least_in b; is = left_false_and _ _ c.is }
      | inr r ↦ let c = q.0 r in record { left = a.least; right = c.member; left_in = least_in a; right_in = c.is_in; is = right_false_and _ _ c.is }
    ],
    λ c. elim (and_false (is_nonzero c.left) (is_nonzero c.right) c.is) [
      | inl l ↦ left_true_or h k (p.1 (record { member = c.left; is_in = c.left_in; is = l }))
      | inr r ↦ right_true_or h k (q.1 (record { member = c.right; is_in = c.right_in; is = r }))
    ],
  )

  pub or_holds : IsTrue h ↔ ComesOnOne is_nonzero a true → IsTrue k ↔ ComesOnOne is_nonzero b true
      → IsTrue (h || k) ↔ Comes (λ x y. is_nonzero x || is_nonzero y) a b true
  or_holds p q = (
    λ t. elim (or_true h k t) [
      | inl l ↦ let c = p.0 l in record { left = c.member; right = b.least; left_in = c.is_in; right_in = least_in b; is = left_true_or _ _ c.is }
      | inr r ↦ let c = q.0 r in record { left = a.least; right = c.member; left_in = least_in a; right_in = c.is_in; is = right_true_or _ _ c.is }
    ],
    λ c. elim (or_true (is_nonzero c.left) (is_nonzero c.right) c.is) [
      | inl l ↦ left_true_or h k (p.1 (record { member = c.left; is_in = c.left_in; is = l }))
      | inr r ↦ right_true_or h k (q.1 (record { member = c.right; is_in = c.right_in; is = r }))
    ],
  )

not_true : (v : Bool) → not v ≡ false → v ≡ true
not_true true h = refl
not_true false h = absurd (cc)

pub not_holds : (a : Interval) (h : Bool) → IsTrue h ↔ ComesOnOne is_nonzero a false → IsTrue h ↔ Comes (λ x y. not (is_nonzero x)) a a true
not_holds a h p = (
  λ t. let c = p.0 t in record { left = c.member; right = a.least; left_in = c.is_in; right_in = least_in a; is = ap not c.is },
  λ c. p.1 (record { member = c.left; is_in = c.left_in; is = not_false (is_nonzero c.left) c.is }),
)

pub not_fails : (a : Interval) (h : Bool) → IsTrue h ↔ ComesOnOne is_nonzero a true → IsTrue h ↔ Comes (λ x y. not (is_nonzero x)) a a false
not_fails a h p = (
  λ t. let c = p.0 t in record { left = c.member; right = a.least; left_in = c.is_in; right_in = least_in a; is = ap not c.is },
  λ c. p.1 (record { member = c.left; is_in = c.left_in; is = not_true (is_nonzero c.left) c.is }),
)

pub differ_unequal : (a b : Interval) (h : Bool) → IsTrue h ↔ Comes (λ x y. is_equal x y) a b false → IsTrue h ↔ Comes (λ x y. not (is_equal x y)) a b true
differ_unequal a b h p = (
  λ t. let c = p.0 t in record { left = c.left; right = c.right; left_in = c.left_in; right_in = c.right_in; is = ap not c.is },
  λ c. p.1 (record { left = c.left; right = c.right; left_in = c.left_in; right_in = c.right_in; is = not_false (is_equal c.left c.right) c.is }),
)
