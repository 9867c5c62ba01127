-- What is found of wider operands.
use Rattle.std.proofs.Common.{◌≡◌, ℤ, pos, negsuc, Bool, true, false, IsNone, ◌⊎◌, inl, inr, Option, Some, None, Ok, Err, ◌≤ℤ◌, ◌*ℤ◌, ◌+ℤ◌, ◌-ℤ◌, arith, refl, sym, ◌∙◌}
use Rattle.std.specs.Prelude.{IsSomeAnd, IfSome}
use Rattle.std.specs.Int.{int_min, int_max}
use Rattle.std.specs.Int.Signed.{≤ℤ_refl}
use Rattle.std.proofs.lemmas.Int.{ints, clamps, by_lt_z}
use Rattle.pram_tokens.specs.declared.token.Binary.{Binary}
use Rattle.pram_tokens.specs.declared.token.Binary.TheVariants.{Or, And, Equal, Unequal, Less, AtMost, Greater, AtLeast, Add, Subtract, Multiply, Divide, Remainder}
use Rattle.pram_values.specs.declared.kind.Kind.TheVariants.{Overflow, DivideByZero}
use Rattle.pram_values.specs.Value.{Value}
use Rattle.pram_values.specs.Truth.{is_nonzero, is_equal}
use Rattle.pram_values.specs.Division.{floor_quotient, remainder_of}
use Rattle.pram_meaning.specs.Operation.{operate}
use Rattle.intervals.specs.declared.interval.Interval.{Interval}
use Rattle.intervals.specs.declared.found.Found.{Found}
use Rattle.intervals.specs.Intervals.{IsIn, IsWithin}
use Rattle.intervals.specs.Cuts.{IsCut}
use Rattle.intervals.specs.Hulls.{IsCutHull}
use Rattle.intervals.specs.Remainders.{HasOneQuotient, IsHighest, IsRemainderRange, IsZeroAlone, AreRemainders}
use Rattle.intervals.specs.Reaching.{IsFoundFor, IsFoundWithin}
use Rattle.intervals.specs.Results.{Gives, Tells, AreEndsGiven}
use Rattle.intervals.proofs.Hulls.{fits_from}
use Rattle.intervals.proofs.Floors.{floor_row, nonzero_is}
use Rattle.intervals.proofs.Joins.{least_in, greatest_in}
use Rattle.intervals.proofs.Rests.{same_between, one_member}
use Rattle.intervals.proofs.Truths.{equal_same, same_equal}

-- the value of one is within that of the other
abbrev IsValueWithin : Option Interval → Option Interval → Type 0
IsValueWithin o q = IfSome o (λ i. IsSomeAnd q (λ j. IsWithin i j))

-- what holds both ends holds all
both_in : (i : Interval) (q : Option Interval) → IsSomeAnd q (λ j. IsIn i.least j) → IsSomeAnd q (λ j. IsIn i.greatest j) → IsSomeAnd q (λ j. IsWithin i j)
both_in i None h k = absurd h
both_in i (Some j) h k = λ x m.
    let s : j.least ≤ℤ i.least = h.least in
    let t : i.greatest ≤ℤ j.greatest = k.greatest in
    record { least = omega (arith, ints); greatest = omega (arith, ints) }

within_ends : (a c : Interval) → IsWithin a c → (c.least ≤ℤ a.least) × (a.greatest ≤ℤ c.greatest)
within_ends a c w = ((w a.least (least_in a)).least, (w a.greatest (greatest_in a)).greatest)

most_below : (x y : ℤ) → int_min x y ≤ℤ x
most_below x y = omega (arith, ints, clamps)

below_most : (a b : Interval) (h : ℤ) → IsHighest a b h → h ≤ℤ int_max (pos 0) (b.greatest -ℤ pos 1)
below_most a b h m =
    by_lt_z a.least (pos 0)
    (λ l. rw (m.free (inl l)) (≤ℤ_refl _))
    (λ l. by_lt_z (pos 0) b.least
    (λ o. rw (m.capped l o) (most_below _ _))
    (λ o. rw (m.free (inr o)) (≤ℤ_refl _)))

both_least : (x y z u : ℤ) → x ≤ℤ y → z ≤ℤ u → int_min x z ≤ℤ int_min y u
both_least x y z u h k = omega (arith, ints, clamps)

lower_more : (x y : ℤ) → x ≤ℤ y → int_min (pos 0) (x +ℤ pos 1) ≤ℤ int_min (pos 0) (y +ℤ pos 1)
lower_more x y h = omega (arith, ints, clamps)

through : (x y z : ℤ) → x ≤ℤ y → y ≤ℤ z → x ≤ℤ z
through x y z h k = omega (arith, ints)

more : (x y : ℤ) → x ≤ℤ y → int_max (pos 0) (x -ℤ pos 1) ≤ℤ int_max (pos 0) (y -ℤ pos 1)
more x y h = omega (arith, ints, clamps)

caps : (x y z u : ℤ) → x ≤ℤ y → z ≤ℤ u → int_min (int_max (pos 0) (x -ℤ pos 1)) z ≤ℤ int_min (int_max (pos 0) (y -ℤ pos 1)) u
caps x y z u h k = both_least _ _ _ _ (more x y h) k

-- ---- whether there is one quotient

one_by : (a b : Interval) (x y z : Bool) → is_equal b.least b.greatest ≡ x → is_equal b.least (pos 0) ≡ y
    → is_equal (floor_quotient a.least b.least) (floor_quotient a.greatest b.least) ≡ z → HasOneQuotient a b ⊎ (HasOneQuotient a b → ⊥)
one_by a b true true z e f g = inr (λ q. q.nonzero (equal_same b.least (pos 0) f))
one_by a b true false true e f g = inl (record {
  point = equal_same b.least b.greatest e;
  nonzero = λ n. let h : is_equal b.least (pos 0) ≡ true = rw n (same_equal (pos 0)) in absurd (cc);
  same = equal_same _ _ g;
})
one_by a b true false false e f g = inr (λ q.
    let h : is_equal (floor_quotient a.least b.least) (floor_quotient a.greatest b.least) ≡ true = rw q.same (same_equal (floor_quotient a.greatest b.least)) in absurd (cc))
one_by a b false y z e f g = inr (λ q. let h : is_equal b.least b.greatest ≡ true = rw q.point (same_equal b.greatest) in absurd (cc))

one_quotient_or_not : (a b : Interval) → HasOneQuotient a b ⊎ (HasOneQuotient a b → ⊥)
one_quotient_or_not a b = one_by a b _ _ _ refl refl refl

module _ (a b c d : Interval) (v : IsWithin a c) (w : IsWithin b d) where
  gives_wider : (f : ℤ → ℤ → Value) (z : Value) → Gives f a b z → Gives f c d z
  gives_wider f z g = record { left = g.left; right = g.right; left_in = v g.left g.left_in; right_in = w g.right g.right_in; gives = g.gives }

  ends_wider : (f : ℤ → ℤ → Value) (o q : Option Interval) → IfSome o (λ i. Gives f a b (Ok i.least) × Gives f a b (Ok i.greatest))
      → ((x y z : ℤ) → IsIn x c → IsIn y d → f x y ≡ Ok z → IsSomeAnd q (λ i. IsIn z i)) → IsValueWithin o q
  ends_wider f None q e s = tt
  ends_wider f (Some i) q e s =
      let g = gives_wider f (Ok i.least) e.0 in
      let h = gives_wider f (Ok i.greatest) e.1 in
      both_in i q (s g.left g.right i.least g.left_in g.right_in g.gives) (s h.left h.right i.greatest h.left_in h.right_in h.gives)

  -- ---- products and quotients

  cuts_wider : (lo hi lo' hi' : ℤ) (o q : Option Interval) (u t : Bool) → lo' ≤ℤ lo → hi ≤ℤ hi' → IsCut lo hi o u → IsCut lo' hi' q t → IsValueWithin o q
  cuts_wider lo hi lo' hi' None q u t l h m n = tt
  cuts_wider lo hi lo' hi' (Some i) q u t l h m n =
      let r : i.least ≤ℤ i.greatest = i.ordered in
      let p : lo ≤ℤ i.least = omega (arith, ints, clamps, m.least) in
      let k : negsuc 9223372036854775807 ≤ℤ i.least = omega (arith, ints, clamps, m.least) in
      let x : i.greatest ≤ℤ hi = omega (arith, ints, clamps, m.greatest) in
      let y : i.greatest ≤ℤ pos 9223372036854775807 = omega (arith, ints, clamps, m.greatest) in
      both_in i q
      (n.holds i.least (omega (arith, ints)) (omega (arith, ints)) (fits_from i.least k (omega (arith, ints))))
      (n.holds i.greatest (omega (arith, ints)) (omega (arith, ints)) (fits_from i.greatest (omega (arith, ints)) y))

  hulls_wider : (p : ℤ → Bool) (f : ℤ → ℤ → ℤ) (r s : Found) → IsCutHull p f a b r → IsCutHull p f c d s → IsValueWithin r.value s.value
  hulls_wider p f r s h k =
      let l = h.hull.least in
      let g = h.hull.greatest in
      cuts_wider h.lo h.hi k.lo k.hi r.value s.value r.may_overflow s.may_overflow
      (rw l.is at (k.hull.above l.left l.right (v l.left l.left_in) (w l.right l.right_in) l.passes))
      (rw g.is at (k.hull.below g.left g.right (v g.left g.left_in) (w g.right g.right_in) g.passes)) h.cut k.cut

  none_within : (o q : Option Interval) → IsNone o → IsValueWithin o q
  none_within None q e = tt
  none_within (Some i) q e = absurd (cc)

  quotients_wider : (r s : Found) → (IsZeroAlone b × IsNone r.value) ⊎ IsCutHull is_nonzero floor_quotient a b r
      → (IsZeroAlone d × IsNone s.value) ⊎ IsCutHull is_nonzero floor_quotient c d s → IsValueWithin r.value s.value
  quotients_wider r s (inl h) k = none_within r.value s.value h.1
  quotients_wider r s (inr h) (inl k) =
      let l = h.hull.least in absurd (nonzero_is l.right l.passes (k.0 l.right (w l.right l.right_in)))
  quotients_wider r s (inr h) (inr k) = hulls_wider is_nonzero floor_quotient r s h k

  -- ---- remainders

  -- wider operands with one quotient are about narrower ones with one
  one_narrower : HasOneQuotient c d → HasOneQuotient a b
  one_narrower q =
      let low : b.least ≡ d.least = one_member d b.least q.point (w b.least (least_in b)) in
      let high : b.greatest ≡ d.least = one_member d b.greatest q.point (w b.greatest (greatest_in b)) in
      let e = v a.least (least_in a) in
      let f = v a.greatest (greatest_in a) in
      let s : floor_quotient a.least d.least ≡ floor_quotient c.least d.least =
      same_between _ _ _ q.same (floor_row a.least c.least c.greatest d.least q.nonzero e.least e.greatest) in
      let t : floor_quotient a.greatest d.least ≡ floor_quotient c.least d.least =
      same_between _ _ _ q.same (floor_row a.greatest c.least c.greatest d.least q.nonzero f.least f.greatest) in
      record {
        point = low ∙ sym high;
        nonzero = λ n. q.nonzero (sym low ∙ n);
        same = rw low (s ∙ sym t);
      }

  highest_wider : (h k : ℤ) → IsHighest a b h → IsHighest c d k → h ≤ℤ k
  highest_wider h k m n =
      let p = within_ends a c v in
      let q = within_ends b d w in
      let x : a.greatest ≤ℤ c.greatest = p.1 in
      let y : b.greatest ≤ℤ d.greatest = q.1 in
      let s : c.least ≤ℤ a.least = p.0 in
      let t : d.least ≤ℤ b.least = q.0 in
      let most : h ≤ℤ int_max (pos 0) (d.greatest -ℤ pos 1) = through h _ _ (below_most a b h m) (more b.greatest d.greatest y) in
      by_lt_z c.least (pos 0)
      (λ l. rw (n.free (inl l)) most)
      (λ l. by_lt_z (pos 0) d.least
      (λ o. rw (n.capped l o, m.capped (omega (arith, ints)) (omega (arith, ints))) (caps b.greatest d.greatest a.greatest c.greatest y x))
      (λ o. rw (n.free (inr o)) most))

  range_wider : (i j : Interval) → IsRemainderRange a b i → IsRemainderRange c d j → IsWithin i j
  range_wider i j m n x k =
      let t : d.least ≤ℤ b.least = (within_ends b d w).0 in
      let l : j.least ≤ℤ i.least = rw (m.least, n.least) (lower_more d.least b.least t) in
      let h : i.greatest ≤ℤ j.greatest = highest_wider i.greatest j.greatest m.greatest n.greatest in
      record { least = omega (arith, ints); greatest = omega (arith, ints) }

  ranges_wider : (o q : Option Interval) → (IsNone o → IsZeroAlone b) × (IsZeroAlone b → IsNone o) → (IsNone q → IsZeroAlone d) × (IsZeroAlone d → IsNone q)
      → IfSome o (λ i. IsRemainderRange a b i) → IfSome q (λ i. IsRemainderRange c d i) → IsValueWithin o q
  ranges_wider None q h k m n = tt
  ranges_wider (Some i) None h k m n =
      let z : IsZeroAlone b = λ y l. k.0 refl y (w y l) in
      let e : IsNone (Some i) = h.1 z in absurd (cc)
  ranges_wider (Some i) (Some j) h k m n = range_wider i j m n

  remainders_wider : (r s : Found) → (HasOneQuotient a b → AreEndsGiven remainder_of a b r) → AreRemainders a b r.value → Tells remainder_of c d s
      → AreRemainders c d s.value → HasOneQuotient a b ⊎ (HasOneQuotient a b → ⊥) → IsValueWithin r.value s.value
  remainders_wider r s e m t n (inl q) = ends_wider remainder_of r.value s.value (e q) t.sound
  remainders_wider r s e m t n (inr q) =
      ranges_wider r.value s.value m.none n.none (m.range q) (n.range (λ o. q (one_narrower o)))

  -- ---- all operators

  value_wider : (op : Binary) (r s : Found) → IsFoundFor op a b r → IsFoundFor op c d s → IsValueWithin r.value s.value
  value_wider Or r s m n = ends_wider (operate Or) r.value s.value (m.reached tt) n.told.sound
  value_wider And r s m n = ends_wider (operate And) r.value s.value (m.reached tt) n.told.sound
  value_wider Equal r s m n = ends_wider (operate Equal) r.value s.value (m.reached tt) n.told.sound
  value_wider Unequal r s m n = ends_wider (operate Unequal) r.value s.value (m.reached tt) n.told.sound
  value_wider Less r s m n = ends_wider (operate Less) r.value s.value (m.reached tt) n.told.sound
  value_wider AtMost r s m n = ends_wider (operate AtMost) r.value s.value (m.reached tt) n.told.sound
  value_wider Greater r s m n = ends_wider (operate Greater) r.value s.value (m.reached tt) n.told.sound
  value_wider AtLeast r s m n = ends_wider (operate AtLeast) r.value s.value (m.reached tt) n.told.sound
  value_wider Add r s m n = ends_wider (operate Add) r.value s.value (m.reached tt) n.told.sound
  value_wider Subtract r s m n = ends_wider (operate Subtract) r.value s.value (m.reached tt) n.told.sound
  value_wider Multiply r s m n = hulls_wider (λ y. true) ◌*ℤ◌ r s m.bounded n.bounded
  value_wider Divide r s m n = quotients_wider r s m.bounded n.bounded
  value_wider Remainder r s m n = remainders_wider r s m.reached m.bounded n.told n.bounded (one_quotient_or_not a b)

  pub found_wider : (op : Binary) (r s : Found) → IsFoundFor op a b r → IsFoundFor op c d s → IsFoundWithin r s
  found_wider op r s m n = record {
    value = value_wider op r s m n;
    overflow = λ t. n.told.overflow.1 (gives_wider (operate op) (Err Overflow) (m.told.overflow.0 t));
    zero = λ t. n.told.zero.1 (gives_wider (operate op) (Err DivideByZero) (m.told.zero.0 t));
  }
