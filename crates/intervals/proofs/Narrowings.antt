-- What remains of an interval where a comparison holds.
use Rattle.std.proofs.Common.{◌≡◌, ◌≢◌, ℤ, Bool, true, false, not, ◌↔◌, Option, Some, None, MatchOption, ◌≤ℤ◌, ◌<ℤ◌, arith, refl, sym, ap, ◌∙◌}
use Rattle.std.specs.Prelude.{IsSomeAnd, IfSome, int_lt, int_le}
use Rattle.std.proofs.lemmas.Int.{ints}
use Rattle.pram_values.specs.Truth.{is_equal}
use Rattle.intervals.specs.declared.comparison.Comparison.TheVariants.{Equal, Unequal, Less, AtMost, Greater, AtLeast}
use Rattle.intervals.specs.declared.interval.Interval.{Interval}
use Rattle.intervals.specs.Intervals.{IsIn, IsMeet}
use Rattle.intervals.specs.Narrowing.{Remains, IsNarrowed}
use Rattle.intervals.proofs.Ends.{le_is}
use Rattle.intervals.proofs.Joins.{least_in, greatest_in}
use Rattle.intervals.proofs.Rests.{one_member}
use Rattle.intervals.proofs.Truths.{equal_same, same_equal}

-- the members on one side of a bound
abbrev pub AreAtMost : Interval → Option Interval → ℤ → Type 0
AreAtMost a o g = MatchOption o ((x : ℤ) → IsIn x a → g <ℤ x) (λ i. (x : ℤ) → IsIn x i ↔ (IsIn x a × x ≤ℤ g))

abbrev pub AreAtLeast : Interval → Option Interval → ℤ → Type 0
AreAtLeast a o g = MatchOption o ((x : ℤ) → IsIn x a → x <ℤ g) (λ i. (x : ℤ) → IsIn x i ↔ (IsIn x a × g ≤ℤ x))

abbrev pub AreBelow : Interval → Option Interval → ℤ → Type 0
AreBelow a o g = MatchOption o ((x : ℤ) → IsIn x a → g ≤ℤ x) (λ i. (x : ℤ) → IsIn x i ↔ (IsIn x a × x <ℤ g))

abbrev pub AreAbove : Interval → Option Interval → ℤ → Type 0
AreAbove a o g = MatchOption o ((x : ℤ) → IsIn x a → x ≤ℤ g) (λ i. (x : ℤ) → IsIn x i ↔ (IsIn x a × g <ℤ x))

lt_if : (x y : ℤ) → x <ℤ y → int_lt x y ≡ true
lt_if x y h = grind (arith, ints)

lt_is : (x y : ℤ) → int_lt x y ≡ true → x <ℤ y
lt_is x y h = grind (arith, ints)

le_if : (x y : ℤ) → x ≤ℤ y → int_le x y ≡ true
le_if x y h = grind (arith, ints)

differ_by : (x y : ℤ) (v : Bool) → is_equal x y ≡ v → x ≢ y → not v ≡ true
differ_by x y true e n = absurd (n (equal_same x y e))
differ_by x y false e n = refl

differ_if : (x y : ℤ) → x ≢ y → not (is_equal x y) ≡ true
differ_if x y n = differ_by x y (is_equal x y) refl n

differ_is : (x y : ℤ) → not (is_equal x y) ≡ true → x ≢ y
differ_is x y h e = let k : is_equal x x ≡ true = same_equal x in let l : not (is_equal x x) ≡ true = rw (sym e) at h in absurd (cc)

pub narrowed_less : (a b : Interval) (o : Option Interval) → AreBelow a o b.greatest → IsNarrowed Less a b o
narrowed_less a b None m = record {
  kept = λ x r. let k : b.greatest ≤ℤ x = m x r.is_in in let l : x <ℤ r.right = lt_is x r.right r.is in let n : r.right ≤ℤ b.greatest = r.right_in.greatest in absurd (omega (arith, ints));
  reached = tt;
}
narrowed_less a b (Some i) m = record {
  kept = λ x r. let l : x <ℤ r.right = lt_is x r.right r.is in let n : r.right ≤ℤ b.greatest = r.right_in.greatest in (m x).1 (r.is_in, omega (arith, ints));
  reached = (
    let w = (m i.least).0 (least_in i) in record { is_in = w.0; right = b.greatest; right_in = greatest_in b; is = lt_if i.least b.greatest w.1 },
    let w = (m i.greatest).0 (greatest_in i) in record { is_in = w.0; right = b.greatest; right_in = greatest_in b; is = lt_if i.greatest b.greatest w.1 },
  );
}

pub narrowed_at_most : (a b : Interval) (o : Option Interval) → AreAtMost a o b.greatest → IsNarrowed AtMost a b o
narrowed_at_most a b None m = record {
  kept = λ x r. let k : b.greatest <ℤ x = m x r.is_in in let l : x ≤ℤ r.right = le_is x r.right r.is in let n : r.right ≤ℤ b.greatest = r.right_in.greatest in absurd (omega (arith, ints));
  reached = tt;
}
narrowed_at_most a b (Some i) m = record {
  kept = λ x r. let l : x ≤ℤ r.right = le_is x r.right r.is in let n : r.right ≤ℤ b.greatest = r.right_in.greatest in (m x).1 (r.is_in, omega (arith, ints));
  reached = (
    let w = (m i.least).0 (least_in i) in record { is_in = w.0; right = b.greatest; right_in = greatest_in b; is = le_if i.least b.greatest w.1 },
    let w = (m i.greatest).0 (greatest_in i) in record { is_in = w.0; right = b.greatest; right_in = greatest_in b; is = le_if i.greatest b.greatest w.1 },
  );
}

pub narrowed_greater : (a b : Interval) (o : Option Interval) → AreAbove a o b.least → IsNarrowed Greater a b o
narrowed_greater a b None m = record {
  kept = λ x r. let k : x ≤ℤ b.least = m x r.is_in in let l : r.right <ℤ x = lt_is r.right x r.is in let n : b.least ≤ℤ r.right = r.right_in.least in absurd (omega (arith, ints));
  reached = tt;
}
narrowed_greater a b (Some i) m = record {
  kept = λ x r. let l : r.right <ℤ x = lt_is r.right x r.is in let n : b.least ≤ℤ r.right = r.right_in.least in (m x).1 (r.is_in, omega (arith, ints));
  reached = (
    let w = (m i.least).0 (least_in i) in record { is_in = w.0; right = b.least; right_in = least_in b; is = lt_if b.least i.least w.1 },
    let w = (m i.greatest).0 (greatest_in i) in record { is_in = w.0; right = b.least; right_in = least_in b; is = lt_if b.least i.greatest w.1 },
  );
}

pub narrowed_at_least : (a b : Interval) (o : Option Interval) → AreAtLeast a o b.least → IsNarrowed AtLeast a b o
narrowed_at_least a b None m = record {
  kept = λ x r. let k : x <ℤ b.least = m x r.is_in in let l : r.right ≤ℤ x = le_is r.right x r.is in let n : b.least ≤ℤ r.right = r.right_in.least in absurd (omega (arith, ints));
  reached = tt;
}
narrowed_at_least a b (Some i) m = record {
  kept = λ x r. let l : r.right ≤ℤ x = le_is r.right x r.is in let n : b.least ≤ℤ r.right = r.right_in.least in (m x).1 (r.is_in, omega (arith, ints));
  reached = (
    let w = (m i.least).0 (least_in i) in record { is_in = w.0; right = b.least; right_in = least_in b; is = le_if b.least i.least w.1 },
    let w = (m i.greatest).0 (greatest_in i) in record { is_in = w.0; right = b.least; right_in = least_in b; is = le_if b.least i.greatest w.1 },
  );
}

pub narrowed_equal : (a b : Interval) (o : Option Interval) → IsMeet a b o → IsNarrowed Equal a b o
narrowed_equal a b None m = record {
  kept = λ x r. absurd (m x r.is_in (rw (sym (equal_same x r.right r.is)) at r.right_in));
  reached = tt;
}
narrowed_equal a b (Some i) m = record {
  kept = λ x r. (m x).1 (r.is_in, rw (sym (equal_same x r.right r.is)) at r.right_in);
  reached = (
    let w = (m i.least).0 (least_in i) in record { is_in = w.0; right = i.least; right_in = w.1; is = same_equal i.least },
    let w = (m i.greatest).0 (greatest_in i) in record { is_in = w.0; right = i.greatest; right_in = w.1; is = same_equal i.greatest },
  );
}

-- all but one number, if it is at an end
pub record AreOthers (a : Interval) (o : Option Interval) (v : ℤ) : Type 0 where
  pub kept : (x : ℤ) → IsIn x a → x ≢ v → IsSomeAnd o (λ i. IsIn x i)
  pub within : IfSome o (λ i. IsIn i.least a × IsIn i.greatest a)
  pub reached : IfSome o (λ i. (i.least ≢ v) × (i.greatest ≢ v))

pub without_above : (a : Interval) (o : Option Interval) (v : ℤ) → v ≤ℤ a.least → AreAbove a o v → AreOthers a o v
without_above a None v h m = record {
  kept = λ x k n. let l : x ≤ℤ v = m x k in let q : a.least ≤ℤ x = k.least in absurd (n (omega (arith, ints)));
  within = tt;
  reached = tt;
}
without_above a (Some i) v h m =
    let low = (m i.least).0 (least_in i) in
    let high = (m i.greatest).0 (greatest_in i) in
    record {
      kept = λ x k n. let q : a.least ≤ℤ x = k.least in (m x).1 (k, omega (arith, ints));
      within = (low.0, high.0);
      reached = (λ e. let l : v <ℤ i.least = low.1 in omega (arith, ints), λ e. let l : v <ℤ i.greatest = high.1 in omega (arith, ints));
    }

pub without_below : (a : Interval) (o : Option Interval) (v : ℤ) → a.greatest ≤ℤ v → AreBelow a o v → AreOthers a o v
without_below a None v h m = record {
  kept = λ x k n. let l : v ≤ℤ x = m x k in let q : x ≤ℤ a.greatest = k.greatest in absurd (n (omega (arith, ints)));
  within = tt;
  reached = tt;
}
without_below a (Some i) v h m =
    let low = (m i.least).0 (least_in i) in
    let high = (m i.greatest).0 (greatest_in i) in
    record {
      kept = λ x k n. let q : x ≤ℤ a.greatest = k.greatest in (m x).1 (k, omega (arith, ints));
      within = (low.0, high.0);
      reached = (λ e. let l : i.least <ℤ v = low.1 in omega (arith, ints), λ e. let l : i.greatest <ℤ v = high.1 in omega (arith, ints));
    }

others_ends : (a b : Interval) (o : Option Interval) → IfSome o (λ i. IsIn i.least a × IsIn i.greatest a) → IfSome o (λ i. (i.least ≢ b.least) × (i.greatest ≢ b.least))
    → IfSome o (λ i. Remains Unequal a b i.least × Remains Unequal a b i.greatest)
others_ends a b None w r = tt
others_ends a b (Some i) w r = (
  record { is_in = w.0; right = b.least; right_in = least_in b; is = differ_if i.least b.least r.0 },
  record { is_in = w.1; right = b.least; right_in = least_in b; is = differ_if i.greatest b.least r.1 },
)

pub narrowed_unequal : (a b : Interval) (o : Option Interval) → b.least ≡ b.greatest → AreOthers a o b.least → IsNarrowed Unequal a b o
narrowed_unequal a b o e h = record {
  kept = λ x r. h.kept x r.is_in (λ k. differ_is x r.right r.is (k ∙ sym (one_member b r.right e r.right_in)));
  reached = others_ends a b o h.within h.reached;
}

-- of two different numbers one differs from a third
remaining_by : (a b : Interval) (x : ℤ) (v : Bool) → is_equal x b.least ≡ v → IsIn x a → b.least ≢ b.greatest → Remains Unequal a b x
remaining_by a b x true e h n =
    let k : x ≡ b.least = equal_same x b.least e in
    record { is_in = h; right = b.greatest; right_in = greatest_in b; is = differ_if x b.greatest (λ l. n (sym k ∙ l)) }
remaining_by a b x false e h n = record { is_in = h; right = b.least; right_in = least_in b; is = ap not e }

remaining : (a b : Interval) (x : ℤ) → IsIn x a → b.least ≢ b.greatest → Remains Unequal a b x
remaining a b x h n = remaining_by a b x (is_equal x b.least) refl h n

pub unequal_all : (a b : Interval) → b.least ≢ b.greatest → IsNarrowed Unequal a b (Some a)
unequal_all a b n = record {
  kept = λ x r. r.is_in;
  reached = (remaining a b a.least (least_in a) n, remaining a b a.greatest (greatest_in a) n);
}
