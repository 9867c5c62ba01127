-- The least range that holds what a function of whole numbers comes to, and its part of 64 bits.
use Rattle.std.proofs.Common.{◌≡◌, ℤ, pos, negsuc, ◌≤ℤ◌, arith, Option, Some, None, Ok, Err, ◌↔◌, IsTrue, IfSome, Bool, true, false, not, ◌&&◌, refl, ap, ◌∙◌, sym, if◌then◌else◌}
use Rattle.std.specs.Prelude.{IsSomeAnd}
use Rattle.std.proofs.lemmas.Int.{ints, clamps}
use Rattle.pram_values.specs.declared.kind.Kind.TheVariants.{Overflow, DivideByZero}
use Rattle.pram_values.specs.Value.{Value, fits, checked}
use Rattle.intervals.specs.declared.interval.Interval.{Interval}
use Rattle.intervals.specs.declared.found.Found.{Found}
use Rattle.intervals.specs.Intervals.{IsIn}
use Rattle.intervals.specs.Cuts.{IsCut}
use Rattle.intervals.specs.Hulls.{Reaches, IsHull}
use Rattle.intervals.specs.Results.{Gives, Tells}

-- f where the right number passes, and a zero divisor elsewhere
abbrev pub partial : (ℤ → Bool) → (ℤ → ℤ → ℤ) → ℤ → ℤ → Value
partial p f x y = if p y then checked (f x y) else Err DivideByZero

-- ---- what fits

pub fits_from : (z : ℤ) → negsuc 9223372036854775807 ≤ℤ z → z ≤ℤ pos 9223372036854775807 → fits z ≡ true
fits_from z h k = grind (arith, ints)

pub fits_least : (z : ℤ) → fits z ≡ true → negsuc 9223372036854775807 ≤ℤ z
fits_least z h = grind (arith, ints)

pub fits_greatest : (z : ℤ) → fits z ≡ true → z ≤ℤ pos 9223372036854775807
fits_greatest z h = grind (arith, ints)

both : (x y : Bool) → x ≡ true → y ≡ true → not (x && y) ≡ false
both x y h k = rw (h, k)

out_left : (x y : Bool) → x ≡ false → not (x && y) ≡ true
out_left x y h = rw h

out_right : (x y : Bool) → y ≡ false → not (x && y) ≡ true
out_right true y h = rw h
out_right false y h = refl

-- a value that fits is given as it is
partial_ok : (p : ℤ → Bool) (f : ℤ → ℤ → ℤ) (x y z : ℤ) → p y ≡ true → f x y ≡ z → fits z ≡ true → ◌≡◌ {A = Value} (partial p f x y) (Ok z)
partial_ok p f x y z h e k = rw (h, e, k)

partial_over : (p : ℤ → Bool) (f : ℤ → ℤ → ℤ) (x y z : ℤ) → p y ≡ true → f x y ≡ z → fits z ≡ false → ◌≡◌ {A = Value} (partial p f x y) (Err Overflow)
partial_over p f x y z h e k = rw (h, e, k)

-- what a partial function gives says which way it went
pub record IsGiven (p : ℤ → Bool) (f : ℤ → ℤ → ℤ) (x y z : ℤ) : Type 0 where
  pub passes : p y ≡ true
  pub fitting : fits z ≡ true
  pub is : f x y ≡ z

given_by : (p : ℤ → Bool) (f : ℤ → ℤ → ℤ) (x y z : ℤ) (b d : Bool) → p y ≡ b → fits (f x y) ≡ d
    → ◌≡◌ {A = Value} (if b then (if d then Ok (f x y) else Err Overflow) else Err DivideByZero) (Ok z) → IsGiven p f x y z
given_by p f x y z true true h k e = let s : f x y ≡ z = cc in record { passes = h; fitting = ap fits (sym s) ∙ k; is = s }
given_by p f x y z true false h k e = absurd (cc)
given_by p f x y z false d h k e = absurd (cc)

pub given : (p : ℤ → Bool) (f : ℤ → ℤ → ℤ) (x y z : ℤ) → ◌≡◌ {A = Value} (partial p f x y) (Ok z) → IsGiven p f x y z
given p f x y z e = given_by p f x y z (p y) (fits (f x y)) refl refl e

over_by : (p : ℤ → Bool) (f : ℤ → ℤ → ℤ) (x y : ℤ) (b d : Bool) → p y ≡ b → fits (f x y) ≡ d
    → ◌≡◌ {A = Value} (if b then (if d then Ok (f x y) else Err Overflow) else Err DivideByZero) (Err Overflow) → (p y ≡ true) × (fits (f x y) ≡ false)
over_by p f x y true true h k e = absurd (cc)
over_by p f x y true false h k e = (h, k)
over_by p f x y false d h k e = absurd (cc)

pub over_is : (p : ℤ → Bool) (f : ℤ → ℤ → ℤ) (x y : ℤ) → ◌≡◌ {A = Value} (partial p f x y) (Err Overflow) → (p y ≡ true) × (fits (f x y) ≡ false)
over_is p f x y e = over_by p f x y (p y) (fits (f x y)) refl refl e

zero_by : (p : ℤ → Bool) (f : ℤ → ℤ → ℤ) (x y : ℤ) (b d : Bool) → p y ≡ b
    → ◌≡◌ {A = Value} (if b then (if d then Ok (f x y) else Err Overflow) else Err DivideByZero) (Err DivideByZero) → p y ≡ false
zero_by p f x y true true h e = absurd (cc)
zero_by p f x y true false h e = absurd (cc)
zero_by p f x y false d h e = h

pub zero_is : (p : ℤ → Bool) (f : ℤ → ℤ → ℤ) (x y : ℤ) → ◌≡◌ {A = Value} (partial p f x y) (Err DivideByZero) → p y ≡ false
zero_is p f x y e = zero_by p f x y (p y) (fits (f x y)) refl e

-- ---- a hull, cut, tells its function

reached_ok : (p : ℤ → Bool) (f : ℤ → ℤ → ℤ) (a b : Interval) (z : ℤ) → Reaches p f a b z → fits z ≡ true → Gives (partial p f) a b (Ok z)
reached_ok p f a b z h k = record { left = h.left; right = h.right; left_in = h.left_in; right_in = h.right_in; gives = partial_ok p f h.left h.right z h.passes h.is k }

reached_over : (p : ℤ → Bool) (f : ℤ → ℤ → ℤ) (a b : Interval) (z : ℤ) → Reaches p f a b z → fits z ≡ false → Gives (partial p f) a b (Err Overflow)
reached_over p f a b z h k = record { left = h.left; right = h.right; left_in = h.left_in; right_in = h.right_in; gives = partial_over p f h.left h.right z h.passes h.is k }

-- an end that doesn't fit
ends_over : (p : ℤ → Bool) (f : ℤ → ℤ → ℤ) (a b : Interval) (lo hi : ℤ) → IsHull p f a b lo hi → (x y : Bool) → fits lo ≡ x → fits hi ≡ y
    → not (x && y) ≡ true → Gives (partial p f) a b (Err Overflow)
ends_over p f a b lo hi h true true k l e = absurd (cc)
ends_over p f a b lo hi h true false k l e = reached_over p f a b hi h.greatest l
ends_over p f a b lo hi h false y k l e = reached_over p f a b lo h.least k

between_fits : (lo z hi : ℤ) → lo ≤ℤ z → z ≤ℤ hi → fits lo ≡ true → fits hi ≡ true → fits z ≡ true
between_fits lo z hi h k l m =
    let u : negsuc 9223372036854775807 ≤ℤ lo = fits_least lo l in
    let v : hi ≤ℤ pos 9223372036854775807 = fits_greatest hi m in
    fits_from z (omega (arith, ints)) (omega (arith, ints))

over_ends : (lo z hi : ℤ) → lo ≤ℤ z → z ≤ℤ hi → fits z ≡ false → (x y : Bool) → fits lo ≡ x → fits hi ≡ y → not (x && y) ≡ true
over_ends lo z hi h k e true true l m = let q : fits z ≡ true = between_fits lo z hi h k l m in absurd (cc)
over_ends lo z hi h k e true false l m = refl
over_ends lo z hi h k e false y l m = refl

pub overflow_told : (p : ℤ → Bool) (f : ℤ → ℤ → ℤ) (a b : Interval) (lo hi : ℤ) (v : Option Interval) (o : Bool) → IsHull p f a b lo hi → IsCut lo hi v o
    → IsTrue o ↔ Gives (partial p f) a b (Err Overflow)
overflow_told p f a b lo hi v o h c = (
  λ t. ends_over p f a b lo hi h (fits lo) (fits hi) refl refl (sym c.told ∙ t),
  λ g. let w = over_is p f g.left g.right g.gives in
      c.told ∙ over_ends lo (f g.left g.right) hi (h.above g.left g.right g.left_in g.right_in w.0) (h.below g.left g.right g.left_in g.right_in w.0) w.1 (fits lo) (fits hi) refl refl,
)

pub sound_told : (p : ℤ → Bool) (f : ℤ → ℤ → ℤ) (a b : Interval) (lo hi : ℤ) (v : Option Interval) (o : Bool) → IsHull p f a b lo hi → IsCut lo hi v o
    → (x y z : ℤ) → IsIn x a → IsIn y b → ◌≡◌ {A = Value} (partial p f x y) (Ok z) → IsSomeAnd v (λ i. IsIn z i)
sound_told p f a b lo hi v o h c x y z k l e =
    let g = given p f x y z e in
    c.holds z (rw g.is at (h.above x y k l g.passes)) (rw g.is at (h.below x y k l g.passes)) g.fitting

ends_fit : (lo hi : ℤ) (x y : Bool) → fits lo ≡ x → fits hi ≡ y → not (x && y) ≡ false → (fits lo ≡ true) × (fits hi ≡ true)
ends_fit lo hi true true h k e = (h, k)
ends_fit lo hi true false h k e = absurd (cc)
ends_fit lo hi false y h k e = absurd (cc)

pub ends_given : (p : ℤ → Bool) (f : ℤ → ℤ → ℤ) (a b : Interval) (lo hi : ℤ) (v : Option Interval) (o : Bool) → IsHull p f a b lo hi → IsCut lo hi v o
    → o ≡ false → IfSome v (λ i. Gives (partial p f) a b (Ok i.least) × Gives (partial p f) a b (Ok i.greatest))
ends_given p f a b lo hi None o h c e = tt
ends_given p f a b lo hi (Some i) o h c e =
    let w = ends_fit lo hi (fits lo) (fits hi) refl refl (sym c.told ∙ e) in
    let u : negsuc 9223372036854775807 ≤ℤ lo = fits_least lo w.0 in
    let v : hi ≤ℤ pos 9223372036854775807 = fits_greatest hi w.1 in
    let s : i.least ≡ lo = omega (arith, ints, clamps, c.least) in
    let t : i.greatest ≡ hi = omega (arith, ints, clamps, c.greatest) in
    (rw s (reached_ok p f a b lo h.least w.0), rw t (reached_ok p f a b hi h.greatest w.1))

-- f comes to each number of the range
pub record IsFull (p : ℤ → Bool) (f : ℤ → ℤ → ℤ) (a b : Interval) (lo hi : ℤ) : Type 0 where
  pub hull : IsHull p f a b lo hi
  pub reaches : (z : ℤ) → lo ≤ℤ z → z ≤ℤ hi → Reaches p f a b z

-- then both ends of the part of 64 bits are given
pub full_given : (p : ℤ → Bool) (f : ℤ → ℤ → ℤ) (a b : Interval) (lo hi : ℤ) (v : Option Interval) (o : Bool) → IsFull p f a b lo hi → IsCut lo hi v o
    → IfSome v (λ i. Gives (partial p f) a b (Ok i.least) × Gives (partial p f) a b (Ok i.greatest))
full_given p f a b lo hi None o h c = tt
full_given p f a b lo hi (Some i) o h c =
    let q : i.least ≤ℤ i.greatest = i.ordered in
    let u : lo ≤ℤ i.least = omega (arith, ints, clamps, c.least) in
    let v : i.greatest ≤ℤ hi = omega (arith, ints, clamps, c.greatest) in
    let w : negsuc 9223372036854775807 ≤ℤ i.least = omega (arith, ints, clamps, c.least) in
    let x : i.greatest ≤ℤ pos 9223372036854775807 = omega (arith, ints, clamps, c.greatest) in (
      reached_ok p f a b i.least (h.reaches i.least u (omega (arith, ints))) (fits_from i.least w (omega (arith, ints))),
      reached_ok p f a b i.greatest (h.reaches i.greatest (omega (arith, ints)) v) (fits_from i.greatest (omega (arith, ints)) x),
    )

-- what is found of a function that is given everywhere
pub tells_always : (f : ℤ → ℤ → ℤ) (a b : Interval) (lo hi : ℤ) (r : Found) → IsHull (λ y. true) f a b lo hi → IsCut lo hi r.value r.may_overflow
    → r.may_divide_by_zero ≡ false → Tells (partial (λ y. true) f) a b r
tells_always f a b lo hi r h c z = record {
  sound = sound_told (λ y. true) f a b lo hi r.value r.may_overflow h c;
  overflow = overflow_told (λ y. true) f a b lo hi r.value r.may_overflow h c;
  zero = (
    λ t. absurd (cc),
    λ g. let n : ◌≡◌ {A = Bool} true false = zero_is (λ y. true) f g.left g.right g.gives in absurd (cc),
  );
}
