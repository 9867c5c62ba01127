-- Floor division goes up or down along each row and each column without a zero divisor.
use Rattle.std.proofs.Common.{◌≡◌, ◌≢◌, ℤ, ℕ, pos, negsuc, zero, suc, Bool, true, false, Ok, Err, ◌≤ℤ◌, ◌*◌, ◌/◌, ◌≤◌, ◌<◌, arith, refl, sym, FitsSigned, if◌then◌else◌}
use Rattle.std.specs.Int.{w64}
use Rattle.std.proofs.lemmas.Int.{ints}
use Rattle.std.proofs.lemmas.Nat.{le-div}
use Rattle.std.proofs.Math.Nat.{div-mul-le_self, div-le_self, mul-le-mul_left}
use Rattle.pram_values.specs.declared.kind.Kind.{Kind}
use Rattle.pram_values.specs.declared.kind.Kind.TheVariants.{Overflow, DivideByZero}
use Rattle.pram_values.specs.Value.{Value, fits}
use Rattle.pram_values.specs.Truth.{is_nonzero}
use Rattle.pram_values.specs.Division.{quotient, floor_quotient}
use Rattle.intervals.specs.declared.interval.Interval.{Interval}
use Rattle.intervals.specs.Intervals.{IsIn}
use Rattle.intervals.specs.Corners.{least_corner, greatest_corner}
use Rattle.intervals.specs.Hulls.{IsHull}
use Rattle.intervals.proofs.Hulls.{given}
use Rattle.intervals.proofs.Corners.{IsBetween, rising, falling, corners_hull}
use Rattle.intervals.proofs.Joins.{least_in, greatest_in}

-- ---- natural quotients

more_divided : (x y d : ℕ) → x ≤ y → x / suc d ≤ y / suc d
more_divided x y d h = let m : x / suc d * suc d ≤ x = div-mul-le_self x (suc d) in le-div (x / suc d) y (suc d) (omega arith) (omega arith)

by_more : (x d e : ℕ) → d ≤ e → x / suc e ≤ x / suc d
by_more x d e h =
    let m : x / suc e * suc e ≤ x = div-mul-le_self x (suc e) in
    let n : x / suc e * suc d ≤ x / suc e * suc e = mul-le-mul_left (x / suc e) (omega arith) in
    le-div (x / suc e) x (suc d) (omega arith) (omega arith)

-- ---- rows

floor_rising : (x y : ℤ) (d : ℕ) → x ≤ℤ y → floor_quotient x (pos (suc d)) ≤ℤ floor_quotient y (pos (suc d))
floor_rising (pos a) (pos b) d h = let m : a / suc d ≤ b / suc d = more_divided a b d (omega (arith, ints)) in omega (arith, ints)
floor_rising (negsuc a) (pos b) d h = omega (arith, ints)
floor_rising (negsuc a) (negsuc b) d h = let m : b / suc d ≤ a / suc d = more_divided b a d (omega (arith, ints)) in omega (arith, ints)
floor_rising (pos a) (negsuc b) d h = absurd (omega (arith, ints))

floor_falling : (x y : ℤ) (d : ℕ) → x ≤ℤ y → floor_quotient y (negsuc d) ≤ℤ floor_quotient x (negsuc d)
floor_falling (pos zero) (pos zero) d h = omega (arith, ints)
floor_falling (pos zero) (pos (suc b)) d h = omega (arith, ints)
floor_falling (pos (suc a)) (pos zero) d h = absurd (omega (arith, ints))
floor_falling (pos (suc a)) (pos (suc b)) d h = let m : a / suc d ≤ b / suc d = more_divided a b d (omega (arith, ints)) in omega (arith, ints)
floor_falling (negsuc a) (pos zero) d h = omega (arith, ints)
floor_falling (negsuc a) (pos (suc b)) d h = omega (arith, ints)
floor_falling (negsuc a) (negsuc b) d h = let m : suc b / suc d ≤ suc a / suc d = more_divided (suc b) (suc a) d (omega (arith, ints)) in omega (arith, ints)
floor_falling (pos zero) (negsuc b) d h = absurd (omega (arith, ints))
floor_falling (pos (suc a)) (negsuc b) d h = absurd (omega (arith, ints))

pub floor_row : (x l g d : ℤ) → d ≢ pos 0 → l ≤ℤ x → x ≤ℤ g → IsBetween (floor_quotient l d) (floor_quotient g d) (floor_quotient x d)
floor_row x l g (pos zero) n h k = absurd (n refl)
floor_row x l g (pos (suc d)) n h k = rising _ _ _ (floor_rising l x d h) (floor_rising x g d k)
floor_row x l g (negsuc d) n h k = falling _ _ _ (floor_falling l x d h) (floor_falling x g d k)

-- ---- columns

pos_column : (x : ℤ) (l d g : ℕ) → l ≤ d → d ≤ g → IsBetween (floor_quotient x (pos (suc l))) (floor_quotient x (pos (suc g))) (floor_quotient x (pos (suc d)))
pos_column (pos x) l d g h k =
    let m : x / suc d ≤ x / suc l = by_more x l d h in
    let n : x / suc g ≤ x / suc d = by_more x d g k in
    falling _ _ _ (omega (arith, ints)) (omega (arith, ints))
pos_column (negsuc x) l d g h k =
    let m : x / suc d ≤ x / suc l = by_more x l d h in
    let n : x / suc g ≤ x / suc d = by_more x d g k in
    rising _ _ _ (omega (arith, ints)) (omega (arith, ints))

neg_column : (x : ℤ) (l d g : ℕ) → d ≤ l → g ≤ d → IsBetween (floor_quotient x (negsuc l)) (floor_quotient x (negsuc g)) (floor_quotient x (negsuc d))
neg_column (pos zero) l d g h k = rising _ _ _ (omega (arith, ints)) (omega (arith, ints))
neg_column (pos (suc x)) l d g h k =
    let m : x / suc l ≤ x / suc d = by_more x d l h in
    let n : x / suc d ≤ x / suc g = by_more x g d k in
    falling _ _ _ (omega (arith, ints)) (omega (arith, ints))
neg_column (negsuc x) l d g h k =
    let m : suc x / suc l ≤ suc x / suc d = by_more (suc x) d l h in
    let n : suc x / suc d ≤ suc x / suc g = by_more (suc x) g d k in
    rising _ _ _ (omega (arith, ints)) (omega (arith, ints))

-- l, d and g have one sign
floor_column : (x l d g : ℤ) → l ≤ℤ d → d ≤ℤ g → (l ≤ℤ pos 0 → pos 0 ≤ℤ g → ⊥) → IsBetween (floor_quotient x l) (floor_quotient x g) (floor_quotient x d)
floor_column x (pos zero) (pos d) (pos g) h k n = absurd (n (omega (arith, ints)) (omega (arith, ints)))
floor_column x (pos (suc l)) (pos zero) g h k n = absurd (omega (arith, ints))
floor_column x (pos (suc l)) (pos (suc d)) (pos zero) h k n = absurd (omega (arith, ints))
floor_column x (pos (suc l)) (pos (suc d)) (pos (suc g)) h k n = pos_column x l d g (omega (arith, ints)) (omega (arith, ints))
floor_column x (pos l) (negsuc d) g h k n = absurd (omega (arith, ints))
floor_column x (pos l) (pos d) (negsuc g) h k n = absurd (omega (arith, ints))
floor_column x (negsuc l) d (pos g) h k n = absurd (n (omega (arith, ints)) (omega (arith, ints)))
floor_column x (negsuc l) (pos d) (negsuc g) h k n = absurd (omega (arith, ints))
floor_column x (negsuc l) (negsuc d) (negsuc g) h k n = neg_column x l d g (omega (arith, ints)) (omega (arith, ints))

pub nonzero_if : (y : ℤ) → y ≢ pos 0 → is_nonzero y ≡ true
nonzero_if (pos zero) n = absurd (n refl)
nonzero_if (pos (suc y)) n = refl
nonzero_if (negsuc y) n = refl

pub nonzero_is : (y : ℤ) → is_nonzero y ≡ true → y ≢ pos 0
nonzero_is y h e = let k : is_nonzero (pos 0) ≡ true = rw e at h in absurd (cc)

pub in_nonzero : (b : Interval) → ¬ IsIn (pos 0) b → (y : ℤ) → IsIn y b → y ≢ pos 0
in_nonzero b n y h e = n (rw e at h)

pub floors_hull : (a b : Interval) → ¬ IsIn (pos 0) b
    → IsHull is_nonzero floor_quotient a b (least_corner floor_quotient a b) (greatest_corner floor_quotient a b)
floors_hull a b n = corners_hull is_nonzero floor_quotient a b
    (nonzero_if b.least (in_nonzero b n b.least (least_in b)))
    (nonzero_if b.greatest (in_nonzero b n b.greatest (greatest_in b)))
    (λ x y h k. floor_row x a.least a.greatest y (in_nonzero b n y k) h.least h.greatest)
    (λ x y h k. floor_column x b.least y b.greatest k.least k.greatest (λ s t. n (record { least = s; greatest = t })))

-- ---- the quotient in 128 bits

floor_bounds : (x d : ℤ) → FitsSigned w64 x → (negsuc 9223372036854775807 ≤ℤ floor_quotient x d) × (floor_quotient x d ≤ℤ pos 9223372036854775808)
floor_bounds (pos x) (pos d) f = let m : x / d ≤ x = div-le_self x d in let n : x < 9223372036854775808 = f.sfits in (omega (arith, ints), omega (arith, ints))
floor_bounds (negsuc x) (pos d) f = let m : x / d ≤ x = div-le_self x d in let n : x < 9223372036854775808 = f.sfits in (omega (arith, ints), omega (arith, ints))
floor_bounds (pos zero) (negsuc d) f = (omega (arith, ints), omega (arith, ints))
floor_bounds (pos (suc x)) (negsuc d) f = let m : x / suc d ≤ x = div-le_self x (suc d) in let n : suc x < 9223372036854775808 = f.sfits in (omega (arith, ints), omega (arith, ints))
floor_bounds (negsuc x) (negsuc d) f = let m : suc x / suc d ≤ suc x = div-le_self (suc x) (suc d) in let n : x < 9223372036854775808 = f.sfits in (omega (arith, ints), omega (arith, ints))

pub floor_ok : (x d q : ℤ) → ◌≡◌ {A = Value} (Ok q) (quotient x d) → q ≡ floor_quotient x d
floor_ok x d q e = sym (given is_nonzero floor_quotient x d q (sym e)).is

err_unfit : (q : ℤ) (k : Kind) (b c : Bool) → b ≡ true → fits q ≡ c
    → ◌≡◌ {A = Value} (if b then (if c then Ok q else Err Overflow) else Err DivideByZero) (Err k) → fits q ≡ false
err_unfit q k true true h l e = absurd (cc)
err_unfit q k true false h l e = l
err_unfit q k false c h l e = absurd (cc)

unfit_at : (q : ℤ) → negsuc 9223372036854775807 ≤ℤ q → q ≤ℤ pos 9223372036854775808 → fits q ≡ false → q ≡ pos 9223372036854775808
unfit_at q h k e = grind (arith, ints)

pub floor_err : (x d : ℤ) (k : Kind) → FitsSigned w64 x → d ≢ pos 0 → ◌≡◌ {A = Value} (Err k) (quotient x d) → floor_quotient x d ≡ pos 9223372036854775808
floor_err x d k f n e =
    let b = floor_bounds x d f in
    unfit_at (floor_quotient x d) b.0 b.1 (err_unfit (floor_quotient x d) k (is_nonzero d) (fits (floor_quotient x d)) (nonzero_if d n) refl (sym e))
