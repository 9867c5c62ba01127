-- What instructions compute from values of 64 bits has 64 bits.
use Rattle.std.proofs.Common.{◌≡◌, ◌≢◌, ℕ, ◌+◌, ◌^◌, ◌<◌, List, [], ◌∷◌, Bool, true, false, Option, Some, None, Ok, Err, ℤ, pos, negsuc}
use Rattle.std.proofs.Common.{neg_ℤ, ◌+ℤ◌, ◌-ℤ◌, ◌*ℤ◌, ◌≤ℤ◌, ◌<ℤ◌, nat_abs, eqb, refl, ap, arith, FitsSigned}
use Rattle.std.specs.Prelude.{if◌then◌else◌, int_le, nat_le}
use Rattle.std.specs.Int.{w64}
use Rattle.std.proofs.lemmas.Int.{ints}
use Rattle.std.proofs.lemmas.Bool.Decides.{nat_tests}
use Rattle.pram_model.specs.Layout.{width}
use Rattle.pram_values.specs.declared.kind.Kind.TheVariants.{Overflow, DivideByZero, TooWide}
use Rattle.pram_values.specs.Value.{Value, fits, checked}
use Rattle.pram_values.specs.Truth.{truth, is_nonzero}
use Rattle.pram_values.specs.Division.{quotient, remainder_of, floor_quotient, floor_remainder, IsRemainderFor}
use Rattle.pram_values.proofs.Divisions.{remainder_is_within}
use Rattle.superstep_instructions.specs.declared.instr.Arithmetic.{Arithmetic}
use Rattle.superstep_instructions.specs.declared.instr.Arithmetic.TheVariants.{Add, Subtract, Multiply, Divide, Remainder}
use Rattle.superstep_instructions.specs.declared.instr.Instr.{Instr}
use Rattle.superstep_instructions.specs.declared.instr.Instr.TheVariants.{Set, Copy, Negate, Calculate, Decide, Not}
use Rattle.superstep_instructions.specs.Limits.{IsInstr}
use Rattle.superstep_machine.specs.Parts.{Registers, set_register}
use Rattle.superstep_machine.specs.Results.{calculated, computed, or_zero, range_width, or_empty}
use Rattle.superstep_machine.specs.Steps.{with_result, zero_without}
use Rattle.superstep_machine.specs.Answering.{answers}
use Rattle.machine_limits.specs.Within.{HaveValues}

pub zero_fits : FitsSigned w64 (pos 0)
zero_fits = record { sfits = omega arith }

-- ---- numbers

fits_told : (z : ℤ) → fits z ≡ true → FitsSigned w64 z
fits_told (pos n) h = record { sfits = grind (arith, ints, nat_tests, h) }
fits_told (negsuc n) h = record { sfits = grind (arith, ints, nat_tests, h) }

-- of a value, if it is one
abbrev pub Fits : Value → Type 0
Fits (Ok z) = FitsSigned w64 z
Fits (Err kind) = Unit {0}

pub checked_fits : (z : ℤ) → Fits (checked z)
checked_fits z = go (fits z) refl
  where
    go : (b : Bool) → fits z ≡ b → Fits (if b then Ok z else Err Overflow)
    go true e = fits_told z e
    go false e = tt

pub or_zero_fits : (v : Value) → Fits v → FitsSigned w64 (or_zero v)
or_zero_fits (Ok z) h = h
or_zero_fits (Err kind) h = zero_fits

truth_fits : (b : Bool) → FitsSigned w64 (truth b)
truth_fits true = record { sfits = omega arith }
truth_fits false = record { sfits = omega arith }

-- what lies between two values
pub between_fits : (a b c : ℤ) → FitsSigned w64 a → FitsSigned w64 c → a ≤ℤ b → b ≤ℤ c → FitsSigned w64 b
between_fits a (pos n) (pos m) f g l h = let k = g.sfits in record { sfits = omega (arith, ints, k, h) }
between_fits a (pos n) (negsuc m) f g l h = absurd (omega (arith, ints, h))
between_fits (pos m) (negsuc n) c f g l h = absurd (omega (arith, ints, l))
between_fits (negsuc m) (negsuc n) c f g l h = let k = f.sfits in record { sfits = omega (arith, ints, k, l) }

in_range : (z : ℤ) → neg_ℤ (pos (2 ^ 63)) ≤ℤ z → z <ℤ pos (2 ^ 63) → FitsSigned w64 z
in_range (pos n) l h = record { sfits = omega (arith, ints, h) }
in_range (negsuc n) l h = record { sfits = omega (arith, ints, l) }

remainder_within : (d r : ℤ) → FitsSigned w64 d → IsRemainderFor d r → FitsSigned w64 r
remainder_within (pos d) r f h = between_fits (pos 0) r (pos d) zero_fits f h.0 (let k = h.1 in omega (arith, ints, k))
remainder_within (negsuc d) r f h = between_fits (negsuc d) r (pos 0) f zero_fits (let k = h.0 in omega (arith, ints, k)) h.1

is_not_zero : (d : ℤ) → is_nonzero d ≡ true → d ≢ pos 0
is_not_zero d h e = cc (ap is_nonzero e)

remainder_fits : (x d : ℤ) → FitsSigned w64 d → Fits (remainder_of x d)
remainder_fits x d f = go (is_nonzero d) refl
  where
    go : (b : Bool) → is_nonzero d ≡ b → Fits (if b then Ok (floor_remainder x d) else Err DivideByZero)
    go true e = remainder_within d (floor_remainder x d) f (remainder_is_within x d (is_not_zero d e))
    go false e = tt

quotient_fits : (x d : ℤ) → Fits (quotient x d)
quotient_fits x d = go (is_nonzero d)
  where
    go : (b : Bool) → Fits (if b then checked (floor_quotient x d) else Err DivideByZero)
    go true = checked_fits (floor_quotient x d)
    go false = tt

calculated_fits : (o : Arithmetic) (x y : ℤ) → FitsSigned w64 y → Fits (calculated o x y)
calculated_fits Add x y f = checked_fits (x +ℤ y)
calculated_fits Subtract x y f = checked_fits (x -ℤ y)
calculated_fits Multiply x y f = checked_fits (x *ℤ y)
calculated_fits Divide x y f = quotient_fits x y
calculated_fits Remainder x y f = remainder_fits x y f

abbrev pub FitsResult : Option (ℕ × Value) → Type 0
FitsResult None = Unit {0}
FitsResult (Some (d, value)) = FitsSigned w64 (or_zero value)

pub computed_fits : (i : Instr) → IsInstr i → (r : Registers) → HaveValues r → FitsResult (computed i r)
computed_fits (Set side d n) h r f = in_range n h.1.0.0 h.1.0.1
computed_fits (Copy side d s) h r f = f s
computed_fits (Negate side d s q) h r f = or_zero_fits _ (checked_fits (neg_ℤ (r s)))
computed_fits (Calculate side o d a b q) h r f = or_zero_fits (calculated o (r a) (r b)) (calculated_fits o (r a) (r b) (f b))
computed_fits (Decide side o d a b) h r f = truth_fits _
computed_fits (Not side d s) h r f = truth_fits _
computed_fits i h r f = tt

-- ---- registers

pub set_fits : (d : ℕ) (x : ℤ) (r : Registers) → FitsSigned w64 x → HaveValues r → HaveValues (set_register d x r)
set_fits d x r f h k = go (eqb d k)
  where
    go : (b : Bool) → FitsSigned w64 (if b then x else r k)
    go true = f
    go false = h k

pub truth_set : (d : ℕ) (b : Bool) (r : Registers) → HaveValues r → HaveValues (set_register d (truth b) r)
truth_set d b r h = set_fits d (truth b) r (truth_fits b) h

pub result_fits : (o : Option (ℕ × Value)) (r : Registers) → FitsResult o → HaveValues r → HaveValues (with_result o r)
result_fits None r f h = h
result_fits (Some (d, value)) r f h = set_fits d (or_zero value) r f h

-- of the side that is meant
pub result_if : (b : Bool) (i : Instr) (of r : Registers) → IsInstr i → HaveValues of → HaveValues r →
    HaveValues (with_result (if b then computed i of else None) r)
result_if true i of r h f g = result_fits (computed i of) r (computed_fits i h of f) g
result_if false i of r h f g = g

pub zero_without_fits : (cell : Option ℕ) (d : ℕ) (r : Registers) → HaveValues r → HaveValues (zero_without cell d r)
zero_without_fits None d r h = set_fits d (pos 0) r zero_fits h
zero_without_fits (Some c) d r h = h

pub answers_fit : (value : ℕ → ℕ → ℤ) → ((k c : ℕ) → FitsSigned w64 (value k c)) →
    (k : ℕ) (reads : List (ℕ × Option ℕ)) (r : Registers) → HaveValues r →
    HaveValues (answers value k reads r)
answers_fit value f k [] r h = h
answers_fit value f k ((d, None) ∷ rest) r h = answers_fit value f (k + 1) rest r h
answers_fit value f k ((d, Some c) ∷ rest) r h =
    answers_fit value f (k + 1) rest (set_register d (value k c) r) (set_fits d (value k c) r (f k c) h)

-- ---- the indices of a range

-- a processor's index lies between the bounds
pub index_within : (procs : ℕ) (low high : ℤ) → FitsSigned w64 low → FitsSigned w64 high → (v : ℕ) →
    v < or_empty (range_width procs low high) → FitsSigned w64 (low +ℤ pos v)
index_within procs low high f g v l = go (nat_le (width low high) procs) l
  where
    inside : v < width low high → FitsSigned w64 (low +ℤ pos v)
    inside h = ordered (int_le low high) refl h
      where
        ordered : (b : Bool) → int_le low high ≡ b → v < (if b then nat_abs (high -ℤ low) + 1 else 0) → FitsSigned w64 (low +ℤ pos v)
        ordered true e k =
            between_fits low (low +ℤ pos v) high f g (omega (arith, ints)) (grind (arith, ints, nat_tests, e, k))
        ordered false e k = absurd (omega (arith, k))

    go : (b : Bool) → v < or_empty (if b then Ok (width low high) else Err TooWide) → FitsSigned w64 (low +ℤ pos v)
    go true k = inside k
    go false k = absurd (omega (arith, k))
