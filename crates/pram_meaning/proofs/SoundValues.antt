-- What operations and write rules give of values of 64 bits.
use Rattle.std.proofs.Common.{◌≡◌, ℕ, zero, suc, ◌+◌, ◌<◌, List, [], ◌∷◌, ◌++◌, Bool, true, false, Ok, Err, ℤ, pos, negsuc, neg_ℤ, ◌+ℤ◌}
use Rattle.std.proofs.Common.{◌-ℤ◌, ◌*ℤ◌, not, ◌||◌, ◌≤ℤ◌, int_le, int_lt, ◌&&◌, nat_abs, if◌then◌else◌, refl, ap, arith, subst, replicate}
use Rattle.std.specs.Prelude.{slice_index_or, slice_set}
use Rattle.std.specs.List.{AllByRecursion}
use Rattle.std.proofs.lemmas.Int.{ints}
use Rattle.pram_model.specs.declared.rule.Rule.{Rule}
use Rattle.pram_model.specs.declared.rule.Rule.TheVariants.{Erew, Crew, Common, Priority, Sum}
use Rattle.pram_tokens.specs.declared.token.Binary.{Binary}
use Rattle.pram_tokens.specs.declared.token.Binary.TheVariants.{Or, And, Equal, Unequal, Less, AtMost, Greater, AtLeast, Add, Subtract}
use Rattle.pram_tokens.specs.declared.token.Binary.TheVariants.{Multiply, Divide, Remainder}
use Rattle.pram_trees.specs.declared.tree.Prefix.{Prefix}
use Rattle.pram_trees.specs.declared.tree.Prefix.TheVariants.{Negate, Not}
use Rattle.pram_model.specs.Layout.{width}
use Rattle.pram_tokens.specs.Tokens.{IsNumber}
use Rattle.pram_values.specs.Division.{IsRemainderFor, floor_quotient, floor_remainder, quotient, remainder_of}
use Rattle.pram_values.specs.declared.kind.Kind.TheVariants as overflow
use Rattle.pram_values.specs.Truth.{is_equal, is_nonzero, truth}
use Rattle.pram_values.specs.Value.{Value, checked, fits}
use Rattle.pram_values.proofs.Divisions.{remainder_is_within}
use Rattle.write_rules.specs.declared.write.Write.{Write}
use Rattle.write_rules.specs.Rule.{common_value, least_writer, only_value, rule_value, sum_of, written}
use Rattle.pram_meaning.specs.Operation.{operate, operate_before}
use Rattle.pram_meaning.specs.Values.{AreValues, IsValue}

-- ---- numbers

fits_is : (z : ℤ) → fits z ≡ true → IsValue z
fits_is (pos n) h = record { least = grind (arith, ints); most = grind (arith, ints, h) }
fits_is (negsuc n) h = record { least = grind (arith, ints, h); most = grind (arith, ints) }

pub zero_is : IsValue (pos 0)
zero_is = record { least = omega (arith, ints); most = omega (arith, ints) }

pub number_is : (z : ℤ) → IsNumber z → IsValue z
number_is z h = record { least = (let g = h.no_sign in omega (arith, ints, g)); most = h.bounded }

truth_is : (b : Bool) → IsValue (truth b)
truth_is true = record { least = omega (arith, ints); most = omega (arith, ints) }
truth_is false = zero_is

-- between two values
pub between : (a z b : ℤ) → IsValue a → IsValue b → a ≤ℤ z → z ≤ℤ b → IsValue z
between a z b low high h g = record {
  least = (let l = low.least in omega (arith, ints, l, h));
  most =
      (let m = high.most in omega (arith, ints, m, g));
}

-- ---- results

abbrev pub IsSound : Value → Type 0
IsSound (Ok v) = IsValue v
IsSound (Err k) = Unit {0}

checked_sound : (z : ℤ) → IsSound (checked z)
checked_sound z = by (fits z) refl
  where
    by : (b : Bool) → fits z ≡ b → IsSound (if b then Ok z else Err overflow.Overflow)
    by true e = fits_is z e
    by false e = tt

remainder_is : (x d : ℤ) → IsValue d → is_nonzero d ≡ true → IsValue (floor_remainder x d)
remainder_is x d h some = by d h (floor_remainder x d) (remainder_is_within x d (λ e. nonzero e))
  where
    nonzero : d ≡ pos 0 → ⊥
    nonzero e = absurd (cc (some, ap is_nonzero e))

    by : (d : ℤ) → IsValue d → (r : ℤ) → IsRemainderFor d r → IsValue r
    by (pos n) h r w = record {
      least = (let a = w.0 in omega (arith, ints, a));
      most =
          (let a = w.1 in let b = h.most in omega (arith, ints, a, b));
    }
    by (negsuc n) h r w = record {
      least = (let a = w.0 in let b = h.least in omega (arith, ints, a, b));
      most =
          (let a = w.1 in omega (arith, ints, a));
    }

quotient_sound : (x d : ℤ) → IsSound (quotient x d)
quotient_sound x d = by (is_nonzero d)
  where
    by : (b : Bool) → IsSound (if b then checked (floor_quotient x d) else Err overflow.DivideByZero)
    by true = checked_sound (floor_quotient x d)
    by false = tt

remainder_sound : (x d : ℤ) → IsValue d → IsSound (remainder_of x d)
remainder_sound x d h = by (is_nonzero d) refl
  where
    by : (b : Bool) → is_nonzero d ≡ b → IsSound (if b then Ok (floor_remainder x d) else Err overflow.DivideByZero)
    by true e = remainder_is x d h e
    by false e = tt

pub operate_sound : (o : Binary) (x y : ℤ) → IsValue y → IsSound (operate o x y)
operate_sound Or x y h = truth_is (is_nonzero x || is_nonzero y)
operate_sound And x y h = truth_is (is_nonzero x && is_nonzero y)
operate_sound Equal x y h = truth_is (is_equal x y)
operate_sound Unequal x y h = truth_is (not (is_equal x y))
operate_sound Less x y h = truth_is (int_lt x y)
operate_sound AtMost x y h = truth_is (int_le x y)
operate_sound Greater x y h = truth_is (int_lt y x)
operate_sound AtLeast x y h = truth_is (int_le y x)
operate_sound Add x y h = checked_sound (x +ℤ y)
operate_sound Subtract x y h = checked_sound (x -ℤ y)
operate_sound Multiply x y h = checked_sound (x *ℤ y)
operate_sound Divide x y h = quotient_sound x y
operate_sound Remainder x y h = remainder_sound x y h

pub before_sound : (o : Prefix) (x : ℤ) → IsSound (operate_before o x)
before_sound Negate x = checked_sound (neg_ℤ x)
before_sound Not x = truth_is (not (is_nonzero x))

-- ---- lists of values

pub value_at : (xs : List ℤ) (i : ℕ) → AreValues xs → IsValue (slice_index_or xs i (pos 0))
value_at [] i h = zero_is
value_at (x ∷ xs) zero h = h.0
value_at (x ∷ xs) (suc i) h = value_at xs i h.1

pub all_set : {A : Type 0} (P : A → Type 0) (xs : List A) (i : ℕ) (x : A) → AllByRecursion P xs → P x → AllByRecursion P (slice_set xs i x)
all_set P [] i x h g = tt
all_set P (y ∷ xs) zero x h g = (g, h.1)
all_set P (y ∷ xs) (suc i) x h g = (h.0, all_set P xs i x h.1 g)

pub all_append : {A : Type 0} (P : A → Type 0) (xs ys : List A) → AllByRecursion P xs → AllByRecursion P ys → AllByRecursion P (xs ++ ys)
all_append P [] ys h g = g
all_append P (x ∷ xs) ys h g = (h.0, all_append P xs ys h.1 g)

pub zeros_are : (n : ℕ) → AreValues (replicate n (pos 0))
zeros_are zero = tt
zeros_are (suc n) = (zero_is, zeros_are n)

-- ---- write rules

abbrev pub WritesValue : Write → Type 0
WritesValue w = IsValue w.value

common_sound : (x : ℤ) (ws : List Write) → IsValue x → IsSound (common_value x ws)
common_sound x [] h = h
common_sound x (w ∷ ws) h = by (is_equal x w.value) (common_sound x ws h)
  where
    by : (b : Bool) → IsSound (common_value x ws) → IsSound (if b then common_value x ws else Err overflow.WriteConflict)
    by true g = g
    by false g = tt

least_sound : (w : Write) (ws : List Write) → WritesValue w → AllByRecursion WritesValue ws → IsValue (least_writer w ws).value
least_sound w [] h g = h
least_sound w (v ∷ vs) h g = by (int_le w.processor v.processor) (least_sound w vs h g.1) (least_sound v vs g.0 g.1)
  where
    by : (b : Bool) → IsValue (least_writer w vs).value → IsValue (least_writer v vs).value →
        IsValue (if b then least_writer w vs else least_writer v vs).value
    by true a c = a
    by false a c = c

only_sound : (w : Write) (ws : List Write) → WritesValue w → IsSound (only_value w ws)
only_sound w [] h = h
only_sound w (v ∷ vs) h = tt

rule_sound : (rule : Rule) (w : Write) (ws : List Write) → WritesValue w → AllByRecursion WritesValue ws → IsSound (rule_value rule w ws)
rule_sound Erew w ws h g = only_sound w ws h
rule_sound Crew w ws h g = only_sound w ws h
rule_sound Common w ws h g = common_sound w.value ws h
rule_sound Priority w ws h g = least_sound w ws h g
rule_sound Sum w ws h g = checked_sound (sum_of (w ∷ ws))

pub written_sound : (rule : Rule) (old : ℤ) (ws : List Write) → IsValue old → AllByRecursion WritesValue ws → IsSound (written rule old ws)
written_sound rule old [] h g = h
written_sound rule old (w ∷ ws) h g = rule_sound rule w ws g.0 g.1

-- ---- ranges

-- the numbers from a on, k of them, are values
abbrev pub AreNumbers : ℤ → ℕ → Type 0
AreNumbers a k = (j : ℕ) → j < k → IsValue (a +ℤ pos j)

pub width_values : (a b : ℤ) → IsValue a → IsValue b → AreNumbers a (width a b)
width_values a b low high j below = by (int_le a b) refl (subst (λ n. j < n) refl below)
  where
    by : (t : Bool) → int_le a b ≡ t → j < (if t then nat_abs (b -ℤ a) + 1 else 0) → IsValue (a +ℤ pos j)
    by true e h = between a (a +ℤ pos j) b low high (omega (arith, ints)) (grind (arith, ints, e, h))
    by false e h = absurd (omega (arith, h))

pub numbers_first : (a : ℤ) (k : ℕ) → AreNumbers a (suc k) → IsValue a
numbers_first a k h = let e : a +ℤ pos 0 ≡ a = omega (arith, ints) in subst IsValue e (h 0 (omega arith))

pub numbers_rest : (a : ℤ) (k : ℕ) → AreNumbers a (suc k) → AreNumbers (a +ℤ pos 1) k
numbers_rest a k h j below = let e : a +ℤ pos (j + 1) ≡ (a +ℤ pos 1) +ℤ pos j = omega (arith, ints) in subst IsValue e
    (h (j + 1) (omega (arith, below)))
