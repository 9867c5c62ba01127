-- What is known of the operands where it is known whether the result is true.
use Rattle.std.proofs.Common.{◌≡◌, ℤ, pos, zero, suc, negsuc, neg_ℤ, Bool, true, false, not, ◌&&◌, ◌||◌, Ok, Err, refl, ap, sym, ◌∙◌}
use Rattle.std.proofs.Common.{arith, if◌then◌else◌}
use Rattle.std.proofs.lemmas.Int.{ints}
use Rattle.pram_values.specs.declared.kind.Kind.TheVariants.{Overflow}
use Rattle.pram_values.specs.Value.{Value, checked, fits}
use Rattle.pram_values.specs.Truth.{truth, is_nonzero, is_equal}
use Rattle.pram_tokens.specs.declared.token.Binary.TheVariants.{And, Or}
use Rattle.pram_trees.specs.declared.tree.Prefix.TheVariants.{Negate, Not}
use Rattle.pram_meaning.specs.Operation.{operate_before}
use Rattle.abstract_runs.specs.Tests.{Splits}

-- ---- connectives

both_true : (a b : Bool) (z : ℤ) → truth (a && b) ≡ z → is_nonzero z ≡ true → (a ≡ true) × (b ≡ true)
both_true true true z e g = (refl, refl)
both_true true false z e g = absurd (cc (ap is_nonzero e ∙ g))
both_true false b z e g = absurd (cc (ap is_nonzero e ∙ g))

both_false : (a b : Bool) (z : ℤ) → truth (a || b) ≡ z → is_nonzero z ≡ false → (a ≡ false) × (b ≡ false)
both_false false false z e g = (refl, refl)
both_false false true z e g = absurd (cc (ap is_nonzero e ∙ g))
both_false true b z e g = absurd (cc (ap is_nonzero e ∙ g))

pub and_splits : Splits And true
and_splits x y z e g = let same : truth (is_nonzero x && is_nonzero y) ≡ z = cc e in both_true (is_nonzero x) (is_nonzero y) z same g

pub or_splits : Splits Or false
or_splits x y z e g = let same : truth (is_nonzero x || is_nonzero y) ≡ z = cc e in both_false (is_nonzero x) (is_nonzero y) z same g

-- ---- operators before an operand

pub checked_as : (v z : ℤ) → checked v ≡ Ok z → v ≡ z
checked_as v z = by (fits v)
  where
    by : (b : Bool) → (if b then Ok v else Err Overflow) ≡ Ok z → v ≡ z
    by true e = cc e
    by false e = absurd (cc e)

negated : (x : ℤ) → is_nonzero (neg_ℤ x) ≡ is_nonzero x
negated (pos zero) = refl
negated (pos (suc n)) = refl
negated (negsuc n) = refl

pub negate_goes : (x z : ℤ) (way : Bool) → operate_before Negate x ≡ Ok z → is_nonzero z ≡ way → is_nonzero x ≡ way
negate_goes x z way e g = sym (negated x) ∙ ap is_nonzero (checked_as (neg_ℤ x) z e) ∙ g

turned : (a way : Bool) (z : ℤ) → truth (not a) ≡ z → is_nonzero z ≡ way → a ≡ not way
turned true true z e g = absurd (cc (ap is_nonzero e ∙ g))
turned true false z e g = refl
turned false true z e g = refl
turned false false z e g = absurd (cc (ap is_nonzero e ∙ g))

pub not_goes : (x z : ℤ) (way : Bool) → operate_before Not x ≡ Ok z → is_nonzero z ≡ way → is_nonzero x ≡ not way
not_goes x z way e g = let same : truth (not (is_nonzero x)) ≡ z = cc e in turned (is_nonzero x) way z same g

-- ---- comparisons with 0

pub unequal_to_zero : (z y : ℤ) → is_nonzero z ≡ true → y ≡ pos 0 → not (is_equal z y) ≡ true
unequal_to_zero (pos zero) y g e = absurd (cc g)
unequal_to_zero (pos (suc n)) y g e = grind (arith, ints, e)
unequal_to_zero (negsuc n) y g e = grind (arith, ints, e)

pub equal_to_zero : (z y : ℤ) → is_nonzero z ≡ false → y ≡ pos 0 → is_equal z y ≡ true
equal_to_zero (pos zero) y g e = grind (arith, ints, e)
equal_to_zero (pos (suc n)) y g e = absurd (cc g)
equal_to_zero (negsuc n) y g e = absurd (cc g)

-- ---- a comparison

pub truth_goes : (v : Value) (b way : Bool) (z : ℤ) → v ≡ Ok (truth b) → v ≡ Ok z → is_nonzero z ≡ way → b ≡ way
truth_goes v true way z e f g = let same : pos 1 ≡ z = cc (sym e ∙ f) in ap is_nonzero same ∙ g
truth_goes v false way z e f g = let same : pos 0 ≡ z = cc (sym e ∙ f) in ap is_nonzero same ∙ g
