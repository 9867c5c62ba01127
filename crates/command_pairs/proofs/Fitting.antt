-- Inputs that are not too long.
use Rattle.std.proofs.Common.{◌≡◌, Option, Some, None, refl}
use Rattle.std.specs.Prelude.{◌↔◌, Err, Ok, Result}
use Rattle.comparing.specs.declared.comparison.Comparison.{Comparison}
use Rattle.comparing.specs.declared.refusal.ComparisonRefusal.{ComparisonRefusal}
use Rattle.comparing.specs.declared.refusal.ComparisonRefusal.TheVariants.{InputTooLong}
use Rattle.comparing.specs.declared.refusal.Side.{Side}

-- where both are compared, no program is told as one that has too few cells
pub none_told : (r : Result Comparison ComparisonRefusal) (f : Comparison) (told : Option Side) → r ≡ Ok f →
    ((side : Side) → (r ≡ Err (InputTooLong side)) ↔ (told ≡ Some side)) → told ≡ None
none_told r f None is h = refl
none_told r f (Some side) is h = let other = (h side).1 refl in absurd (cc (is, other))
