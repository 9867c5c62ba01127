-- Truth values and optional values, as many proofs take them apart.
use Rattle.std.proofs.Common.{◌≡◌, ◌⊎◌, inl, inr, Bool, true, false, ◌&&◌, ◌||◌, Some, refl}

-- a conjunction has both its parts
pub both : (a b : Bool) → (a && b) ≡ true → (a ≡ true) × (b ≡ true)
both true b h = (refl, h)
both false b h = cc

-- a disjunction has its second part
pub or_second : (a b : Bool) → b ≡ true → (a || b) ≡ true
or_second true b h = refl
or_second false b h = h

-- a truth value is one of two
pub either : (b : Bool) → (b ≡ true) ⊎ (b ≡ false)
either true = inl refl
either false = inr refl

-- what is there is one thing
pub unsome : {A : Type 0} (x y : A) → Some x ≡ Some y → x ≡ y
unsome x y h = cc
