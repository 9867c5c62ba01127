-- A step that went on.
use Rattle.std.proofs.Common.{◌≡◌, Result, Ok, Err, refl}
use Rattle.sized_texts.specs.Reading.{◌>>=◌}

pub bind_ok : {A B E : Type 0} (r : Result A E) (f : A → Result B E) (x : B) → (r >>= f) ≡ Ok x → (y : A) × (r ≡ Ok y) × (f y ≡ Ok x)
bind_ok (Ok y) f x is = (y, refl, is)
bind_ok (Err w) f x is = absurd (cc)
