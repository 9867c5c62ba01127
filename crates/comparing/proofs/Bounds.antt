-- How far the second program is run.
use Rattle.std.proofs.Common.{◌≡◌, ◌∙◌, ℕ, Bool, true, false, Option, None, ap, refl}
use Rattle.std.specs.Prelude.{if◌then◌else◌}
use Rattle.comparing.specs.declared.compared.Limits.{Limits}
use Rattle.comparing.specs.Differences.{at_most, second_bound}

either_way : (b : Bool) (n : ℕ) → (if b then n else n) ≡ n
either_way true n = refl
either_way false n = refl

-- without a limit of time as far as the first
pub no_limit : (l : Limits) (n : ℕ) → l.time ≡ None → second_bound l n ≡ n
no_limit l n none =
    ap (λ (t : Option ℕ). if l.stops then at_most n t else n) none ∙ either_way l.stops n
