-- Runs whose input was compared with the cells.
use Rattle.std.proofs.Common.{◌≡◌, ◌≤◌, ◌<◌, ℕ, subst}

pub fits_by : (values cells n m : ℕ) → values ≡ n → cells ≡ m → values ≤ cells → n ≤ m
fits_by values cells n m v c few = subst (λ n. n ≤ m) v (subst (λ m. values ≤ m) c few)

pub too_long_by : (values cells n m : ℕ) → values ≡ n → cells ≡ m → cells < values → m < n
too_long_by values cells n m v c long = subst (λ n. m < n) v (subst (λ m. m < values) c long)
