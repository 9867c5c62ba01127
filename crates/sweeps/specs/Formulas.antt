-- Formulas in the size n: their values and their terms.
use Rattle.std.specs.Prelude.{◌≡◌, ◌⊎◌, ◌+◌, ◌*◌, ◌^◌, ◌≤◌, ◌<◌, ◌==◌, ℕ, ℤ, pos, ◌+ℤ◌, ◌*ℤ◌, if◌then◌else◌, unsigned_abs}
use Rattle.sweeps.specs.declared.formula.Formula.{Formula}
use Rattle.sweeps.specs.declared.term.Term.{Term}
use Rattle.sweeps.specs.declared.term.Term.TheVariants.{Constant, Logarithm, Linear, Linearithmic, Square, Cube}

-- log is the logarithm of n to base 2, rounded down
pub record IsLog (n log : ℕ) : Type 0 where
  pub reached : 2 ^ log ≤ n
  pub next : n < 2 * 2 ^ log

-- log is the logarithm of n, or the terms log n and n log n, which have these coefficients, are left out: 0 has no logarithm
abbrev pub IsLogFor : (logarithm linearithmic : ℤ) → (n log : ℕ) → Type 0
IsLogFor logarithm linearithmic n log = IsLog n log ⊎ ((logarithm ≡ pos 0) × (linearithmic ≡ pos 0))

-- what the formula comes to where log n is log
abbrev pub value : Formula → (n log : ℕ) → ℤ
value f n log =
    (f.cube *ℤ pos (n * n * n)) +ℤ ((f.square *ℤ pos (n * n))
    +ℤ ((f.linearithmic *ℤ pos (n * log)) +ℤ ((f.linear *ℤ pos n) +ℤ ((f.logarithm *ℤ pos log) +ℤ f.constant))))

-- the formula is v at n
pub record IsValue (f : Formula) (n : ℕ) (v : ℤ) : Type 0 where
  pub log : ℕ
  pub is_log : IsLogFor f.logarithm f.linearithmic n log
  pub is : v ≡ value f n log

-- the formula is something at n
abbrev pub HasValue : Formula → (n : ℕ) → Type 0
HasValue f n = (log : ℕ) × IsLogFor f.logarithm f.linearithmic n log

abbrev pub coefficient : Formula → Term → ℤ
coefficient f Constant = f.constant
coefficient f Logarithm = f.logarithm
coefficient f Linear = f.linear
coefficient f Linearithmic = f.linearithmic
coefficient f Square = f.square
coefficient f Cube = f.cube

abbrev pub counted : ℤ → ℕ
counted c = if unsigned_abs c == 0 then 0 else 1

-- how many terms have a coefficient other than 0
abbrev pub term_count : Formula → ℕ
term_count f = counted f.constant + counted f.logarithm + counted f.linear + counted f.linearithmic + counted f.square + counted f.cube
