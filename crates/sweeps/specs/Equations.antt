-- Equations for the coefficients of a formula. An equation has seven entries: those of the coefficients of 1, log n, n, n log n, n^2 and
-- n^3, and its number. Numbers for the coefficients solve it where the sum of the entries, each times its coefficient, and the last times
-- -1, is 0.
use Rattle.std.specs.Prelude.{ℕ, zero, suc, ◌+◌, ◌*◌, ◌<◌, ◌==◌, if◌then◌else◌, [], ℤ, pos, negsuc, neg_ℤ, ◌+ℤ◌, ◌*ℤ◌}
use Rattle.std.specs.Prelude.{slice_index_or}
use Rattle.sweeps.specs.declared.equation.Equation.{Equation}
use Rattle.sweeps.specs.declared.wide.Wide.{Wide}
use Rattle.sweeps.specs.declared.formula.Formula.{Formula}
use Rattle.sweeps.specs.Wides.{IsWithin, integer}

abbrev pub Vector : Type 0
Vector = ℕ → ℤ

-- the sum of the first n products
abbrev pub dot : ℕ → Vector → Vector → ℤ
dot zero x z = pos 0
dot (suc n) x z = dot n x z +ℤ (x n *ℤ z n)

-- the entries of the row of a size with that logarithm and that number
abbrev pub row_entry : (n log number : ℕ) → Vector
row_entry n log number zero = pos 1
row_entry n log number (suc zero) = pos log
row_entry n log number (suc (suc zero)) = pos n
row_entry n log number (suc (suc (suc zero))) = pos (n * log)
row_entry n log number (suc (suc (suc (suc zero)))) = pos (n * n)
row_entry n log number (suc (suc (suc (suc (suc zero))))) = pos (n * n * n)
row_entry n log number (suc (suc (suc (suc (suc (suc i)))))) = pos number

-- the numbers of a formula
abbrev pub vector : Formula → Vector
vector f zero = f.constant
vector f (suc zero) = f.logarithm
vector f (suc (suc zero)) = f.linear
vector f (suc (suc (suc zero))) = f.linearithmic
vector f (suc (suc (suc (suc zero)))) = f.square
vector f (suc (suc (suc (suc (suc zero))))) = f.cube
vector f (suc (suc (suc (suc (suc (suc i)))))) = negsuc 0

abbrev pub none : Wide
none = record { plus = record { digits = [] }; minus = record { digits = [] } }

-- the entry of a column
abbrev pub entry_at : Equation → ℕ → Wide
entry_at e i = slice_index_or e.entries i none

unfoldable pub entry : Equation → Vector
entry e i = integer (entry_at e i)

-- how many bits the entry of a column has at most, once that many columns are eliminated
abbrev pub first_bits : ℕ → ℕ
first_bits zero = 1
first_bits (suc zero) = 6
first_bits (suc (suc zero)) = 64
first_bits (suc (suc (suc zero))) = 70
first_bits (suc (suc (suc (suc zero)))) = 128
first_bits (suc (suc (suc (suc (suc zero))))) = 192
first_bits (suc (suc (suc (suc (suc (suc i)))))) = 128

abbrev pub bits : ℕ → ℕ → ℕ
bits zero i = first_bits i
bits (suc k) i = bits k k + bits k i + 2

abbrev pub IsBounded : ℕ → Equation → Type 0
IsBounded k e = (i : ℕ) → i < 7 → IsWithin (bits k i) (entry_at e i)

-- one column alone
abbrev pub unit_entry : ℕ → Vector
unit_entry column i = if i == column then pos 1 else pos 0

-- without a column, by an equation that has it
abbrev pub crossed : (column : ℕ) → (mine pivot : Vector) → Vector
crossed column mine pivot i = (pivot column *ℤ mine i) +ℤ neg_ℤ (mine column *ℤ pivot i)
