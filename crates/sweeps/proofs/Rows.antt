-- The value of a formula at a row, as an equation.
use Rattle.std.proofs.Common.{◌≡◌, ◌↔◌, ◌⊎◌, inl, inr, ℕ, zero, suc, ◌*◌, ◌^◌, ◌<◌, ◌≤◌, pos, Bool, IsTrue, ◌∙◌, arith}
use Rattle.std.proofs.lemmas.Int.{ints}
use Rattle.std.proofs.lemmas.Bool.{cases_lt}
use Rattle.std.proofs.Math.Nat.{pow-succ'}
use Rattle.sweeps.specs.declared.equation.Equation.{Equation}
use Rattle.sweeps.specs.declared.formula.Formula.{Formula}
use Rattle.sweeps.specs.declared.row.Row.{Row}
use Rattle.sweeps.specs.declared.wide.Wide.{Wide}
use Rattle.sweeps.specs.Equations.{Vector, dot, entry, row_entry, vector}
use Rattle.sweeps.specs.Formulas.{HasValue, IsLog, IsLogFor, IsValue, value}
use Rattle.sweeps.specs.Naturals.{number}
use Rattle.sweeps.specs.Wides.{integer}
use Rattle.sweeps.proofs.Linear.{dot_vectors}
use Rattle.sweeps.proofs.Ring.{mul_comm}

-- each number but 0 has a logarithm
pub has_log : (n : ℕ) → 0 < n → (log : ℕ) × IsLog n log
has_log zero some = absurd (omega (arith, some))
has_log (suc zero) some = (0, record { reached = omega arith; next = omega arith })
has_log (suc (suc n)) some =
    let h = has_log (suc n) (omega arith) in by h.0 h.1 (cases_lt (suc (suc n)) (2 * 2 ^ h.0))
  where
    by : (log : ℕ) → IsLog (suc n) log → (suc (suc n) < 2 * 2 ^ log) ⊎ (2 * 2 ^ log ≤ suc (suc n)) → (log : ℕ) × IsLog (suc (suc n)) log
    by log is (inl less) = let r = is.reached in (log, record { reached = omega (arith, r); next = less })
    by log is (inr more) =
        let p = pow-succ' 2 log in
        let x = is.next in
        (suc log, record { reached = omega (arith, p, more); next = omega (arith, p, x) })

-- a formula is something at each size but 0, and at 0 where it has no term with a logarithm
pub has_value : (f : Formula) (n : ℕ) → (0 < n) ⊎ ((f.logarithm ≡ pos 0) × (f.linearithmic ≡ pos 0)) → HasValue f n
has_value f n (inl some) = let h = has_log n some in (h.0, inl h.1)
has_value f n (inr none) = (0, inr none)

row_is : (f : Formula) (n log v : ℕ) → (dot 7 (row_entry n log v) (vector f) ≡ pos 0) ↔ (pos v ≡ value f n log)
row_is f n log v =
    let a = mul_comm (pos log) f.logarithm in
    let b = mul_comm (pos n) f.linear in
    let c = mul_comm (pos (n * log)) f.linearithmic in
    let d = mul_comm (pos (n * n)) f.square in
    let e = mul_comm (pos (n * n * n)) f.cube in
    (λ is. omega (arith, ints, is, a, b, c, d, e), λ is. omega (arith, ints, is, a, b, c, d, e))

pub gives_is : (f : Formula) (row : Row) (x y : Equation) (sum : Wide) (r : Bool) → HasValue f row.size →
    ((z : Vector) (log : ℕ) → IsLogFor (z 1) (z 3) row.size log → dot 7 (entry x) z ≡ dot 7 (row_entry row.size log row.number) z) →
    ((i : ℕ) → i < 7 → entry y i ≡ vector f i) → integer sum ≡ dot 7 (entry x) (entry y) →
    IsTrue r ↔ (number sum.plus ≡ number sum.minus) → IsTrue r ↔ IsValue f row.size (pos row.number)
gives_is f row x y sum r l of_row of_formula is tested = (
  λ so.
      let h = tested.0 so in
      let w = whole l.0 l.1 in
      let z : dot 7 (row_entry row.size l.0 row.number) (vector f) ≡ pos 0 = omega (arith, ints, w, h) in
      record { log = l.0; is_log = l.1; is = (row_is f row.size l.0 row.number).0 z },
  λ v.
      let w = whole v.log v.is_log in
      let z = (row_is f row.size v.log row.number).1 v.is in
      tested.1 (omega (arith, ints, w, z)),
)
  where
    whole : (log : ℕ) → IsLogFor f.logarithm f.linearithmic row.size log → integer sum ≡ dot 7 (row_entry row.size log row.number) (vector f)
    whole log is_log =
        is ∙ dot_vectors 7 (entry x) (entry y) (vector f) of_formula ∙ of_row (vector f) log is_log
