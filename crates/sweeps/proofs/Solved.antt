-- Formulas as solutions of equations that begin one by one.
use Rattle.std.proofs.Common.{◌≡◌, ◌≢◌, ◌⊎◌, inl, inr, ℕ, zero, suc, ◌+◌, ◌*◌, ◌-◌, ◌<◌, ◌≤◌, List, All, ℤ, pos, neg_ℤ, ◌+ℤ◌, ◌*ℤ◌}
use Rattle.std.proofs.Common.{refl, sym, ap, ◌∙◌, arith, subst, Option, FitsSigned, Bool, true, false, ◌==◌}
use Rattle.std.specs.Prelude.{MatchOption, if◌then◌else◌}
use Rattle.std.specs.Int.{w128}
use Rattle.std.proofs.lemmas.Int.{ints}
use Rattle.std.proofs.lemmas.Bool.{cases_eq, cases_lt}
use Rattle.std.proofs.lemmas.Bool.Decides.{nat_tests}
use Rattle.std.proofs.Math.Nat.{pow-le-pow_right}
use Rattle.sweeps.specs.declared.equation.Equation.{Equation}
use Rattle.sweeps.specs.declared.formula.Formula.{Formula}
use Rattle.sweeps.specs.declared.row.Row.{Row}
use Rattle.sweeps.specs.declared.term.Term.TheVariants.{Constant, Logarithm, Linear, Linearithmic, Square, Cube}
use Rattle.sweeps.specs.Echelons.{BeginsAt, IsEchelon, SolveFirst, Solves, pivot}
use Rattle.sweeps.specs.Equations.{IsBounded, Vector, bits, dot, entry, entry_at, row_entry, unit_entry, vector}
use Rattle.sweeps.specs.Formulas.{value}
use Rattle.sweeps.specs.Solutions.{HasSmall, column_at}
use Rattle.sweeps.specs.Tables.{Fits}
use Rattle.sweeps.specs.Wides.{IsWithin}
use Rattle.sweeps.proofs.Dependence.{combined, dot_combined, dot_unit, unit_here, unit_there}
use Rattle.sweeps.proofs.Eliminations.{times_nothing}
use Rattle.sweeps.proofs.Ring.{mul_comm, same_factor}
use Rattle.sweeps.proofs.Sizes.{below_6, bits_small}

pub within_842 : (k : ℕ) (e : Equation) → k < 6 → IsBounded k e → (i : ℕ) → i < 7 → IsWithin 842 (entry_at e i)
within_842 k e within is i less =
    let w = is i less in
    let h = pow-le-pow_right {n = 2} (omega arith) {i = bits k i} {j = 842} (bits_small k within i less) in
    let p = w.plus in
    let m = w.minus in
    record { plus = omega (arith, p, h); minus = omega (arith, m, h) }

-- a quotient of equal integers
pub same_quotient : (d e r s : ℤ) → d ≡ e → r ≡ s → (o : Option ℤ) →
    MatchOption o ((x : ℤ) → FitsSigned w128 x → d *ℤ x ≢ r) (λ x. d *ℤ x ≡ r) →
    MatchOption o ((x : ℤ) → FitsSigned w128 x → e *ℤ x ≢ s) (λ x. e *ℤ x ≡ s)
same_quotient d e r s de rs o is =
    subst (λ t. MatchOption o ((x : ℤ) → FitsSigned w128 x → e *ℤ x ≢ t) (λ x. e *ℤ x ≡ t)) rs
    (subst (λ t. MatchOption o ((x : ℤ) → FitsSigned w128 x → t *ℤ x ≢ r) (λ x. t *ℤ x ≡ r)) de is)

dot_alike : (n : ℕ) (x z w : Vector) → ((i : ℕ) → i < n → (x i ≡ pos 0) ⊎ (z i ≡ w i)) → dot n x z ≡ dot n x w
dot_alike zero x z w each = refl
dot_alike (suc n) x z w each =
    let before = dot_alike n x z w (λ i less. each i (omega (arith, less))) in
    let now = by (each n (omega arith)) in omega (arith, ints, before, now)
  where
    by : (x n ≡ pos 0) ⊎ (z n ≡ w n) → x n *ℤ z n ≡ x n *ℤ w n
    by (inl none) =
        let a = mul_comm (x n) (z n) ∙ times_nothing (z n) (x n) none in
        let b = mul_comm (x n) (w n) ∙ times_nothing (w n) (x n) none in a ∙ sym b
    by (inr same) = ap (λ t. x n *ℤ t) same

-- the sum where the numbers behind a column are known
pub known_sum : (e : Equation) (column : ℕ) (z g : Vector) → BeginsAt column e → column < 6 →
    ((i : ℕ) → i < 7 → column < i → z i ≡ g i) → z column ≡ pos 0 →
    dot 7 (entry e) g ≡ dot 7 (entry e) z +ℤ (entry e column *ℤ g column)
known_sum e column z g begins within behind here =
    let w = combined (pos 1) (g column) z (unit_entry column) in
    let alike = dot_alike 7 (entry e) g w (λ i less. by i less (cases_lt column i) (cases_eq i column)) in
    let parts = dot_combined 7 (entry e) z (unit_entry column) (pos 1) (g column) in
    let unit = ap (λ t. g column *ℤ t) (dot_unit (entry e) column (omega (arith, within))) in
    let turn = mul_comm (g column) (entry e column) in
    omega (arith, ints, alike, parts, unit, turn)
  where
    by : (i : ℕ) → i < 7 → (column < i) ⊎ (i ≤ column) → (i ≡ column) ⊎ (i ≡ column → ⊥) →
        (entry e i ≡ pos 0) ⊎ (g i ≡ combined (pos 1) (g column) z (unit_entry column) i)
    by i less (inl high) same =
        let b = behind i less high in
        let u = times_nothing (g column) (unit_entry column i) (unit_there i column (λ k. absurd (omega (arith, k, high)))) in
        inr (omega (arith, ints, b, u))
    by i less (inr low) (inl same) =
        let u = ap (λ t. g column *ℤ t) (ap (unit_entry column) same ∙ unit_here column) in
        let z0 = ap z same ∙ here in
        let gi = ap g same in
        inr (omega (arith, ints, u, z0, gi))
    by i less (inr low) (inr differ) = inl (begins.zeros i (omega (arith, low, differ)))

pub small_at : (g : Formula) → HasSmall g → (i : ℕ) → i < 6 → FitsSigned w128 (vector g i)
small_at g small =
    below_6 (λ i. FitsSigned w128 (vector g i)) (small Constant) (small Logarithm) (small Linear) (small Linearithmic) (small Square)
    (small Cube)

pub same_formula : (f g : Formula) → ((i : ℕ) → i < 6 → vector f i ≡ vector g i) → f ≡ g
same_formula f g same =
    let a : f.constant ≡ g.constant = same 0 (omega arith) in
    let b : f.logarithm ≡ g.logarithm = same 1 (omega arith) in
    let c : f.linear ≡ g.linear = same 2 (omega arith) in
    let d : f.linearithmic ≡ g.linearithmic = same 3 (omega arith) in
    let e : f.square ≡ g.square = same 4 (omega arith) in
    let h : f.cube ≡ g.cube = same 5 (omega arith) in
    ap (λ x. record f { constant = x }) a
    ∙ ap (λ x. record f { constant = g.constant; logarithm = x }) b
    ∙ ap (λ x. record f { constant = g.constant; logarithm = g.logarithm; linear = x }) c
    ∙ ap (λ x. record f { constant = g.constant; logarithm = g.logarithm; linear = g.linear; linearithmic = x }) d
    ∙ ap (λ x. record g { square = x; cube = f.cube }) e
    ∙ ap (λ x. record g { cube = x }) h

-- ---- one more coefficient

-- what is known before column 5 - step
pub record IsKnown (ps : List Equation) (known : Formula) (step : ℕ) : Type 0 where
  pub found : (g : Formula) → SolveFirst ps 6 (vector g) → (i : ℕ) → i < 6 → 6 ≤ i + step → vector known i ≡ vector g i
  pub left : (i : ℕ) → i < 6 → i + step < 6 → vector known i ≡ pos 0

module _ (ps : List Equation) (known : Formula) (step : ℕ) (within : step < 6) (echelon : IsEchelon ps 6) (is : IsKnown ps known step) where
  column_below : 5 - step < 6
  column_below = omega arith

  pub solves : (g : Formula) → SolveFirst ps 6 (vector g) →
      entry (pivot ps (5 - step)) (5 - step) *ℤ vector g (5 - step) ≡ neg_ℤ (dot 7 (entry (pivot ps (5 - step))) (vector known))
  solves g all =
      let sum = known_sum (pivot ps (5 - step)) (5 - step) (vector known) (vector g) (echelon (5 - step) column_below) column_below
      (λ i less high. by i less high (cases_eq i 6)) (is.left (5 - step) column_below (omega (arith, within))) in
      let none = all (5 - step) column_below in
      omega (arith, ints, sum, none)
    where
      by : (i : ℕ) → i < 7 → 5 - step < i → (i ≡ 6) ⊎ (i ≡ 6 → ⊥) → vector known i ≡ vector g i
      by i less high (inl last) = subst (λ n. vector known n ≡ vector g n) (sym last) refl
      by i less high (inr differ) = is.found g all i (omega (arith, less, differ)) (omega (arith, high, within))

  pub next_known : (to : Formula) (x : ℤ) →
      entry (pivot ps (5 - step)) (5 - step) *ℤ x ≡ neg_ℤ (dot 7 (entry (pivot ps (5 - step))) (vector known)) →
      ((i : ℕ) → i < 7 → vector to i ≡ column_at known (5 - step) x i) → IsKnown ps to (step + 1)
  next_known to x solved put = record {
    found = λ g all i less from. put i (omega (arith, less)) ∙ by g all i less from (i == 5 - step) refl;
    left = λ i less below. put i (omega (arith, less)) ∙ rest i less below (i == 5 - step) refl;
  }
    where
      by : (g : Formula) → SolveFirst ps 6 (vector g) → (i : ℕ) → i < 6 → 6 ≤ i + (step + 1) → (t : Bool) → t ≡ (i == 5 - step) →
          (if t then x else vector known i) ≡ vector g i
      by g all i less from true same =
          let here : i ≡ 5 - step = grind (arith, nat_tests) in
          let e = same_factor (entry (pivot ps (5 - step)) (5 - step)) x (vector g (5 - step)) (solved ∙ sym (solves g all))
          (echelon (5 - step) column_below).some in
          e ∙ ap (vector g) (sym here)
      by g all i less from false same =
          let there : i ≢ 5 - step = grind (arith, nat_tests) in
          is.found g all i less (omega (arith, there, from, within))

      rest : (i : ℕ) → i < 6 → i + (step + 1) < 6 → (t : Bool) → t ≡ (i == 5 - step) → (if t then x else vector known i) ≡ pos 0
      rest i less below true same =
          let here : i ≡ 5 - step = grind (arith, nat_tests) in absurd (omega (arith, here, below))
      rest i less below false same = is.left i less (omega (arith, below))

-- ---- formulas that fit

row_value : (f : Formula) (n log v : ℕ) → pos v ≡ value f n log → dot 7 (row_entry n log v) (vector f) ≡ pos 0
row_value f n log v is =
    let a = mul_comm (pos log) f.logarithm in
    let b = mul_comm (pos n) f.linear in
    let c = mul_comm (pos (n * log)) f.linearithmic in
    let d = mul_comm (pos (n * n)) f.square in
    let e = mul_comm (pos (n * n * n)) f.cube in
    omega (arith, ints, is, a, b, c, d, e)

pub fits_solves : (f : Formula) (table : List Row) → Fits f table → All (Solves (vector f)) table
fits_solves f table fits k d less =
    let v = fits k d less in
    record { log = v.log; is_log = v.is_log; is = row_value f _ v.log _ v.is }
