-- Eliminations keep what numbers solve.
use Rattle.std.proofs.Common.{◌≡◌, ◌↔◌, ◌⊎◌, inl, inr, ℕ, zero, suc, ◌+◌, ◌<◌, ◌≤◌, List, ℤ, pos, neg_ℤ, ◌+ℤ◌, ◌*ℤ◌}
use Rattle.std.proofs.Common.{refl, sym, ap, ◌∙◌, arith, subst, Bool, true, false, IsTrue, ◌==◌, rules}
use Rattle.std.specs.Prelude.{if◌then◌else◌}
use Rattle.std.proofs.lemmas.Bool.Decides.{nat_tests}
use Rattle.std.proofs.Math.Nat.{pow-le-pow_right}
use Rattle.sweeps.specs.declared.wide.Wide.{Wide}
use Rattle.sweeps.specs.Naturals.{number}
use Rattle.sweeps.specs.Wides.{IsWithin, integer}
use Rattle.sweeps.proofs.Sizes.{below_6}
use Rattle.std.proofs.lemmas.Int.{ints}
use Rattle.std.proofs.lemmas.Bool.{cases_eq, cases_lt}
use Rattle.sweeps.specs.declared.equation.Equation.{Equation}
use Rattle.sweeps.specs.declared.row.Row.{Row}
use Rattle.sweeps.specs.Echelons.{BeginsAt, MaySolve, SolveFirst, Solves}
use Rattle.sweeps.specs.Equations.{Vector, bits, crossed, dot, entry, entry_at, row_entry, unit_entry}
use Rattle.sweeps.specs.Formulas.{IsLogFor}
use Rattle.sweeps.proofs.Linear.{dot_crossed, dot_same}
use Rattle.sweeps.proofs.Ring.{mul_comm, no_factor}

pub times_nothing : (a b : ℤ) → b ≡ pos 0 → a *ℤ b ≡ pos 0
times_nothing a b is = ap (λ x. a *ℤ x) is ∙ (omega (arith, ints))

pub nothing_times : (a b : ℤ) → a ≡ pos 0 → a *ℤ b ≡ pos 0
nothing_times a b is = mul_comm a b ∙ times_nothing b a is

pub dot_nothing : (n : ℕ) (x z : Vector) → ((i : ℕ) → i < n → (x i ≡ pos 0) ⊎ (z i ≡ pos 0)) → dot n x z ≡ pos 0
dot_nothing zero x z each = refl
dot_nothing (suc n) x z each =
    let before = dot_nothing n x z (λ i less. each i (omega (arith, less))) in
    let now = by (each n (omega arith)) in
    omega (arith, ints, before, now)
  where
    by : (x n ≡ pos 0) ⊎ (z n ≡ pos 0) → x n *ℤ z n ≡ pos 0
    by (inl is) = nothing_times (x n) (z n) is
    by (inr is) = times_nothing (x n) (z n) is

-- what an equation is behind one step
module _ (e p to : Equation) (i : ℕ) (is : (k : ℕ) → k < 7 → entry to k ≡ crossed i (entry e) (entry p) k) (begins : BeginsAt i p)
    (within : i < 7) where
  pub next_zeros : ((k : ℕ) → k < i → entry e k ≡ pos 0) → (k : ℕ) → k < i + 1 → entry to k ≡ pos 0
  next_zeros before k less = is k (omega (arith, less, within)) ∙ by (cases_lt k i)
    where
      by : (k < i) ⊎ (i ≤ k) → crossed i (entry e) (entry p) k ≡ pos 0
      by (inl low) =
          let a = times_nothing (entry p i) (entry e k) (before k low) in
          let b = times_nothing (entry e i) (entry p k) (begins.zeros k low) in omega (arith, ints, a, b)
      by (inr high) =
          let same : k ≡ i = omega (arith, high, less) in
          let c = mul_comm (entry p i) (entry e i) in
          ap (λ n. (entry p i *ℤ entry e n) +ℤ neg_ℤ (entry e i *ℤ entry p n)) same ∙ (omega (arith, ints, c))

  pub next_same : (z : Vector) → dot 7 (entry p) z ≡ pos 0 → (dot 7 (entry e) z ≡ pos 0) ↔ (dot 7 (entry to) z ≡ pos 0)
  next_same z solves =
      let whole = dot_same 7 (entry to) (crossed i (entry e) (entry p)) z is ∙ dot_crossed 7 i (entry e) (entry p) z in
      let gone = times_nothing (entry e i) (dot 7 (entry p) z) solves in (
        λ yes. let a = times_nothing (entry p i) (dot 7 (entry e) z) yes in omega (arith, ints, whole, a, gone),
        λ yes. no_factor (entry p i) (dot 7 (entry e) z) (omega (arith, ints, whole, gone, yes)) begins.some,
      )

-- an equation with nothing up to a column is solved by numbers with nothing behind it
pub solved_before : (e : Equation) (column : ℕ) (z : Vector) → ((i : ℕ) → i < column → entry e i ≡ pos 0) → entry e column ≡ pos 0 →
    ((i : ℕ) → i < 7 → column < i → z i ≡ pos 0) → dot 7 (entry e) z ≡ pos 0
solved_before e column z zeros here behind = dot_nothing 7 (entry e) z (λ i less. by i less (cases_lt column i) (cases_eq i column))
  where
    by : (i : ℕ) → i < 7 → (column < i) ⊎ (i ≤ column) → (i ≡ column) ⊎ (i ≡ column → ⊥) → (entry e i ≡ pos 0) ⊎ (z i ≡ pos 0)
    by i less (inl high) same = inr (behind i less high)
    by i less (inr low) (inl same) = inl (ap (entry e) same ∙ here)
    by i less (inr low) (inr differ) = inl (zeros i (omega (arith, low, differ)))

-- the test of an entry
pub zero_entry : (e : Equation) (column : ℕ) (w : Wide) (r : Bool) → w ≡ entry_at e column →
    IsTrue r ↔ (number w.plus ≡ number w.minus) → IsTrue r ↔ (entry e column ≡ pos 0)
unfolding entry
zero_entry e column w r at is =
    subst (λ (x : Wide). IsTrue r ↔ (integer x ≡ pos 0)) at
    (λ yes. let h = is.0 yes in omega (arith, ints, h), λ yes. is.1 (omega (arith, ints, yes)))

-- the row of an equation that begins at a column
pub row_begins : (e left : Equation) (row : Row) (column : ℕ) (ps : List Equation) →
    ((z : Vector) (log : ℕ) → IsLogFor (z 1) (z 3) row.size log → dot 7 (entry e) z ≡ dot 7 (row_entry row.size log row.number) z) →
    ((z : Vector) → SolveFirst ps column z → (dot 7 (entry e) z ≡ pos 0) ↔ (dot 7 (entry left) z ≡ pos 0)) →
    (z : Vector) → SolveFirst ps column z → Solves z row → dot 7 (entry left) z ≡ pos 0
row_begins e left row column ps of_row same z first solves =
    (same z first).0 (of_row z solves.log solves.is_log ∙ solves.is)

-- a row whose equation begins behind the column
pub row_passed : (e left : Equation) (row : Row) (column : ℕ) (ps : List Equation) →
    ((z : Vector) (log : ℕ) → IsLogFor (z 1) (z 3) row.size log → dot 7 (entry e) z ≡ dot 7 (row_entry row.size log row.number) z) →
    ((z : Vector) → SolveFirst ps column z → (dot 7 (entry e) z ≡ pos 0) ↔ (dot 7 (entry left) z ≡ pos 0)) →
    ((i : ℕ) → i < column → entry left i ≡ pos 0) → entry left column ≡ pos 0 →
    (z : Vector) → SolveFirst ps column z → ((i : ℕ) → i < 7 → column < i → z i ≡ pos 0) → MaySolve z row
row_passed e left row column ps of_row same zeros here z first behind log is =
    sym (of_row z log is) ∙ (same z first).1 (solved_before left column z zeros here behind)

-- the equation of one column
pub unit_begins : (e : Equation) (column : ℕ) → column < 6 → ((i : ℕ) → i < 7 → entry e i ≡ unit_entry column i) →
    ((i : ℕ) → i < 7 → IsWithin 1 (entry_at e i)) → BeginsAt column e
unit_begins e column within is small = record {
  bounded = λ i less.
      let w = small i less in
      let b = bits_some column i in
      let h = pow-le-pow_right {n = 2} (omega arith) {i = 1} {j = bits column i} b in
      let p = w.plus in
      let m = w.minus in
      record { plus = omega (arith, p, h); minus = omega (arith, m, h) };
  some = λ zero. let h = sym zero ∙ is column (omega (arith, within)) ∙ here column in absurd (omega (arith, ints, h));
  zeros = λ i less. is i (omega (arith, less, within)) ∙ there i column (λ same. absurd (omega (arith, same, less)));
}
  where
    bits_some : (k i : ℕ) → 1 ≤ bits k i
    bits_some zero zero = omega arith
    bits_some zero (suc zero) = omega arith
    bits_some zero (suc (suc zero)) = omega arith
    bits_some zero (suc (suc (suc zero))) = omega arith
    bits_some zero (suc (suc (suc (suc zero)))) = omega arith
    bits_some zero (suc (suc (suc (suc (suc zero))))) = omega arith
    bits_some zero (suc (suc (suc (suc (suc (suc i)))))) = omega arith
    bits_some (suc k) i = omega arith

    here : (k : ℕ) → unit_entry k k ≡ pos 1
    here k = by (k == k) refl
      where
        by : (t : Bool) → t ≡ (k == k) → (if t then pos 1 else pos 0) ≡ pos 1
        by true is = refl
        by false is = absurd (grind (arith, nat_tests))

    there : (i k : ℕ) → (i ≡ k → ⊥) → unit_entry k i ≡ pos 0
    there i k differ = by (i == k) refl
      where
        by : (t : Bool) → t ≡ (i == k) → (if t then pos 1 else pos 0) ≡ pos 0
        by true is = absurd (differ (grind (arith, nat_tests)))
        by false is = refl

pub unit_dot : (e : Equation) (column : ℕ) (z : Vector) → column < 6 → ((i : ℕ) → i < 7 → entry e i ≡ unit_entry column i) →
    dot 7 (entry e) z ≡ z column
unit_dot e column z within is =
    dot_same 7 (entry e) (unit_entry column) z is
    ∙ below_6 (λ c. dot 7 (unit_entry c) z ≡ z c) (omega (arith, ints)) (omega (arith, ints)) (omega (arith, ints)) (omega (arith, ints))
    (omega (arith, ints)) (omega (arith, ints)) column within

pub not_true : (r : Bool) → r ≡ false → IsTrue r → ⊥
not_true r is so = let no : IsTrue false = subst IsTrue is so in absurd (grind arith)

pub is_true : (r : Bool) → r ≡ true → IsTrue r
is_true r is = subst IsTrue (sym is) (search rules)
