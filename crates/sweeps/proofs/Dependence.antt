-- Where a column has no equation that begins there, some numbers solve all.
use Rattle.std.proofs.Common.{◌≡◌, ◌≢◌, ◌⊎◌, inl, inr, ℕ, zero, suc, ◌+◌, ◌<◌, ◌≤◌, List, ℤ, pos, neg_ℤ, ◌+ℤ◌, ◌*ℤ◌, All}
use Rattle.std.proofs.Common.{refl, sym, ap, ◌∙◌, arith, Bool, true, false, ◌==◌}
use Rattle.std.specs.Prelude.{if◌then◌else◌}
use Rattle.std.proofs.lemmas.Int.{ints}
use Rattle.std.proofs.lemmas.Bool.{cases_eq, cases_lt}
use Rattle.std.proofs.lemmas.Bool.Decides.{nat_tests}
use Rattle.sweeps.specs.declared.equation.Equation.{Equation}
use Rattle.sweeps.specs.declared.row.Row.{Row}
use Rattle.sweeps.specs.Choices.{chosen}
use Rattle.sweeps.specs.Echelons.{IsDependent, IsEchelon, MaySolve, SolveFirst, pivot}
use Rattle.sweeps.specs.Equations.{Vector, dot, entry, unit_entry}
use Rattle.sweeps.proofs.Eliminations.{times_nothing}
use Rattle.sweeps.proofs.Ring.{mul_add, mul_assoc, mul_comm, neg_mul, no_factor}
use Rattle.sweeps.proofs.Sizes.{below_7}

pub unit_here : (k : ℕ) → unit_entry k k ≡ pos 1
unit_here k = by (k == k) refl
  where
    by : (t : Bool) → t ≡ (k == k) → (if t then pos 1 else pos 0) ≡ pos 1
    by true is = refl
    by false is = absurd (grind (arith, nat_tests))

pub unit_there : (i k : ℕ) → (i ≡ k → ⊥) → unit_entry k i ≡ pos 0
unit_there i k differ = by (i == k) refl
  where
    by : (t : Bool) → t ≡ (i == k) → (if t then pos 1 else pos 0) ≡ pos 0
    by true is = absurd (differ (grind (arith, nat_tests)))
    by false is = refl

step : (p v s t x z u : ℤ) →
    ((p *ℤ s) +ℤ (v *ℤ t)) +ℤ (x *ℤ ((p *ℤ z) +ℤ (v *ℤ u))) ≡ (p *ℤ (s +ℤ (x *ℤ z))) +ℤ (v *ℤ (t +ℤ (x *ℤ u)))
step p v s t x z u =
    let a = mul_add x (p *ℤ z) (v *ℤ u) in
    let b = sym (mul_assoc x p z) ∙ ap (λ y. y *ℤ z) (mul_comm x p) ∙ mul_assoc p x z in
    let c = sym (mul_assoc x v u) ∙ ap (λ y. y *ℤ u) (mul_comm x v) ∙ mul_assoc v x u in
    let e = mul_add p s (x *ℤ z) in
    let f = mul_add v t (x *ℤ u) in
    omega (arith, ints, a, b, c, e, f)

abbrev pub combined : (p v : ℤ) (z u : Vector) → Vector
combined p v z u i = (p *ℤ z i) +ℤ (v *ℤ u i)

pub dot_combined : (n : ℕ) (x z u : Vector) (p v : ℤ) →
    dot n x (combined p v z u) ≡ (p *ℤ dot n x z) +ℤ (v *ℤ dot n x u)
dot_combined zero x z u p v = omega (arith, ints)
dot_combined (suc n) x z u p v =
    ap (λ s. s +ℤ (x n *ℤ combined p v z u n)) (dot_combined n x z u p v) ∙ step p v (dot n x z) (dot n x u) (x n) (z n) (u n)

pub dot_unit : (x : Vector) (m : ℕ) → m < 7 → dot 7 x (unit_entry m) ≡ x m
dot_unit x =
    below_7 (λ m. dot 7 x (unit_entry m) ≡ x m) (omega (arith, ints)) (omega (arith, ints)) (omega (arith, ints)) (omega (arith, ints))
    (omega (arith, ints)) (omega (arith, ints)) (omega (arith, ints))

-- numbers that solve the equations from m on, and are nothing before m and behind the column
record Null (ps : List Equation) (column m : ℕ) : Type 0 where
  z : Vector
  some : z column ≢ pos 0
  before : (i : ℕ) → i < m → z i ≡ pos 0
  behind : (i : ℕ) → column < i → z i ≡ pos 0
  solves : (j : ℕ) → m ≤ j → j < column → dot 7 (entry (pivot ps j)) z ≡ pos 0

module _ (ps : List Equation) (column : ℕ) (echelon : IsEchelon ps column) (within : column < 7) where
  one_more : (m : ℕ) → m < column → Null ps column (suc m) → Null ps column m
  one_more m less n =
      let e = entry (pivot ps m) in
      let p = e m in
      let v = neg_ℤ (dot 7 e n.z) in
      let begins = echelon m less in
      let away = λ (i : ℕ) (differ : i ≡ m → ⊥) (none : n.z i ≡ pos 0).
      let a = times_nothing p (n.z i) none in
      let b = times_nothing v (unit_entry m i) (unit_there i m differ) in
      sums a b in
      record {
        z = combined p v n.z (unit_entry m);
        some = λ is.
            let b = times_nothing v (unit_entry m column) (unit_there column m (λ same. absurd (omega (arith, same, less)))) in
            n.some (no_factor p (n.z column) (omega (arith, ints, is, b)) begins.some);
        before = λ i low. away i (λ same. absurd (omega (arith, same, low))) (n.before i (omega (arith, low)));
        behind = λ i high. away i (λ same. absurd (omega (arith, same, high, less))) (n.behind i high);
        solves = λ j from to. solved j from to (cases_eq j m);
      }
    where
      sums : {a b : ℤ} → a ≡ pos 0 → b ≡ pos 0 → a +ℤ b ≡ pos 0
      sums {a = a} {b = b} x y = omega (arith, ints, x, y)

      solved : (j : ℕ) → m ≤ j → j < column → (j ≡ m) ⊎ (j ≡ m → ⊥) →
          dot 7 (entry (pivot ps j)) (combined (entry (pivot ps m) m) (neg_ℤ (dot 7 (entry (pivot ps m)) n.z)) n.z (unit_entry m)) ≡ pos 0
      solved j from to (inl same) =
          let e = entry (pivot ps m) in
          let d = dot 7 e n.z in
          let whole = dot_combined 7 e n.z (unit_entry m) (e m) (neg_ℤ d) in
          let u = ap (λ t. neg_ℤ d *ℤ t) (dot_unit e m (omega (arith, less, within))) in
          let turn = mul_comm (e m) d in
          ap (λ k. dot 7 (entry (pivot ps k)) (combined (e m) (neg_ℤ d) n.z (unit_entry m))) same ∙ whole
          ∙ (let s = neg_mul d (e m) in omega (arith, ints, u, turn, s))
      solved j from to (inr differ) =
          let e = entry (pivot ps m) in
          let x = entry (pivot ps j) in
          let d = dot 7 e n.z in
          let whole = dot_combined 7 x n.z (unit_entry m) (e m) (neg_ℤ d) in
          let old = times_nothing (e m) (dot 7 x n.z) (n.solves j (omega (arith, from, differ)) to) in
          let zero_there = dot_unit x m (omega (arith, less, within)) ∙ (echelon j to).zeros m (omega (arith, from, differ)) in
          let u = times_nothing (neg_ℤ d) (dot 7 x (unit_entry m)) zero_there in
          omega (arith, ints, whole, old, u)

  from_there : (d m : ℕ) → m + d ≡ column → Null ps column m
  from_there zero m is =
      let same : m ≡ column = omega (arith, is) in
      record {
        z = unit_entry column;
        some = λ zero. let h = sym zero ∙ unit_here column in absurd (omega (arith, ints, h));
        before = λ i low. unit_there i column (λ k. absurd (omega (arith, k, low, same)));
        behind = λ i high. unit_there i column (λ k. absurd (omega (arith, k, high)));
        solves = λ j from to. absurd (omega (arith, from, to, same));
      }
  from_there (suc d) m is = one_more m (omega (arith, is)) (from_there d (suc m) (omega (arith, is)))

  null : Null ps column 0
  null = from_there column 0 (omega arith)

pub dependent : (table : List Row) (set column : ℕ) (ps : List Equation) → column < 6 → IsEchelon ps column → chosen set column ≡ 1 →
    ((j : ℕ) → j < column → chosen set j ≡ 0 → (z : Vector) → dot 7 (entry (pivot ps j)) z ≡ z j) →
    ((z : Vector) → SolveFirst ps column z → ((i : ℕ) → i < 7 → column < i → z i ≡ pos 0) → All (MaySolve z) table) →
    IsDependent table set
dependent table set column ps within echelon is units rows =
    let n = null ps column echelon (omega (arith, within)) in
    record {
      numbers = n.z;
      column = column;
      within = within;
      some = n.some;
      of_choice = λ j less none. by n j none (cases_lt j column) (cases_eq j column);
      last = n.behind 6 within;
      rows = rows n.z (λ j less. n.solves j (omega arith) less) (λ i less high. n.behind i high);
    }
  where
    by : (n : Null ps column 0) (j : ℕ) → chosen set j ≡ 0 → (j < column) ⊎ (column ≤ j) → (j ≡ column) ⊎ (j ≡ column → ⊥) → n.z j ≡ pos 0
    by n j none (inl low) same = sym (units j low none n.z) ∙ n.solves j (omega arith) low
    by n j none (inr high) (inl same) = let h = sym (ap (chosen set) same ∙ is) ∙ none in absurd (omega (arith, h))
    by n j none (inr high) (inr differ) = n.behind j (omega (arith, high, differ))
