-- The entries of an equation, one by one.
use Rattle.std.proofs.Common.{length, get_or, set, ◌≡◌, ℕ, ◌<◌, ◌≤◌, ◌*◌, ◌^◌, ◌+◌}
use Rattle.std.proofs.Common.{List, [], ◌∷◌, refl, arith, subst, sym, suc, pos, ◌⊎◌, inl, inr}
use Rattle.sweeps.specs.declared.wide.Wide.{Wide}
use Rattle.sweeps.specs.Equations.{Vector, dot, entry, entry_at, row_entry}
use Rattle.std.proofs.lemmas.Grind.{get_or-set_at}
use Rattle.std.proofs.lemmas.List.{get_or-set_other}
use Rattle.std.proofs.lemmas.Bool.{cases_eq}
use Rattle.std.proofs.lemmas.Int.{ints}
use Rattle.sweeps.specs.Formulas.{IsLog}
use Rattle.sweeps.specs.Wides.{IsWithin, integer}
use Rattle.sweeps.proofs.Eliminations.{times_nothing}
use Rattle.sweeps.proofs.Sizes.{below_7}
use Rattle.std.proofs.Math.Nat.{pow-le-pow_right, one-le-pow}

pub seven_entries : (a b c d e f g : Wide) (v : Vector) → integer a ≡ v 0 → integer b ≡ v 1 → integer c ≡ v 2 → integer d ≡ v 3 →
    integer e ≡ v 4 → integer f ≡ v 5 → integer g ≡ v 6 → (i : ℕ) → i < 7 →
    entry (record { entries = a ∷ b ∷ c ∷ d ∷ e ∷ f ∷ g ∷ [] }) i ≡ v i
unfolding entry
seven_entries a b c d e f g v = below_7 (λ i. entry (record { entries = a ∷ b ∷ c ∷ d ∷ e ∷ f ∷ g ∷ [] }) i ≡ v i)

pub seven_within : (a b c d e f g : Wide) (n : ℕ) → IsWithin n a → IsWithin n b → IsWithin n c → IsWithin n d → IsWithin n e →
    IsWithin n f → IsWithin n g → (i : ℕ) → i < 7 → IsWithin n (entry_at (record { entries = a ∷ b ∷ c ∷ d ∷ e ∷ f ∷ g ∷ [] }) i)
seven_within a b c d e f g n = below_7 (λ i. IsWithin n (entry_at (record { entries = a ∷ b ∷ c ∷ d ∷ e ∷ f ∷ g ∷ [] }) i))

-- a number has one logarithm
not_less : (n a b : ℕ) → 2 ^ a ≤ n → n < 2 * 2 ^ b → b < a → ⊥
not_less n a b low high less =
    let h = pow-le-pow_right {n = 2} (omega arith) {i = suc b} {j = a} less in omega (arith, h, low, high)

pub one_log : (n a b : ℕ) → IsLog n a → IsLog n b → a ≡ b
one_log n a b x y =
    let first : ¬ (b < a) = not_less n a b x.reached y.next in
    let second : ¬ (a < b) = not_less n b a y.reached x.next in omega (arith, first, second)

-- the logarithm doesn't count where its terms are left out
pub no_log : (n a b v : ℕ) (z : Vector) → z 1 ≡ pos 0 → z 3 ≡ pos 0 → dot 7 (row_entry n a v) z ≡ dot 7 (row_entry n b v) z
no_log n a b v z first third =
    let x = times_nothing (pos a) (z 1) first in
    let y = times_nothing (pos b) (z 1) first in
    let u = times_nothing (pos (n * a)) (z 3) third in
    let w = times_nothing (pos (n * b)) (z 3) third in
    omega (arith, ints, x, y, u, w)

pub logged : (n a : ℕ) → IsLog n a → 0 < n
logged n a is = let h = one-le-pow a 2 (omega arith) in let r = is.reached in omega (arith, h, r)

-- what is so of the entries before i and of the one that is put there
pub put : {A : Type 0} (P : ℕ → A → Type 0) (xs : List A) (i : ℕ) (x d : A) → i < length xs → ((k : ℕ) → k < i → P k (get_or xs k d)) →
    P i x → (k : ℕ) → k < i + 1 → P k (get_or (set xs i x) k d)
put P xs i x d less before now k within = by (cases_eq k i)
  where
    by : (k ≡ i) ⊎ (k ≡ i → ⊥) → P k (get_or (set xs i x) k d)
    by (inl is) = subst (λ n. P n (get_or (set xs i x) n d)) (sym is) (subst (P i) (sym (get_or-set_at xs i i x d refl less)) now)
    by (inr differ) = subst (P k) (sym (get_or-set_other xs i k x d differ)) (before k (omega (arith, within, differ)))
