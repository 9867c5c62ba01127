-- The greatest number that passes a test: logarithms and roots.
use Rattle.std.proofs.Common.{◌≡◌, ℕ, zero, suc, ◌+◌, ◌*◌, ◌^◌, ◌<◌, ◌≤◌, Bool, true, false, refl, sym, arith, ap, nat_le, ◌∙◌}
use Rattle.std.proofs.lemmas.Bool.Decides.{nat_tests}
use Rattle.std.proofs.Math.Nat.{mul-le-mul, pow-suc, pow-le-pow_right}
use Rattle.sized_texts.specs.Values.{greatest, log_of, root_of}

-- it passes, and no greater one does
pub greatest_is : (p : ℕ → Bool) (n r : ℕ) → r ≤ n → p r ≡ true → ((k : ℕ) → r < k → p k ≡ false) → greatest p n ≡ r
greatest_is p zero r low passes above = omega arith
greatest_is p (suc n) r low passes above = by (p (suc n)) refl (λ h. greatest_is p n r h passes above)
  where
    by : (b : Bool) → p (suc n) ≡ b → (r ≤ n → greatest p n ≡ r) → greatest p (suc n) ≡ r
    by true e below =
        rw e (let no : r < suc n → true ≡ false = λ h. sym e ∙ above (suc n) h in
        let not : r < suc n → ⊥ = λ h. let k = no h in cc in
        omega arith)
    by false e below =
        rw e (let not : r ≡ suc n → ⊥ = λ h. let k : true ≡ false = sym passes ∙ ap p h ∙ e in cc in
        below (omega arith))

below_power : (n : ℕ) → n < 2 ^ n
below_power zero = omega arith
below_power (suc n) = omega (arith, below_power n, pow-suc 2 n)

pub log_is : (n k : ℕ) → 2 ^ k ≤ n → n < 2 * 2 ^ k → k ≡ log_of n
unfolding log_of
log_is n k low high = sym (greatest_is (λ k. nat_le (2 ^ k) n) n k (omega (arith, below_power k)) (grind (arith, nat_tests)) above)
  where
    above : (j : ℕ) → k < j → nat_le (2 ^ j) n ≡ false
    above j more =
        let some : 0 < 2 = omega arith in
        let h : 2 ^ suc k ≤ 2 ^ j = pow-le-pow_right some (omega arith) in
        let e : 2 ^ suc k ≡ 2 ^ k * 2 = pow-suc 2 k in
        let over : n < 2 ^ j = omega arith in
        grind (arith, nat_tests)

pub root_is : (n r : ℕ) → r * r ≤ n → n < (r + 1) * (r + 1) → r ≡ root_of n
unfolding root_of
root_is n r low high = sym (greatest_is (λ r. nat_le (r * r) n) n r (small r low) (grind (arith, nat_tests)) above)
  where
    small : (r : ℕ) → r * r ≤ n → r ≤ n
    small zero h = omega arith
    small (suc r) h = let k : 1 * suc r ≤ suc r * suc r = mul-le-mul (omega arith) (omega arith) in omega arith

    above : (j : ℕ) → r < j → nat_le (j * j) n ≡ false
    above j more =
        let h : (r + 1) * (r + 1) ≤ j * j = mul-le-mul (omega arith) (omega arith) in
        let over : n < j * j = omega arith in
        grind (arith, nat_tests)
