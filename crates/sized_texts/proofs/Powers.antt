-- Powers of 0 and 1, and powers that are too large.
use Rattle.std.proofs.Common.{◌≡◌, ℕ, zero, suc, ◌*◌, ◌^◌, ◌<◌, ◌≤◌, true, false, refl, ap, ◌∙◌, arith, nat_le}
use Rattle.std.specs.Prelude.{Ok, Err}
use Rattle.std.proofs.lemmas.Bool.Decides.{nat_tests}
use Rattle.std.proofs.Math.Nat.{pow-suc, pow-le-pow_left, pow-le-pow_right}
use Rattle.pram_tokens.specs.Lexemes.{largest}
use Rattle.sized_texts.specs.declared.reason.Reason.TheVariants as reason
use Rattle.sized_texts.specs.Values.{checked}

one_power : (n : ℕ) → 1 ^ n ≡ 1
one_power zero = refl
one_power (suc n) = pow-suc 1 n ∙ ap (λ k. k * 1) (one_power n)

pub small_power : (a b : ℕ) → a ≤ 1 → 0 < b → a ^ b ≡ a
small_power zero zero small some = absurd (omega arith)
small_power zero (suc b) small some = pow-suc 0 b ∙ omega arith
small_power (suc zero) b small some = one_power b
small_power (suc (suc a)) b small some = absurd (omega arith)

pub one_checked : (a : ℕ) → a ≤ 1 → Ok a ≡ checked a
one_checked a small = let t : nat_le a largest ≡ true = grind (arith, nat_tests) in rw t refl

pub large_power : (a b : ℕ) → 2 ≤ a → 64 ≤ b → largest < a ^ b
large_power a b two many =
    let h : 2 ^ 64 ≤ 2 ^ b = pow-le-pow_right (omega arith) many in
    let k : 2 ^ b ≤ a ^ b = pow-le-pow_left two b in
    omega arith

pub too_large : (n : ℕ) → largest < n → Err reason.OutOfRange ≡ checked n
too_large n large = let t : nat_le n largest ≡ false = grind (arith, nat_tests) in rw t refl
