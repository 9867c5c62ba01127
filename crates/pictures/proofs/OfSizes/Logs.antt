-- The last power of two.
use Rattle.std.proofs.Common.{◌≡◌, ◌∙◌, ℕ, zero, suc, ◌+◌, ◌*◌, ◌^◌, ◌<◌, ◌≤◌, add-one, ap, arith, false, nat_eq}
use Rattle.std.specs.Prelude.{if◌then◌else◌}
use Rattle.std.proofs.Math.Nat.{pow-succ'}
use Rattle.std.proofs.Math.Pow.{pow_mono}
use Rattle.std.proofs.lemmas.Bool.Decides.{nat_tests}
use Rattle.pictures.specs.Sizes.Places.{log, log_from, place, place_of}

-- the search from k on finds r
log_from_is : (more k n r : ℕ) → k ≤ r → r ≤ k + more → 2 ^ r ≤ n → n < 2 * 2 ^ r → log_from more k n ≡ r
unfolding log_from
log_from_is zero k n r low high reached next = omega (arith, low, high)
log_from_is (suc more) k n r low high reached next =
    let double : 2 ^ (k + 1) ≡ 2 * 2 ^ k = ap (λ e. 2 ^ e) (add-one k) ∙ pow-succ' 2 k in
    let past : k + 1 ≤ r → 2 ^ (k + 1) ≤ n = λ h. let p = pow_mono {i = k + 1} {j = r} h in omega (arith, p, reached) in
    let later : k + 1 ≤ r → log_from more (k + 1) n ≡ r = λ h. log_from_is more (k + 1) n r h (omega (arith, high)) reached next in
    grind (arith, nat_tests, double, past, later, low, next)

pub log_is : (n r : ℕ) → r < 64 → 2 ^ r ≤ n → n < 2 * 2 ^ r → log n ≡ r
log_is n r bits reached next = log_from_is 63 0 n r (omega arith) (omega (arith, bits)) reached next

pub place_is : (n r : ℕ) → (n ≡ 0 → ⊥) → log n ≡ r → place n ≡ place_of n (2 ^ r) r
place_is n r some is =
    let no : nat_eq n 0 ≡ false = grind (arith, nat_tests, some) in
    ap (λ b. if b then 0 else place_of n (2 ^ log n) (log n)) no ∙ ap (λ l. place_of n (2 ^ l) l) is
