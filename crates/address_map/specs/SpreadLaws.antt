-- Any permutation that goes round the modules in turn is lawful.
use Rattle.std.proofs.Common.{◌≡◌, ℕ, ◌+◌, ◌-◌, ◌*◌, ◌/◌, ◌%◌, ◌^◌, ◌<◌, ◌≤◌, refl, ap, ◌∙◌, arith}
use Rattle.std.proofs.lemmas.Nat.{le-div, div-add-mod', div-mul-add, mod-mul-add, mul-le, mod_below, pow_pos}
use Rattle.std.proofs.Math.Nat.{pow-le-pow_right}
use Rattle.address_map.specs.Permutation.{IsInverse, same}
use Rattle.address_map.specs.Lawful.{IsLawful, rows, spread}

-- an offset below the size is a number below k
pub row_below : (k p j o : ℕ) → j < p → o < rows k p j → o * p + j < k
row_below k p j o h w =
    let x = k + (p - 1 - j) in
    let s : x / p * p + x % p ≡ x = div-add-mod' x p in
    let t : (o + 1) * p ≤ x / p * p = mul-le (o + 1) p (x / p) p (omega arith) (omega arith) in
    omega arith

-- a number below k has an offset below the size
pub below_row : (k p j o : ℕ) → j < p → o * p + j < k → o < rows k p j
below_row k p j o h w =
    let x = k + (p - 1 - j) in
    let t : o + 1 ≤ x / p = le-div (o + 1) x p (omega arith) (omega arith) in
    omega arith

-- a permutation, dealt to the modules in turn, is lawful
pub spread_lawful : (k p : ℕ) (f g : ℕ → ℕ) → k ≤ 2 ^ 20 → 1 ≤ p → p ≤ 32 → IsInverse k f g → IsLawful (spread k p f g)
spread_lawful k p f g small one few inv = record {
  small = small;
  one = one;
  few = few;
  part_below = λ c h. mod_below (f c) p one;
  offset_below = λ c h. below_row k p (f c % p) (f c / p) (mod_below (f c) p one) (let s = div-add-mod' (f c) p in let b = inv.below c h in
      omega arith);
  back = λ c h. ap g (div-add-mod' (f c) p) ∙ inv.back c h;
  forth = λ j o h w. record {
    below = inv.back_below (o * p + j) (row_below k p j o h w);
    here = ap (λ (y : ℕ). y % p) (inv.forth (o * p + j) (row_below k p j o h w)) ∙ mod-mul-add o p j h;
  };
  again = λ j o h w. ap (λ (y : ℕ). y / p) (inv.forth (o * p + j) (row_below k p j o h w)) ∙ div-mul-add o p j h;
}

-- to leave each number where it is is a permutation
pub same_inverse : (k : ℕ) → IsInverse k same same
same_inverse k = record { below = λ x h. h; back_below = λ x h. h; back = λ x h. refl; forth = λ x h. refl }

-- a power of two up to 2 ^ 20 is 1 to 2 ^ 20
pub cells_small : (k e : ℕ) → k ≡ 2 ^ e → e ≤ 20 → k ≤ 2 ^ 20
cells_small k e is h = rw is (pow-le-pow_right (omega arith) h)

pub cells_positive : (k e : ℕ) → k ≡ 2 ^ e → 0 < k
cells_positive k e is = rw is (pow_pos e)
