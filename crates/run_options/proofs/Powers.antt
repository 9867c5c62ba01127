-- The least power of two, when the lower ones are too small.
use Rattle.std.proofs.Common.{◌≡◌, ℕ, ◌<◌, ◌≤◌, ◌^◌, ◌⊎◌, inl, inr, arith}
use Rattle.std.proofs.lemmas.Bool.{cases_lt}
use Rattle.std.proofs.Math.Pow.{pow_mono}
use Rattle.run_options.specs.Places.{IsLeastPower}

pub least_at : (k n bits : ℕ) → n ≡ 2 ^ bits → k ≤ n → ((e : ℕ) → e < bits → 2 ^ e < k) → IsLeastPower k n
least_at k n bits is enough below = record {
  power = bits;
  is_power = is;
  enough = enough;
  least = λ e h. least e h;
}
  where
    least : (e : ℕ) → k ≤ 2 ^ e → n ≤ 2 ^ e
    least e h = by_order (cases_lt e bits)
      where
        by_order : (e < bits) ⊎ (bits ≤ e) → n ≤ 2 ^ e
        by_order (inl lt) = (let low = below e lt in absurd (omega (arith, low, h)))
        by_order (inr ge) = (let more = pow_mono ge in omega (arith, more, is))
