-- Rounds, one after the other, are a permutation.
use Rattle.std.proofs.Common.{◌≡◌, ◌≤◌, ◌*◌, ◌%◌, ◌^◌, ℕ, List, [], ◌∷◌, map, subst, sym}
use Rattle.std.proofs.lemmas.List.Elements.{recursion_from_All}
use Rattle.std.proofs.lemmas.Nat.{pow_pos}
use Rattle.std.specs.List.{All, AllByRecursion}
use Rattle.address_map.specs.Permutation.{IsInverse, round, rounds}
use Rattle.address_map.specs.ShiftLaws.{inverse_after, round_back, round_inverse}
use Rattle.address_map.specs.SpreadLaws.{same_inverse}
use Rattle.address_map.specs.declared.round.Round.{Round}

-- the multiplier and the shift of a round
abbrev pub numbers_of : Round → ℕ × ℕ
numbers_of r = (r.multiplier, r.shift)

-- what some rounds do
abbrev pub rounds_of : ℕ → List Round → ℕ → ℕ
rounds_of k rs = rounds k (map numbers_of rs)

-- and what undoes them
abbrev pub rounds_back : ℕ → List Round → ℕ → ℕ
rounds_back k [] y = y
rounds_back k (r ∷ rs) y = round_back k r.inverse r.shift (rounds_back k rs y)

-- the round's inverse is one below k, and its shift is one
pub record IsUndone (k : ℕ) (r : Round) : Type 0 where
  pub unit : (r.multiplier * r.inverse) % k ≡ 1 % k
  pub least : 1 ≤ r.shift
  pub most : r.shift ≤ 31

pub rounds_inverse : (e : ℕ) (rs : List Round) → e ≤ 20 → AllByRecursion (IsUndone (2 ^ e)) rs → IsInverse (2 ^ e) (rounds_of (2 ^ e) rs)
    (rounds_back (2 ^ e) rs)
rounds_inverse e [] small undone = same_inverse (2 ^ e)
rounds_inverse e (r ∷ rs) small undone =
    inverse_after (2 ^ e) (round (2 ^ e) r.multiplier r.shift) (round_back (2 ^ e) r.inverse r.shift) (rounds_of (2 ^ e) rs)
    (rounds_back (2 ^ e) rs)
    (round_inverse e r.multiplier r.inverse r.shift small undone.0.least (pow_pos e) undone.0.unit) (rounds_inverse e rs small undone.1)

-- the same for a number that is a power of two
pub rounds_inverse_at : (k e : ℕ) (rs : List Round) → k ≡ 2 ^ e → e ≤ 20 → All (IsUndone k) rs → IsInverse k (rounds_of k rs)
    (rounds_back k rs)
rounds_inverse_at k e rs is small undone =
    subst (λ n. IsInverse n (rounds_of n rs) (rounds_back n rs)) (sym is)
    (rounds_inverse e rs small (recursion_from_All (IsUndone (2 ^ e)) rs (subst (λ n. All (IsUndone n) rs) is undone)))
