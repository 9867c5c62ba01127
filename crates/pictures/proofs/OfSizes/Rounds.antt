-- The first round number among those of some units.
use Rattle.std.proofs.Common.{◌≡◌, ◌∙◌, ℕ, ◌+◌, ◌*◌, ◌<◌, ◌≤◌, List, [], ◌∷◌, arith, drop, get_or, refl}
use Rattle.std.proofs.lemmas.Bool.Decides.{nat_tests}
use Rattle.std.proofs.lemmas.List.{at_drop_all, at_drop_more}
use Rattle.pictures.specs.Sizes.Places.{rounded_up, units}

first : (unit : ℕ) (us : List ℕ) (n : ℕ) → n ≤ unit → rounded_up (unit ∷ us) n ≡ unit
unfolding rounded_up
first unit us n below = grind (arith, nat_tests, below)

second : (unit : ℕ) (us : List ℕ) (n : ℕ) → unit < n → n ≤ 2 * unit → rounded_up (unit ∷ us) n ≡ 2 * unit
unfolding rounded_up
second unit us n above below = grind (arith, nat_tests, above, below)

third : (unit : ℕ) (us : List ℕ) (n : ℕ) → 2 * unit < n → n ≤ 5 * unit → rounded_up (unit ∷ us) n ≡ 5 * unit
unfolding rounded_up
third unit us n above below = grind (arith, nat_tests, above, below)

later : (unit : ℕ) (us : List ℕ) (n : ℕ) → 5 * unit < n → rounded_up (unit ∷ us) n ≡ rounded_up us n
unfolding rounded_up
later unit us n above = grind (arith, nat_tests, above)

no_unit : (n : ℕ) → rounded_up [] n ≡ n
unfolding rounded_up
no_unit n = refl

-- from the unit at i on
at : (i n : ℕ) → i < 20 → rounded_up (drop i units) n ≡ rounded_up (get_or units i 0 ∷ drop (i + 1) units) n
at i n within = at_drop_more (λ (us : List ℕ). rounded_up us n) units i 0 within

pub first_at : (i n unit : ℕ) → i < 20 → unit ≡ get_or units i 0 → n ≤ unit → rounded_up (drop i units) n ≡ unit
first_at i n unit within is below = at i n within ∙ rw (← is) (first unit (drop (i + 1) units) n below)

pub second_at : (i n unit : ℕ) → i < 20 → unit ≡ get_or units i 0 → unit < n → n ≤ 2 * unit → rounded_up (drop i units) n ≡ 2 * unit
second_at i n unit within is above below = at i n within ∙ rw (← is) (second unit (drop (i + 1) units) n above below)

pub third_at : (i n unit : ℕ) → i < 20 → unit ≡ get_or units i 0 → 2 * unit < n → n ≤ 5 * unit → rounded_up (drop i units) n ≡ 5 * unit
third_at i n unit within is above below = at i n within ∙ rw (← is) (third unit (drop (i + 1) units) n above below)

pub later_at : (i n unit : ℕ) → i < 20 → unit ≡ get_or units i 0 → 5 * unit < n →
    rounded_up (drop i units) n ≡ rounded_up (drop (i + 1) units) n
later_at i n unit within is above = at i n within ∙ rw (← is) (later unit (drop (i + 1) units) n above)

pub over : (i n : ℕ) → 20 ≤ i → rounded_up (drop i units) n ≡ n
over i n past = at_drop_all (λ (us : List ℕ). rounded_up us n) units i past ∙ no_unit n
