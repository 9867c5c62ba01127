-- Places in an order.
use Rattle.std.specs.Prelude.{ℕ, zero, suc, ◌*◌, ◌/◌, ◌^◌, ◌-◌, List, [], ◌∷◌}
use Rattle.std.specs.List.{range_with_len, swap}
use Rattle.std.specs.List.Sorted.{IsPermutation}

-- the places 0, 1, 2 and so on, so many of them
abbrev pub places : ℕ → List ℕ
places count = range_with_len 0 count

-- each of so many places once
abbrev pub IsOrder : (count : ℕ) → List ℕ → Type 0
IsOrder count order = IsPermutation (places count) order

-- The part, from 0 on, that a word of 64 bits is in: the words are cut into so many parts, one behind the other.
abbrev pub pick : (word parts : ℕ) → ℕ
pick word parts = word * parts / 2 ^ 64

-- Fisher and Yates: the last place is exchanged with one up to it, that a word picks, then the one before it, and so on
abbrev pub shuffled : (last : ℕ) → (words order : List ℕ) → List ℕ
shuffled zero words order = order
shuffled (suc last) [] order = order
shuffled (suc last) (word ∷ words) order = shuffled last words (swap order (suc last) (pick word (suc (suc last))))

-- the order of so many places that words choose
abbrev pub order_by : List ℕ → (count : ℕ) → List ℕ
order_by words count = shuffled (count - 1) words (places count)
