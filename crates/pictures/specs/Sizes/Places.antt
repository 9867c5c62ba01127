-- Where sizes and numbers stand in a panel, in pixels.
use Rattle.std.specs.Prelude.{ℕ, zero, suc, ◌+◌, ◌-◌, ◌*◌, ◌/◌, ◌^◌, min, max, nat_eq, nat_le, nat_lt, if◌then◌else◌, List, [], ◌∷◌, take}
use Rattle.sweeps.specs.SweptTables.{number}
use Rattle.sweeps.specs.declared.measure.Measure.{Measure}
use Rattle.sweeps.specs.declared.size_row.Ending.{Ending}
use Rattle.sweeps.specs.declared.size_row.Ending.TheVariants.{Ended, GoesOn, Faulted, Refused}
use Rattle.sweeps.specs.declared.size_row.SizeRow.{SizeRow}
use Rattle.pictures.specs.declared.sizes.frame.Frame.{Frame}

-- of more rows the first are drawn
abbrev pub drawn : List SizeRow → List SizeRow
drawn = take 64

-- ---- from left to right: a doubling scale

-- the exponent of the last power of two from k on that is no more than n, where it is at most k + more
unfoldable pub log_from : (more k n : ℕ) → ℕ
log_from zero k n = k
log_from (suc more) k n = if nat_lt n (2 ^ (k + 1)) then k else log_from more (k + 1) n

-- log n to base 2, rounded down, of a size of 64 bits
abbrev pub log : ℕ → ℕ
log n = log_from 63 0 n

-- 1024 from a power of two to the next, and even between them
abbrev pub place_of : (n power log : ℕ) → ℕ
place_of n power log = 1024 * log + min 1023 (((n - power) * 1024) / power)

-- the size 0 stands where 1 does
abbrev pub place : ℕ → ℕ
place n = if nat_eq n 0 then 0 else place_of n (2 ^ log n) (log n)

abbrev pub low_place : List SizeRow → ℕ
low_place [] = 65536
low_place (row ∷ rows) = min (place row.size) (low_place rows)

abbrev pub high_place : List SizeRow → ℕ
high_place [] = 0
high_place (row ∷ rows) = max (place row.size) (high_place rows)

-- the axis has 480 pixels, from the least size to the greatest
abbrev pub x_of : Frame → ℕ → ℕ
x_of f size = 184 + min 480 (((place size - f.low) * 480) / max 1 (f.high - f.low))

-- ---- from below to above: from 0 to a round number

-- a run's number, up to where it went
abbrev pub number_of : Measure → Ending → ℕ
number_of m (Ended c) = number m c
number_of m (GoesOn c) = number m c
number_of m (Faulted c fault) = number m c
number_of m (Refused refusal) = 0

abbrev pub most_of : Measure → List SizeRow → ℕ
most_of m [] = 0
most_of m (row ∷ rows) = max (number_of m row.ending) (most_of m rows)

-- powers of ten
abbrev pub units : List ℕ
units =
    1 ∷ 10 ∷ 100 ∷ 1000 ∷ 10000 ∷ 100000 ∷ 1000000 ∷ 10000000 ∷ 100000000 ∷ 1000000000 ∷ 10000000000 ∷ 100000000000 ∷ 1000000000000
    ∷ 10000000000000 ∷ 100000000000000 ∷ 1000000000000000 ∷ 10000000000000000 ∷ 100000000000000000 ∷ 1000000000000000000
    ∷ 10000000000000000000 ∷ []

-- the first of 1, 2 and 5 times these units that is no less
unfoldable pub rounded_up : List ℕ → ℕ → ℕ
rounded_up [] n = n
rounded_up (unit ∷ units) n =
    if nat_le n unit then unit
    else if nat_le n (2 * unit) then 2 * unit
    else if nat_le n (5 * unit) then 5 * unit
    else rounded_up units n

-- what stands at the upper end
abbrev pub top : ℕ → ℕ
top most = max 1 (rounded_up units most)

-- the axis has 150 pixels
abbrev pub y_of : Frame → ℕ → ℕ
y_of f n = f.base - min 150 ((n * 150) / top f.most)

-- where a run's mark stands
abbrev pub mark_y : Frame → Ending → ℕ
mark_y f e = y_of f (number_of f.measure e)
