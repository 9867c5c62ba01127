-- Which statements of a run are drawn, and which processors have a row.
use Rattle.std.specs.Prelude.{ℕ, ◌+◌, ◌-◌, nat_eq, nat_lt, Bool, false, if◌then◌else◌, List, [], ◌∷◌, ◌++◌, Option, Some, None, ℤ}
use Rattle.std.specs.Prelude.{length, take, drop, int_lt}
use Rattle.std.specs.List.{fold, position_or_len, prefix_len}
use Rattle.std.specs.Ordering.{int_eq}
use Rattle.journal.specs.Entries.{Act, Entry, Ran, Faulting}
use Rattle.pictures.specs.Acts.{acts_in}

-- ---- statements: of more than 112 the first 96 and the last 16

abbrev pub first_drawn : List Entry → List Entry
first_drawn es = if nat_lt 112 (length es) then take 96 es else es

abbrev pub last_drawn : List Entry → List Entry
last_drawn es = if nat_lt 112 (length es) then drop (length es - 16) es else []

-- the number of the first of the last ones
abbrev pub last_number : List Entry → ℕ
last_number es = (length es - 16) + 1

-- a statement and its number, counted from 1
pub record Numbered : Type 0 where
  pub number : ℕ
  pub entry : Entry

abbrev pub numbered : (k : ℕ) → List Entry → List Numbered
numbered k [] = []
numbered k (e ∷ es) = record { number = k; entry = e } ∷ numbered (k + 1) es

-- what is drawn, from left to right and from band to band
abbrev pub drawn : List Entry → List Numbered
drawn es = numbered 1 (first_drawn es) ++ numbered (last_number es) (last_drawn es)

-- ---- processors

-- those that met at a fault
abbrev pub met_in : Entry → List ℤ
met_in (Ran here acts cells variables locals items) = []
met_in (Faulting here fault cause acts met locals) = met

-- the one outside pardo has no index
abbrev pub index_of : Option ℤ → List ℤ
index_of None = []
index_of (Some i) = i ∷ []

abbrev pub indices : List Act → List ℤ
indices [] = []
indices (a ∷ acts) = index_of a.processor ++ indices acts

abbrev pub acting : List Entry → List ℤ
acting [] = []
acting (e ∷ es) = indices (acts_in e) ++ acting es

-- the indices that act in what is drawn
abbrev pub acting_drawn : List Entry → List ℤ
acting_drawn es = acting (first_drawn es) ++ acting (last_drawn es)

-- those that met at the last statement, where alone a run faults
abbrev pub first_met : List Entry → List ℤ
first_met [] = []
first_met (e ∷ es) = met_in e

abbrev pub met_of : List Entry → List ℤ
met_of es = first_met (drop (length es - 1) es)

-- ---- rows: one more index among ascending ones, each once

abbrev pub inserted : ℤ → List ℤ → List ℤ
inserted i [] = i ∷ []
inserted i (x ∷ xs) = if int_lt x i then x ∷ inserted i xs else if int_lt i x then i ∷ (x ∷ xs) else x ∷ xs

-- how many of ascending ones stand before an index
abbrev pub ahead : List ℤ → ℤ → ℕ
ahead xs i = prefix_len (λ x. int_lt x i) xs

-- of those the first
abbrev pub offered : (most : ℕ) → List ℤ → ℤ → List ℤ
offered most xs i = take most (inserted i xs)

-- how many stand before an index, or all where it isn't there
abbrev pub place_of : List ℤ → ℤ → ℕ
place_of xs i = position_or_len (λ x. int_eq x i) xs

-- the first 64 of these and those
abbrev pub with_all : List ℤ → List ℤ → List ℤ
with_all = fold (offered 64)

-- of those that aren't among the ones that have a row, as many as there is room for
abbrev pub offered_beside : (those xs : List ℤ) → ℤ → List ℤ
offered_beside those xs i = if nat_lt (place_of those i) (length those) then xs else offered (64 - length those) xs i

abbrev pub with_others : (those xs : List ℤ) → List ℤ → List ℤ
with_others those = fold (offered_beside those)

-- those that met, and the first others that act, in ascending order; of more than 64 that met the first
abbrev pub rows_beside : (those acting : List ℤ) → List ℤ
rows_beside those acting = with_all (with_others those [] acting) those

abbrev pub rows_of : List Entry → List ℤ
rows_of es = rows_beside (with_all [] (met_of es)) (acting_drawn es)

-- how many of those that act have no row
abbrev pub is_missing : (rows : List ℤ) → Option ℤ → Bool
is_missing rows None = false
is_missing rows (Some i) = nat_eq (place_of rows i) (length rows)

abbrev pub missing : (rows : List ℤ) → List Act → ℕ
missing rows [] = 0
missing rows (a ∷ acts) = (if is_missing rows a.processor then 1 else 0) + missing rows acts
