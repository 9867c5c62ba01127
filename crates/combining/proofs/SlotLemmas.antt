-- Places for the entries of cells, of which the first are kept in a list.
use Rattle.std.proofs.Common.{◌≡◌, ℕ, zero, suc, ◌<◌, ◌≤◌, List, [], ◌∷◌, ◌++◌, length, get_or, set, None, refl, ap, arith}
use Rattle.combining.specs.Compact.{entry_if, places_with}
use Rattle.combining.specs.Gathering.{slot}
use Rattle.combining.specs.declared.compact.Compact.{Compact}

pub length_places : (n : ℕ) (xs : List Compact) → length (places_with n xs) ≡ n
length_places zero xs = refl
length_places (suc n) [] = ap suc (length_places n [])
length_places (suc n) (x ∷ xs) = ap suc (length_places n xs)

pub no_entries : (n o : ℕ) → slot (places_with n []) o ≡ None
no_entries zero o = refl
no_entries (suc n) zero = refl
no_entries (suc n) (suc o) = no_entries n o

-- behind those that are kept there is none
pub slot_past : (n : ℕ) (xs : List Compact) (o : ℕ) → length xs ≤ o → slot (places_with n xs) o ≡ None
slot_past n [] o l = no_entries n o
slot_past zero (x ∷ xs) o l = refl
slot_past (suc n) (x ∷ xs) zero l = absurd (omega arith)
slot_past (suc n) (x ∷ xs) (suc o) l = slot_past n xs o (omega arith)

pub slot_kept : (n : ℕ) (xs : List Compact) (o : ℕ) (x : Compact) → o < n → o < length xs → x ≡ get_or xs o x →
    entry_if x ≡ slot (places_with n xs) o
slot_kept n [] o x m l e = absurd (omega arith)
slot_kept zero (y ∷ ys) o x m l e = absurd (omega arith)
slot_kept (suc n) (y ∷ ys) zero x m l e = ap entry_if e
slot_kept (suc n) (y ∷ ys) (suc o) x m l e = slot_kept n ys o x (omega arith) (omega arith) e

-- one more that is none
pub places_more : (n : ℕ) (xs : List Compact) (x : Compact) → entry_if x ≡ None → places_with n (xs ++ x ∷ []) ≡ places_with n xs
places_more zero xs x none = refl
places_more (suc n) [] x none = ap (λ e. e ∷ places_with n []) none
places_more (suc n) (y ∷ ys) x none = ap (λ es. entry_if y ∷ es) (places_more n ys x none)

pub places_set : (n : ℕ) (xs : List Compact) (o : ℕ) (x : Compact) → o < length xs →
    places_with n (set xs o x) ≡ set (places_with n xs) o (entry_if x)
places_set n [] o x l = absurd (omega arith)
places_set zero (y ∷ ys) o x l = refl
places_set (suc n) (y ∷ ys) zero x l = refl
places_set (suc n) (y ∷ ys) (suc o) x l = ap (λ es. entry_if y ∷ es) (places_set n ys o x (omega arith))

-- a place that has none is emptied
pub places_past : (n : ℕ) (xs : List Compact) (o : ℕ) → length xs ≤ o → places_with n xs ≡ set (places_with n xs) o None
places_past zero xs o l = refl
places_past (suc n) [] zero l = refl
places_past (suc n) [] (suc o) l = ap (λ es. None ∷ es) (places_past n [] o (omega arith))
places_past (suc n) (y ∷ ys) zero l = absurd (omega arith)
places_past (suc n) (y ∷ ys) (suc o) l = ap (λ es. entry_if y ∷ es) (places_past n ys o (omega arith))
