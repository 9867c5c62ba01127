-- The parts of a set of processors, one by one.
use Rattle.std.proofs.Common.{◌≡◌, ℕ, List, [], ◌∷◌, ◌++◌, false, sym, subst, ap, ◌∙◌, ◌<◌, ◌≤◌, ◌+◌, length, take, get_or}
use Rattle.std.proofs.lemmas.List.{take_more, take_all}
use Rattle.pram_meaning.specs.Conflict.{Part}
use Rattle.abstract_runs.specs.declared.findings.Findings.{Findings}
use Rattle.abstract_runs.specs.declared.row.Row.{Row}
use Rattle.abstract_runs.specs.Given.{AreGiven, IsGiving}
use Rattle.abstract_runs.specs.Rows.{ArePartsBy, IsPartBy}
use Rattle.abstract_runs.specs.Rows as rows

-- the parts of some rows and of one more
pub data AreOneMore (faults : Findings) (known : List Row) (row : Row) : List Part → Type 0 where
  takes : {xs : List Part} {x : Part} → ArePartsBy faults known xs → IsPartBy faults row x → AreOneMore faults known row (xs ++ x ∷ [])
  passes : {xs : List Part} → ArePartsBy faults known xs → row.is_sure ≡ false → AreOneMore faults known row xs

one_before : (f : Findings) (first row : Row) (known : List Row) (x : Part) (xs : List Part) → IsPartBy f first x →
    AreOneMore f known row xs →
    AreOneMore f (first ∷ known) row (x ∷ xs)
one_before f first row known x xs p (takes h q) = takes (rows.takes p h) q
one_before f first row known x xs p (passes h u) = passes (rows.takes p h) u

none_before : (f : Findings) (first row : Row) (known : List Row) (xs : List Part) → first.is_sure ≡ false → AreOneMore f known row xs →
    AreOneMore f (first ∷ known) row xs
none_before f first row known xs u (takes h q) = takes (rows.passes u h) q
none_before f first row known xs u (passes h v) = passes (rows.passes u h) v

pub split_last : (f : Findings) (known : List Row) (row : Row) (xs : List Part) → ArePartsBy f (known ++ row ∷ []) xs →
    AreOneMore f known row xs
split_last f [] row xs (rows.takes p (rows.none)) = takes rows.none p
split_last f [] row xs (rows.passes u (rows.none)) = passes rows.none u
split_last f (first ∷ known) row xs (rows.takes p h) = one_before f first row known _ _ p (split_last f known row _ h)
split_last f (first ∷ known) row xs (rows.passes u h) = none_before f first row known _ u (split_last f known row _ h)

by_kind : (P : List Part → Type 0) (f : Findings) (known : List Row) (row : Row) (xs : List Part) →
    ((ys : List Part) → ArePartsBy f known ys → row.is_sure ≡ false → P ys) →
    ((ys : List Part) (x : Part) → ArePartsBy f known ys → IsPartBy f row x → P (ys ++ x ∷ [])) → AreOneMore f known row xs → P xs
by_kind P f known row xs none some (takes h q) = some _ _ h q
by_kind P f known row xs none some (passes h u) = none _ h u

-- what holds of the parts of one row more
pub parts_more : (P : List Part → Type 0) (f : Findings) (all : List Row) (k : ℕ) (row d : Row) (xs : List Part) → k < length all →
    row ≡ get_or all k d → ((ys : List Part) → ArePartsBy f (take k all) ys → row.is_sure ≡ false → P ys) →
    ((ys : List Part) (x : Part) → ArePartsBy f (take k all) ys → IsPartBy f row x → P (ys ++ x ∷ [])) →
    ArePartsBy f (take (k + 1) all) xs → P xs
parts_more P f all k row d xs below is none some h =
    by_kind P f (take k all) row xs none some (split_last f (take k all) row xs
    (subst (λ rs. ArePartsBy f rs xs) (take_more all k d below ∙ ap (λ x. take k all ++ x ∷ []) (sym is)) h))

-- those of no row
pub parts_none : (P : List Part → Type 0) (f : Findings) (all : List Row) (xs : List Part) → P [] → ArePartsBy f (take 0 all) xs → P xs
parts_none P f all xs p (rows.none) = p

-- those of all rows
pub parts_all : (f : Findings) (all : List Row) (k : ℕ) (xs : List Part) → length all ≤ k → ArePartsBy f all xs →
    ArePartsBy f (take k all) xs
parts_all f all k xs past h = subst (λ rs. ArePartsBy f rs xs) (sym (take_all k all past)) h

pub given_first : (xs : List Part) (x : Part) → AreGiven (xs ++ x ∷ []) → AreGiven xs
given_first [] x h = tt
given_first (y ∷ xs) x h = (h.0, given_first xs x h.1)

pub given_last : (xs : List Part) (x : Part) → AreGiven (xs ++ x ∷ []) → IsGiving x.attempt
given_last [] x h = h.0
given_last (y ∷ xs) x h = given_last xs x h.1
