-- Where the subscripts of an interval lead.
use Rattle.std.proofs.Common.{◌≡◌, ℕ, zero, suc, List, [], ◌∷◌, ℤ, ◌≤ℤ◌, ◌-ℤ◌, Bool, true, false, ◌&&◌, ◌||◌, Option, Some, None, refl}
use Rattle.std.proofs.Common.{subst, sym, ◌∙◌, arith}
use Rattle.std.proofs.Common.{length, ◌+◌, ◌≤◌, int_le, int_lt, nat_abs, if◌then◌else◌, tests}
use Rattle.std.specs.Int.{int_min, int_max}
use Rattle.std.proofs.lemmas.Int.{ints, clamps}
use Rattle.pram_model.specs.Layout.{SharedEntry, cell_at, cell_from, cell_of, size}
use Rattle.intervals.specs.declared.interval.Interval.{Interval}
use Rattle.intervals.specs.Intervals.{IsIn}
use Rattle.abstract_runs.specs.declared.placing.Place.{Place}
use Rattle.abstract_runs.specs.Placed.{IsPlacedBy}
use Rattle.abstract_runs.specs.Tried.{IsReadIn}

no_cell_from : (first : ℕ) (layout : List SharedEntry) (entry : ℕ) (z : ℤ) → length layout ≤ entry → cell_from first layout entry z ≡ None
no_cell_from first [] entry z h = refl
no_cell_from first (e ∷ es) zero z h = absurd (omega (arith, h))
no_cell_from first (e ∷ es) (suc entry) z h = no_cell_from (first + size e.bounds) es entry z (omega (arith, h))

pub no_cell : (layout : List SharedEntry) (entry : ℕ) (z : ℤ) (place : Place) → length layout ≤ entry → place.may_be_outside ≡ true →
    IsPlacedBy place (cell_of layout entry z)
no_cell layout entry z place h outside = subst (IsPlacedBy place) (sym (no_cell_from 0 layout entry z h)) outside

pub placed : (first : ℕ) (low high : ℤ) (at : Interval) (least most : ℤ) (place : Place) (found : Option ℕ) (z : ℤ) →
    least ≡ int_max at.least low → most ≡ int_min at.greatest high →
    ((z : ℤ) → least ≤ℤ z → z ≤ℤ most → IsReadIn place.reach (cell_at first low high z)) →
    place.may_be_outside ≡ (int_lt at.least low || int_lt high at.greatest) → IsIn z at → found ≡ cell_at first low high z →
    IsPlacedBy place found
placed first low high at least most place found z e f reads told h is =
    subst (IsPlacedBy place) (sym is) (by (int_le low z && int_le z high) refl)
  where
    by : (b : Bool) → (int_le low z && int_le z high) ≡ b → IsPlacedBy place (if b then Some (first + nat_abs (z -ℤ low)) else None)
    by true g =
        let l : at.least ≤ℤ z = h.least in
        let m : z ≤ℤ at.greatest = h.greatest in
        subst (λ b. IsReadIn place.reach (if b then Some (first + nat_abs (z -ℤ low)) else None)) g
        (reads z (grind (arith, ints, clamps, tests, e, g, l)) (grind (arith, ints, clamps, tests, f, g, m)))
    by false g =
        let l : at.least ≤ℤ z = h.least in
        let m : z ≤ℤ at.greatest = h.greatest in
        told ∙ grind (arith, ints, clamps, tests, g, l, m)
