-- Each row is of a cell that was touched and is chosen.
use Rattle.std.proofs.Common.{◌≡◌, ◌⊎◌, inl, inr, ℕ, zero, suc, ◌+◌, ◌<◌, ◌≤◌, Bool, true, false, List, [], ◌∷◌, Option, None, Some, ap}
use Rattle.std.proofs.Common.{◌∙◌, arith, drop}
use Rattle.std.proofs.Common.{get_or, length, map, min, nat_lt, refl, subst, sym, take}
use Rattle.std.proofs.lemmas.Bool.{cases_lt}
use Rattle.std.proofs.lemmas.List.{take-append-drop}
use Rattle.std.proofs.lemmas.List.Elements.{Contains-append_cases, Contains-append_left, Contains-append_right}
use Rattle.std.specs.List.{Contains, filter, flat_map, fold}
use Rattle.std.specs.Prelude.{if◌then◌else◌}
use Rattle.pram_model.proofs.Truths.{unsome}
use Rattle.journal.specs.Entries.{Entry}
use Rattle.pictures.specs.declared.flows.spans.CellSpan.{CellSpan}
use Rattle.pictures.specs.Flows.Cells.{act_cells, entry_cells, fault_cell, fault_cells, first_rows, is_chosen}
use Rattle.pictures.specs.Acts.{acts_in}
use Rattle.pictures.specs.Flows.Cells.{least_from, nearer, rows_from, touched, with_row}
use Rattle.pictures.specs.Flows.Laws.{cells, found, statements}
use Rattle.pictures.proofs.OfFlows.Members.{first, kept, later, of_kept, passes_test}
use Rattle.pictures.proofs.OfFlows.FaultRow.{one_of}
use Rattle.pictures.proofs.OfFlows.Least.{chosen_folds}

nearer_none : (x d c : ℕ) (b : Bool) → (if b then None else Some d) ≡ Some c → d ≡ c
nearer_none x d c true e = cc
nearer_none x d c false e = unsome d c e

lesser : (b d c : ℕ) → min b d ≡ c → (Some b ≡ Some c) ⊎ (d ≡ c)
lesser b d c e = by (cases_lt b d) where
  by : (b < d) ⊎ (d ≤ b) → (Some b ≡ Some c) ⊎ (d ≡ c)
  by (inl below) = let is : b ≡ c = omega (arith, below, e) in inl (ap Some is)
  by (inr other) = inr (omega (arith, other, e))

nearer_some : (x a d c : ℕ) (b : Bool) → (if b then Some a else Some (min a d)) ≡ Some c → (Some a ≡ Some c) ⊎ (d ≡ c)
nearer_some x a d c true e = inl e
nearer_some x a d c false e = lesser a d c (unsome (min a d) c e)

nearer_is : (x : ℕ) (o : Option ℕ) (d c : ℕ) → nearer x o d ≡ Some c → (o ≡ Some c) ⊎ (d ≡ c)
nearer_is x None d c e = inr (nearer_none x d c (nat_lt d x) e)
nearer_is x (Some a) d c e = nearer_some x a d c (nat_lt d x) e

least_there : (x : ℕ) (o : Option ℕ) (ds : List ℕ) (c : ℕ) → fold (nearer x) o ds ≡ Some c → (o ≡ Some c) ⊎ Contains ds c
least_there x o [] c e = inl e
least_there x o (d ∷ ds) c e = by (least_there x (nearer x o d) ds c e) where
  here : (o ≡ Some c) ⊎ (d ≡ c) → (o ≡ Some c) ⊎ Contains (d ∷ ds) c
  here (inl before) = inl before
  here (inr same) = inr (subst (λ y. Contains (y ∷ ds) c) (sym same) (first c ds))

  by : (nearer x o d ≡ Some c) ⊎ Contains ds c → (o ≡ Some c) ⊎ Contains (d ∷ ds) c
  by (inl now) = here (nearer_is x o d c now)
  by (inr behind) = inr (later d ds c behind)

only_one : (b c k : ℕ) → k < length (b ∷ []) → get_or (b ∷ []) k c ≡ c → b ≡ c
only_one b c zero within is = is
only_one b c (suc k) within is = absurd (omega (arith, within))

row_there : (more x : ℕ) (ds : List ℕ) (c : ℕ) (o : Option ℕ) → least_from x ds ≡ o →
    ((y : ℕ) → Contains (rows_from more y ds) c → Contains ds c) → Contains (with_row o (λ y. rows_from more y ds)) c → Contains ds c
row_there more x ds c None is rest one = absurd (omega (arith, one.1))
row_there more x ds c (Some b) is rest one = by (Contains-append_cases (b ∷ []) (rows_from more (b + 1) ds) c one) where
  found : (None ≡ Some b) ⊎ Contains ds b → Contains ds b
  found (inl never) = cc
  found (inr there) = there

  by : Contains (b ∷ []) c ⊎ Contains (rows_from more (b + 1) ds) c → Contains ds c
  by (inl here) = subst (λ y. Contains ds y) (only_one b c here.0 here.1 here.2) (found (least_there x None ds b is))
  by (inr behind) = rest (b + 1) behind

rows_there : (more x : ℕ) (ds : List ℕ) (c : ℕ) → Contains (rows_from more x ds) c → Contains ds c
rows_there zero x ds c one = absurd (omega (arith, one.1))
rows_there (suc more) x ds c one = row_there more x ds c (least_from x ds) refl (λ y there. rows_there more y ds c there) one

-- the cell of a fault is touched

fault_here : (e : Entry) (es : List Entry) (d : ℕ) → (Contains (flat_map fault_cells es) d → Contains (flat_map entry_cells es) d) →
    Contains (fault_cells e) d ⊎ Contains (flat_map fault_cells es) d → Contains (flat_map entry_cells (e ∷ es)) d
fault_here e es d rest (inl here) =
    Contains-append_left (entry_cells e) (flat_map entry_cells es) d
    (Contains-append_right (flat_map act_cells (acts_in e)) (fault_cells e) d here)
fault_here e es d rest (inr behind) = Contains-append_right (entry_cells e) (flat_map entry_cells es) d (rest behind)

fault_among : (es : List Entry) (d : ℕ) → Contains (flat_map fault_cells es) d → Contains (flat_map entry_cells es) d
fault_among [] d one = one
fault_among (e ∷ es) d one =
    fault_here e es d (fault_among es d) (Contains-append_cases (fault_cells e) (flat_map fault_cells es) d one)

pub touched_by_fault : (only : List CellSpan) (es : List Entry) (d : ℕ) → fault_cell only es ≡ Some d → Contains (touched only es) d
touched_by_fault only es d is =
    by (least_there 0 None (filter (is_chosen only) (flat_map fault_cells es)) d (chosen_folds only 0 None (flat_map fault_cells es) ∙ is))
  where
    by : (None ≡ Some d) ⊎ Contains (filter (is_chosen only) (flat_map fault_cells es)) d → Contains (touched only es) d
    by (inl never) = cc
    by (inr there) =
        kept (is_chosen only) (flat_map entry_cells es) d
        (fault_among es d (of_kept (is_chosen only) (flat_map fault_cells es) d there))
        (passes_test (is_chosen only) (flat_map fault_cells es) d there)

touched_row : (only : List CellSpan) (es : List Entry) (c : ℕ) → (fault_cell only es ≡ Some c) ⊎ Contains (first_rows only es) c →
    Contains (touched only es) c
touched_row only es c (inl fault) = touched_by_fault only es c fault
touched_row only es c (inr row) = rows_there 65 0 (touched only es) c row

among_touched : (only : List CellSpan) (es : List Entry) (from to c : ℕ) → Contains (cells only es from to) c →
    Contains (touched only (map (λ p. p.1) (statements es from to))) c
among_touched only es from to c one =
    let all = found only es from to in
    let drawn = map (λ p. p.1) (statements es from to) in
    let among : Contains all c = subst (λ (rows : List ℕ). Contains rows c) (take-append-drop 64 all)
    (Contains-append_left (take 64 all) (drop 64 all) c one) in
    touched_row only drawn c (one_of (fault_cell only drawn) (first_rows only drawn) c among)

pub row_is_chosen : (only : List CellSpan) (es : List Entry) (from to c : ℕ) → Contains (cells only es from to) c → is_chosen only c ≡ true
row_is_chosen only es from to c one =
    passes_test (is_chosen only) (flat_map entry_cells (map (λ p. p.1) (statements es from to))) c (among_touched only es from to c one)

pub row_was_touched : (only : List CellSpan) (es : List Entry) (from to c : ℕ) → Contains (cells only es from to) c →
    Contains (flat_map entry_cells (map (λ p. p.1) (statements es from to))) c
row_was_touched only es from to c one =
    of_kept (is_chosen only) (flat_map entry_cells (map (λ p. p.1) (statements es from to))) c (among_touched only es from to c one)
