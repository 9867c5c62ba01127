-- The row of the cell of a fault.
use Rattle.std.proofs.Common.{◌≡◌, ◌⊎◌, inl, inr, ◌∙◌, ℕ, ◌+◌, ◌<◌, ◌≤◌, ◌≢◌, ◌&&◌, Bool, true, false, List, Option, None, Some, ap, arith, drop}
use Rattle.std.proofs.Common.{get_or, length, map, nat_lt, refl, sym}
use Rattle.std.proofs.lemmas.Bool.{cases_lt, ltb-true}
use Rattle.std.proofs.lemmas.Grind.{get_or-set_at}
use Rattle.std.proofs.lemmas.List.{drop_all, get_or-set_other, length-set}
use Rattle.std.specs.Prelude.{if◌then◌else◌, slice_index, slice_set}
use Rattle.std.proofs.lemmas.List.Sums.{fold-append}
use Rattle.std.specs.List.{Contains, flat_map, fold}
use Rattle.pictures.specs.declared.flows.spans.CellSpan.{CellSpan}
use Rattle.pictures.specs.declared.flows.column as column
use Rattle.journal.specs.Entries.{entry_is}
use Rattle.pictures.specs.Flows.Cells.{fault_cell, fault_cells, nearer_if, with_fault}
use Rattle.pictures.specs.Flows.Drawing.{column_is, entries_of}
use Rattle.text_out.proofs.Items.{at_item}

pub record InFaults (only : List CellSpan) (cs : List column.Column.Column) (i : ℕ) (now : Option ℕ) : Type 0 where
  pub same : fault_cell only (entries_of (map column_is cs)) ≡
      fold (nearer_if only 0) now (flat_map fault_cells (entries_of (map column_is (drop i cs))))

pub faults_start : (only : List CellSpan) (cs : List column.Column.Column) → InFaults only cs 0 None
faults_start only cs = record { same = refl }

pub faults_go : (only : List CellSpan) (cs : List column.Column.Column) (i : ℕ) (c : column.Column.Column) (now new : Option ℕ) →
    InFaults only cs i now → i < length cs → c ≡ get_or cs i c → new ≡ fold (nearer_if only 0) now (fault_cells (entry_is c.entry)) →
    InFaults only cs (i + 1) new
faults_go only cs i c now new s h is n = record {
  same = s.same ∙ at_item (λ xs. fold (nearer_if only 0) now (flat_map fault_cells (entries_of (map column_is xs)))) cs i c h is
      ∙ fold-append (nearer_if only 0) now (fault_cells (entry_is c.entry))
      (flat_map fault_cells (entries_of (map column_is (drop (i + 1) cs))))
      ∙ ap (λ o. fold (nearer_if only 0) o (flat_map fault_cells (entries_of (map column_is (drop (i + 1) cs))))) (sym n);
}

pub faults_end : (only : List CellSpan) (cs : List column.Column.Column) (i : ℕ) (now : Option ℕ) → InFaults only cs i now →
    length cs ≤ i → now ≡ fault_cell only (entries_of (map column_is cs))
faults_end only cs i now s h =
    sym (s.same ∙ ap (λ xs. fold (nearer_if only 0) now (flat_map fault_cells (entries_of (map column_is xs)))) (drop_all i cs h))

pub ruleset faults_taken = (faults_start, faults_go, faults_end)

-- ---- what it changes

pub few_same : (f : Option ℕ) (rows : List ℕ) → length (with_fault f rows) ≤ 64 → with_fault f rows ≡ rows
few_same None rows h = refl
few_same (Some c) rows h = by (nat_lt 64 (length rows)) (nat_lt (slice_index rows 63) c) refl h
  where
    by : (a b : Bool) → nat_lt 64 (length rows) ≡ a → length (if a && b then slice_set rows 63 c else rows) ≤ 64 →
        (if a && b then slice_set rows 63 c else rows) ≡ rows
    by true true many g =
        let long = length-set rows 63 c in
        let more : 64 < length rows = ltb-true 64 (length rows) many in
        absurd (omega (arith, g, long, more))
    by true false many g = refl
    by false b many g = refl

set_one : (rows : List ℕ) (i c d : ℕ) → Contains (slice_set rows i c) d → (Some c ≡ Some d) ⊎ Contains rows d
set_one rows i c d one = by (cases_lt one.0 i) (cases_lt i one.0)
  where
    within : one.0 < length rows
    within = let long = length-set rows i c in let below = one.1 in omega (arith, long, below)

    other : one.0 ≢ i → Contains rows d
    other apart = (one.0, within, sym (get_or-set_other rows i one.0 c d apart) ∙ one.2)

    same : one.0 ≡ i → Some c ≡ Some d
    same at = ap Some (sym (get_or-set_at rows i one.0 c d at (omega (arith, within, at))) ∙ one.2)

    by : (one.0 < i) ⊎ (i ≤ one.0) → (i < one.0) ⊎ (one.0 ≤ i) → (Some c ≡ Some d) ⊎ Contains rows d
    by (inl less) q = inr (other (λ e. omega (arith, less, e)))
    by (inr more) (inl less) = inr (other (λ e. omega (arith, less, e)))
    by (inr more) (inr least) = inl (same (omega (arith, more, least)))

pub one_of : (f : Option ℕ) (rows : List ℕ) (d : ℕ) → Contains (with_fault f rows) d → (f ≡ Some d) ⊎ Contains rows d
one_of None rows d one = inr one
one_of (Some c) rows d one = by (nat_lt 64 (length rows) && nat_lt (slice_index rows 63) c) one
  where
    by : (a : Bool) → Contains (if a then slice_set rows 63 c else rows) d → (Some c ≡ Some d) ⊎ Contains rows d
    by false there = inr there
    by true there = set_one rows 63 c d there
