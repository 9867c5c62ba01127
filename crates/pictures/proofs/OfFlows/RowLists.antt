-- Rows, one by one.
use Rattle.std.proofs.Common.{◌≡◌, ◌∙◌, ℕ, suc, ◌+◌, ◌-◌, ◌<◌, ◌≤◌, List, [], ◌∷◌, ◌++◌, Option, None, Some, ap, append_assoc, arith}
use Rattle.std.proofs.Common.{length, refl, sym}
use Rattle.std.proofs.lemmas.List.{append-nil}
use Rattle.pictures.specs.Flows.Cells.{least_from, rows_from, with_row}

-- what was found, and what is still to find
pub record InRows (cells found : List ℕ) (x : ℕ) : Type 0 where
  pub same : rows_from 65 0 cells ≡ found ++ rows_from (65 - length found) x cells
  pub few : length found ≤ 65

pub rows_start : (cells : List ℕ) → InRows cells [] 0
rows_start cells = record { same = refl; few = omega arith }

next_row : (cells found : List ℕ) (x : ℕ) → length found < 65 →
    rows_from (65 - length found) x cells ≡
    with_row (least_from x cells) (λ y. rows_from (65 - (length found + 1)) y cells)
next_row cells found x h =
    let more : 65 - length found ≡ suc (65 - (length found + 1)) = omega (arith, h) in ap (λ n. rows_from n x cells) more

pub rows_go : (cells found new : List ℕ) (x c y : ℕ) (o : Option ℕ) → InRows cells found x → length found < 65 → o ≡ least_from x cells →
    o ≡ Some c → new ≡ found ++ c ∷ [] → length new ≡ length found + 1 → y ≡ c + 1 → InRows cells new y
rows_go cells found new x c y o s h is some n long next =
    let row : rows_from (65 - length found) x cells ≡ c ∷ rows_from (65 - length new) y cells =
    next_row cells found x h ∙ ap (λ l. with_row l (λ y. rows_from (65 - (length found + 1)) y cells)) (sym is ∙ some)
    ∙ ap (λ y. c ∷ rows_from (65 - (length found + 1)) y cells) (sym next)
    ∙ ap (λ k. c ∷ rows_from (65 - k) y cells) (sym long) in
    record {
      same = s.same ∙ ap (λ l. found ++ l) row ∙ sym (append_assoc found (c ∷ []) (rows_from (65 - length new) y cells))
          ∙ ap (λ l. l ++ rows_from (65 - length new) y cells) (sym n);
      few = omega (arith, h, long);
    }

pub rows_over : (cells found : List ℕ) (x : ℕ) (o : Option ℕ) → InRows cells found x → length found < 65 → o ≡ least_from x cells →
    o ≡ None → found ≡ rows_from 65 0 cells
rows_over cells found x o s h is none =
    sym (s.same
    ∙ ap (λ l. found ++ l) (next_row cells found x h
    ∙ ap (λ l. with_row l (λ y. rows_from (65 - (length found + 1)) y cells)) (sym is ∙ none))
    ∙ append-nil found)

pub rows_full : (cells found : List ℕ) (x : ℕ) → InRows cells found x → 65 ≤ length found → found ≡ rows_from 65 0 cells
rows_full cells found x s h =
    let few = s.few in
    let none : 65 - length found ≡ 0 = omega (arith, h) in
    sym (s.same ∙ ap (λ n. found ++ rows_from n x cells) none ∙ append-nil found)

pub ruleset rows_found = (rows_start, rows_go, rows_over, rows_full)
