-- The writes of a row of processors, one more at a time, behind keys that ascend.
use Rattle.std.proofs.Common.{◌≡◌, ℕ, ℤ, ◌+◌, ◌<◌, List, [], ◌∷◌, ◌++◌, length, map, get_or, Option, Some, None, refl, sym, ap}
use Rattle.std.proofs.Common.{◌∙◌, arith, eqb}
use Rattle.std.specs.List.{filter_map, range_with_len}
use Rattle.std.proofs.lemmas.List.FromFn.{map-range_with_len_more}
use Rattle.pram_model.specs.declared.rule.Rule.{Rule}
use Rattle.superstep_machine.specs.Setting.{combining}
use Rattle.superstep_machine.specs.Words.{CellPut}
use Rattle.superstep_machine.specs.Worker.{HeldWrite, by_processor}
use Rattle.combining.specs.declared.compact.Compact.{Compact}
use Rattle.combining.specs.Compact.{entry_of, compact_of, held_at}
use Rattle.combining.specs.Held.{entry_of_write, hold, held_after, paired, put, put_at}
use Rattle.combining.specs.Writing.{first_writes}
use Rattle.combining.proofs.Ascents.{place_above}
use Rattle.combining.proofs.CompactLemmas.{held_back}
use Rattle.combining.proofs.Pairs.{hold_new}

-- writes are held one behind the other
pub held_after_append : (rule : Rule) (xs ys : List HeldWrite) (held : List CellPut) →
    held_after rule (xs ++ ys) held ≡ held_after rule ys (held_after rule xs held)
held_after_append rule [] ys held = refl
held_after_append rule (x ∷ xs) ys held = held_after_append rule xs ys (put rule x held)

there : List (Option HeldWrite) → List HeldWrite
there = filter_map (λ w. w)

there_more : (xs : List (Option HeldWrite)) (w : Option HeldWrite) → there (xs ++ w ∷ []) ≡ there xs ++ there (w ∷ [])
unfolding there
there_more [] w = refl
there_more (None ∷ xs) w = there_more xs w
there_more (Some x ∷ xs) w = ap (λ r. x ∷ r) (there_more xs w)

module _ (rule : Rule) (number : ℕ → ℤ) (written : ℕ → Option (ℕ × ℤ)) where
  abbrev at : ℕ → Option HeldWrite
  at j = by_processor (number j) (written j)

  writes_more : (j : ℕ) (held : List CellPut) → held_after rule (first_writes number written (j + 1)) held
      ≡ held_after rule (there (at j ∷ [])) (held_after rule (first_writes number written j) held)
  unfolding there
  writes_more j held =
      ap (λ xs. held_after rule (there xs) held) (map-range_with_len_more at 0 j j (omega arith))
      ∙ ap (λ xs. held_after rule xs held) (there_more (map at (range_with_len 0 j)) (at j))
      ∙ held_after_append rule (first_writes number written j) (there (at j ∷ [])) held

  -- one that writes, and one that doesn't
  pub writes_next : (j cell : ℕ) (value : ℤ) (held : List CellPut) → written j ≡ Some (cell, value) →
      held_after rule (first_writes number written (j + 1)) held
      ≡ put rule (record { processor = number j; cell = cell; value = value }) (held_after rule (first_writes number written j) held)
  unfolding there
  writes_next j cell value held e =
      writes_more j held
      ∙ ap (λ w. held_after rule (there (by_processor (number j) w ∷ [])) (held_after rule (first_writes number written j) held)) e

  pub writes_none : (j : ℕ) (held : List CellPut) → written j ≡ None → held_after rule (first_writes number written (j + 1)) held
      ≡ held_after rule (first_writes number written j) held
  unfolding there
  writes_none j held e =
      writes_more j held
      ∙ ap (λ w. held_after rule (there (by_processor (number j) w ∷ [])) (held_after rule (first_writes number written j) held)) e

-- a write whose cell is above all keys
pub put_above : (rule : Rule) (w : HeldWrite) (ks : List ℕ) (xs : List Compact) → length xs ≡ length ks →
    ((i : ℕ) → i < length ks → get_or ks i 0 < w.cell) →
    paired held_at (ks ++ w.cell ∷ []) (xs ++ compact_of (entry_of_write rule w) ∷ []) ≡ put rule w (paired held_at ks xs)
put_above rule w ks xs n below =
    let e = entry_of_write rule w in
    let change = λ (x : CellPut). put_at x.cell ((combining rule).join x.entry e) in
    hold_new held_at (λ (x : CellPut). eqb x.cell w.cell) change
    (λ (x : Compact). compact_of ((combining rule).join (entry_of x) e)) w.cell (compact_of e) (λ k x. refl)
    (λ k x. sym (held_back k ((combining rule).join (entry_of x) e))) ks xs n (sym (place_above w.cell ks below))
    ∙ ap (λ (y : CellPut). hold (λ (x : CellPut). eqb x.cell w.cell) change y (paired held_at ks xs)) (held_back w.cell e)
