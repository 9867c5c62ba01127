-- What active processors note in a formula, as evaluation has it by rows.
use Rattle.std.proofs.Common.{◌≡◌, ℕ, ◌+◌, ◌<◌, List, [], ◌∷◌, map, get_or, Bool, if◌then◌else◌, Option, Some, None}
use Rattle.std.proofs.Common.{ℤ, refl, sym, ap, ◌∙◌, arith}
use Rattle.std.specs.List.{filter, range_with_len}
use Rattle.superstep_machine.proofs.KeyOrder.{none_least, keys_are_monoid}
use Rattle.pram_model.specs.declared.rule.Rule.{Rule}
use Rattle.pram_values.specs.declared.place.Place.TheVariants.{Processor}
use Rattle.pram_values.specs.Total.{total}
use Rattle.pram_values.proofs.Totals.{total_same, total_none, total_map, total_within}
use Rattle.write_rules.specs.Rule.{shares_reads}
use Rattle.superstep_machine.specs.Keys.{least}
use Rattle.superstep_machine.specs.Sending.{several, asks_for, put_conflict}
use Rattle.pram_check.specs.Checked.{Checked}
use Rattle.pram_meaning.specs.Store.{State, member_of, seen_by}
use Rattle.statement_evaluation.specs.Rows.{Row, trail}
use Rattle.statement_evaluation.specs.Noted.{Heading, moment, notes_behind, notes, readers, read_key, reads_noted, verdict, writes_at}
use Rattle.statement_evaluation.specs.Noted.{writes_noted}
use Rattle.statement_evaluation.specs.Noted.{noted_in}
use Rattle.plain_form.specs.Formulas.{Formula}
use Rattle.compiled_formulas.specs.Terms.{steps_in}
use Rattle.compiled_formulas.specs.Inside.{row_in}
use Rattle.compiled_formulas.proofs.ReadColumns.{column_key}
use Rattle.compiled_formulas.proofs.LevelConflicts.{total_filter}
use Rattle.compiled_formulas.proofs.Sums.{sum_of}

module _ (h : Heading) (p : Checked) (m : State) (e : Formula) where
  abbrev row : ℕ → Row
  row = row_in p m e

  abbrev column : ℕ → ℕ → Option ℕ
  column d v = get_or (trail (steps_in (seen_by p m v) e)) d None

  -- their own faults
  own_notes : (width : ℕ) (active : ℕ → Bool) (index : ℕ → ℤ) → ((v : ℕ) → v < width → index v ≡ (member_of m.team v).index) →
      sum_of width active (λ v. notes_behind h 0 (Processor (index v)) (steps_in (seen_by p m v) e))
      ≡ notes h (map row (filter active (range_with_len 0 width)))
  own_notes width active index same =
      let there = λ (v : ℕ). notes_behind h 0 (Processor (member_of m.team v).index) (steps_in (seen_by p m v) e) in
      total_within None least (λ v. if active v then notes_behind h 0 (Processor (index v)) (steps_in (seen_by p m v) e) else None)
      (λ v. if active v then there v else None) width 0
      (λ v l. ap (λ i. if active v then notes_behind h 0 (Processor i) (steps_in (seen_by p m v) e) else None) (same v (omega (arith, l))))
      ∙ sym (total_filter None least keys_are_monoid.neutral active there (range_with_len 0 width))
      ∙ sym (total_map None least (λ (r : Row). notes_behind h 0 (Processor r.processor) r.whole.steps) row
      (filter active (range_with_len 0 width)))

  module _ (vs : List ℕ) where
    -- the conflicts of their reads
    readers_are : (d c : ℕ) → total None several (λ v. asks_for c (column d v)) vs ≡ readers d c (map row vs)
    readers_are d c = sym (total_map None several (λ (r : Row). asks_for c (get_or (trail r.whole.steps) d None)) row vs)

    reads_are : (cells n : ℕ) →
        total None least (column_key h cells vs column) (range_with_len 0 n)
        ≡ total None least (reads_noted h cells (map row vs)) (range_with_len 0 n)
    reads_are cells n =
        total_same None least (column_key h cells vs column) (reads_noted h cells (map row vs))
        (λ d. total_same None least (λ c. read_key h (d + 1) c (total None several (λ v. asks_for c (column d v)) vs))
        (λ c. read_key h (d + 1) c (readers d c (map row vs))) (λ c. ap (read_key h (d + 1) c) (readers_are d c)) (range_with_len 0 cells))
        (range_with_len 0 n)

    no_writes : (c : ℕ) (us : List ℕ) → writes_at c (map row us) ≡ []
    no_writes c [] = refl
    no_writes c (u ∷ us) = no_writes c us

    none_written : (rule : Rule) (cells n : ℕ) → writes_noted h rule cells (map row vs) n ≡ None
    none_written rule cells n =
        total_none None least keys_are_monoid (λ c. put_conflict (Some (moment h n)) c (verdict rule (writes_at c (map row vs))))
        (λ c. ap (λ ws. put_conflict (Some (moment h n)) c (verdict rule ws)) (no_writes c vs)) (range_with_len 0 cells)

    -- with no writes that is all that is noted
    pub rows_note : (rule : Rule) (cells n : ℕ) →
        noted_in h rule cells n (map row vs)
        ≡ least (notes h (map row vs))
        (if shares_reads rule then None else total None least (column_key h cells vs column) (range_with_len 0 n))
    rows_note rule cells n =
        ap (least (notes h (map row vs)))
        ((λ i. least (if shares_reads rule then None else sym (reads_are cells n) i) (none_written rule cells n i))
        ∙ none_least (if shares_reads rule then None else total None least (column_key h cells vs column) (range_with_len 0 n)))

  pub all_noted : (width : ℕ) (active : ℕ → Bool) (index : ℕ → ℤ) → ((v : ℕ) → v < width → index v ≡ (member_of m.team v).index) →
      (rule : Rule) (cells n : ℕ) →
      least (sum_of width active (λ v. notes_behind h 0 (Processor (index v)) (steps_in (seen_by p m v) e)))
      (if shares_reads rule then None else
      total None least (column_key h cells (filter active (range_with_len 0 width)) column) (range_with_len 0 n))
      ≡ noted_in h rule cells n (map row (filter active (range_with_len 0 width)))
  all_noted width active index same rule cells n =
      let vs = filter active (range_with_len 0 width) in
      ap (λ k. least k (if shares_reads rule then None else total None least (column_key h cells vs column) (range_with_len 0 n)))
      (own_notes width active index same)
      ∙ sym (rows_note vs rule cells n)
