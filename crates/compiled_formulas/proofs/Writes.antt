-- A write behind its formulas notes and leaves what evaluation says.
use Rattle.std.proofs.Common.{◌≡◌, ℕ, ◌+◌, ◌<◌, List, [], ◌∷◌, ◌++◌, map, length, get_or, if◌then◌else◌}
use Rattle.std.proofs.Common.{Option, None, ℤ, sym, ap, ◌∙◌, append_assoc, arith}
use Rattle.std.specs.List.{range_with_len}
use Rattle.superstep_machine.proofs.KeyOrder.{none_least, keys_are_monoid}
use Rattle.pram_model.specs.declared.rule.Rule.{Rule}
use Rattle.pram_model.specs.Layout.{cell_of, total_size}
use Rattle.pram_values.specs.declared.place.Place.TheVariants.{Processor}
use Rattle.pram_values.specs.Total.{total}
use Rattle.pram_values.proofs.Totals.{total_same, total_map, total_both, total_joined, total_within, middle}
use Rattle.write_rules.specs.Rule.{shares_reads}
use Rattle.superstep_machine.specs.declared.key.Key.{Key}
use Rattle.superstep_machine.specs.Keys.{least}
use Rattle.superstep_machine.specs.Results.{missing}
use Rattle.superstep_machine.specs.Sending.{several, asks_for}
use Rattle.pram_check.specs.Checked.{Checked}
use Rattle.pram_meaning.specs.Store.{State, member_of, seen_by}
use Rattle.statement_evaluation.specs.Terms.{Task, Writes, task_positions}
use Rattle.statement_evaluation.specs.Whole.{Step, testing, value, steps}
use Rattle.statement_evaluation.specs.Rows.{Row, row_of, rows, trail}
use Rattle.statement_evaluation.specs.Noted as evaluation
use Rattle.statement_evaluation.specs.Noted.{Heading, moment, note_key, notes_behind, readers, read_key, reads_noted, verdict, writes_at}
use Rattle.statement_evaluation.specs.Noted.{writes_noted}
use Rattle.plain_form.specs.Formulas.{Formula, Pair, positions}
use Rattle.compiled_formulas.specs.Terms.{term, steps_in}
use Rattle.compiled_formulas.specs.Inside.{row_in}
use Rattle.compiled_formulas.specs.Tasks.{IsSingle}
use Rattle.compiled_formulas.proofs.StepNotes.{length_steps, with_last}
use Rattle.compiled_formulas.proofs.ReadColumns.{column_key, no_column_key, cell_first, cell_behind, range_last}
use Rattle.compiled_formulas.proofs.InsideNotes.{rows_note}
use Rattle.compiled_formulas.proofs.Tasks.{single_steps, single_positions}

-- ---- by rows

module _ (p : Checked) (m : State) (entry : ℕ) (d e : Formula) (sd : IsSingle d) (se : IsSingle e) (h : Heading) (vs : List ℕ) where
  abbrev task : Task
  task = Writes entry (term d) (term e)

  abbrev count : ℕ
  count = positions d + positions e

  abbrev cell : ℕ → Option ℕ
  cell v = cell_of p.layout entry (value (seen_by p m v) (term d))

  abbrev index : ℕ → ℤ
  index v = (member_of m.team v).index

  abbrev all_steps : ℕ → List Step
  all_steps v = steps (seen_by p m v) (term d) ++ (steps (seen_by p m v) (term e) ++ testing (missing (cell v)) ∷ [])

  -- the steps of a write are those of the pair and one more
  steps_are : (v : ℕ) → all_steps v ≡ steps_in (seen_by p m v) (Pair d e) ++ testing (missing (cell v)) ∷ []
  steps_are v =
      (λ i. sym (single_steps (seen_by p m v) d sd) i ++ (sym (single_steps (seen_by p m v) e se) i ++ testing (missing (cell v)) ∷ []))
      ∙ sym (append_assoc (steps_in (seen_by p m v) d) (steps_in (seen_by p m v) e) (testing (missing (cell v)) ∷ []))

  -- what they note of their writes
  abbrev pub missed : Option Key
  missed = total None least (λ v. note_key h (count + 1) (Processor (index v)) (missing (cell v))) vs

  notes_are : evaluation.notes h (rows p m task vs) ≡ least (evaluation.notes h (map (row_in p m (Pair d e)) vs)) missed
  notes_are =
      let x = λ (v : ℕ). notes_behind h 0 (Processor (index v)) (steps_in (seen_by p m v) (Pair d e)) in
      let y = λ (v : ℕ). note_key h (count + 1) (Processor (index v)) (missing (cell v)) in
      total_map None least (λ (r : Row). notes_behind h 0 (Processor r.processor) r.whole.steps) (row_of p m task) vs
      ∙ total_same None least (λ v. notes_behind h 0 (Processor (index v)) (all_steps v)) (λ v. least (x v) (y v))
      (λ v. ap (notes_behind h 0 (Processor (index v))) (steps_are v)
      ∙ with_last h (Processor (index v)) (steps_in (seen_by p m v) (Pair d e)) (testing (missing (cell v))) 0 count
      (length_steps (seen_by p m v) (Pair d e))
      ∙ ap (λ q. least (x v) (note_key h q (Processor (index v)) (missing (cell v))))
      (let k : 0 + count + 1 ≡ count + 1 = omega arith in k)) vs
      ∙ total_both None least keys_are_monoid x y vs
      ∙ ap (λ k. least k missed)
      (sym (total_map None least (λ (r : Row). notes_behind h 0 (Processor r.processor) r.whole.steps) (row_in p m (Pair d e)) vs))

  abbrev column : ℕ → ℕ → Option ℕ
  column q v = get_or (trail (steps_in (seen_by p m v) (Pair d e))) q None

  abbrev whole_column : ℕ → ℕ → Option ℕ
  whole_column q v = get_or (trail (all_steps v)) q None

  -- no read is at the position of the write
  reads_are : (size : ℕ) →
      total None least (reads_noted h size (rows p m task vs)) (range_with_len 0 (count + 1))
      ≡ total None least (column_key h size vs column) (range_with_len 0 count)
  reads_are size =
      let noted_at = reads_noted h size (rows p m task vs) in
      total_same None least noted_at (column_key h size vs whole_column)
      (λ q. total_same None least (λ c. read_key h (q + 1) c (readers q c (rows p m task vs)))
      (λ c. read_key h (q + 1) c (total None several (λ v. asks_for c (whole_column q v)) vs))
      (λ c. ap (read_key h (q + 1) c)
      (total_map None several (λ (r : Row). asks_for c (get_or (trail r.whole.steps) q None)) (row_of p m task) vs))
      (range_with_len 0 size))
      (range_with_len 0 (count + 1))
      ∙ ap (total None least (column_key h size vs whole_column)) (range_last 0 count)
      ∙ total_joined None least keys_are_monoid (column_key h size vs whole_column) (range_with_len 0 count) ((0 + count) ∷ [])
      ∙ (λ i. least (before i) ((none_least (column_key h size vs whole_column (0 + count))
      ∙ no_column_key h size vs whole_column (0 + count) last) i))
      ∙ none_least (total None least (column_key h size vs column) (range_with_len 0 count))
    where
      long : (v : ℕ) → length (steps_in (seen_by p m v) (Pair d e)) ≡ count
      long v = length_steps (seen_by p m v) (Pair d e)

      last : (v : ℕ) → whole_column (0 + count) v ≡ None
      last v =
          let k = long v in
          ap (λ ss. get_or (trail ss) (0 + count) None) (steps_are v)
          ∙ cell_behind (steps_in (seen_by p m v) (Pair d e)) (testing (missing (cell v)) ∷ []) (0 + count) 0 (omega (arith, k))

      same_column : (q v : ℕ) → q < count → whole_column q v ≡ column q v
      same_column q v l =
          let k = long v in
          ap (λ ss. get_or (trail ss) q None) (steps_are v)
          ∙ cell_first (steps_in (seen_by p m v) (Pair d e)) (testing (missing (cell v)) ∷ []) q (omega (arith, k, l))

      before : total None least (column_key h size vs whole_column) (range_with_len 0 count)
          ≡ total None least (column_key h size vs column) (range_with_len 0 count)
      before = total_within None least (column_key h size vs whole_column) (column_key h size vs column) count 0
          (λ q l. total_same None least (λ c. read_key h (q + 1) c (total None several (λ v. asks_for c (whole_column q v)) vs))
          (λ c. read_key h (q + 1) c (total None several (λ v. asks_for c (column q v)) vs))
          (λ c. ap (read_key h (q + 1) c)
          (total_same None several (λ v. asks_for c (whole_column q v)) (λ v. asks_for c (column q v))
          (λ v. ap (asks_for c) (same_column q v (omega (arith, l)))) vs)) (range_with_len 0 size))

  -- all that is noted, by what the formulas note and what the write adds
  pub write_noted : (rule : Rule) →
      evaluation.noted h rule p.layout task (rows p m task vs)
      ≡ least (evaluation.noted_in h rule (total_size p.layout) count (map (row_in p m (Pair d e)) vs))
      (least missed (writes_noted h rule (total_size p.layout) (rows p m task vs) (count + 1)))
  write_noted rule =
      let size = total_size p.layout in
      let rs = rows p m task vs in
      let n = evaluation.notes h (map (row_in p m (Pair d e)) vs) in
      let c = if shares_reads rule then None else total None least (column_key h size vs column) (range_with_len 0 count) in
      let w = writes_noted h rule size rs (count + 1) in
      let places : task_positions task ≡ count + 1 = λ i. sym (single_positions d sd) i + sym (single_positions e se) i + 1 in
      ap (λ k. evaluation.noted_in h rule size k rs) places
      ∙ (λ i. least (notes_are i) (least (if shares_reads rule then None else reads_are size i) w))
      ∙ middle None least keys_are_monoid n missed c w
      ∙ ap (λ k. least k (least missed w)) (sym (rows_note h p m (Pair d e) vs rule size count))
