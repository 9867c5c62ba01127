-- What is noted in a statement whose processors all go on after their faults, as keys of the machine.
use Rattle.std.specs.Prelude.{ℕ, ◌+◌, List, [], ◌∷◌, Bool, false, Option, Some, None, if◌then◌else◌, slice_index_or}
use Rattle.std.specs.List.{flat_map, range_with_len}
use Rattle.pram_model.specs.declared.rule.Rule.{Rule}
use Rattle.pram_model.specs.Layout.{SharedEntry, total_size}
use Rattle.pram_values.specs.declared.kind.Kind.{Kind}
use Rattle.pram_values.specs.declared.kind.Kind.TheVariants.{ReadConflict}
use Rattle.pram_values.specs.declared.place.Place.{Place}
use Rattle.pram_values.specs.declared.place.Place.TheVariants.{Processor}
use Rattle.pram_values.specs.Total.{total}
use Rattle.pram_values.specs.Value.{Value}
use Rattle.write_rules.specs.declared.write.Write.{Write}
use Rattle.write_rules.specs.Rule.{rule_value, shares_reads}
use Rattle.superstep_machine.specs.declared.key.Key.{Key}
use Rattle.superstep_machine.specs.Keys.{least}
use Rattle.superstep_machine.specs.Parts.{Moment}
use Rattle.superstep_machine.specs.Sending.{several, asks_for, is_several, conflict_at, put_conflict}
use Rattle.pram_meaning.specs.Conflict.{write_to}
use Rattle.statement_evaluation.specs.Terms.{Task, task_positions}
use Rattle.statement_evaluation.specs.Whole.{Step}
use Rattle.statement_evaluation.specs.Rows.{Row, trail}

-- which statement: how many had begun with it, and its line
pub record Heading : Type 0 where
  pub count : ℕ
  pub line : ℕ

abbrev pub moment : Heading → ℕ → Moment
moment h q = record { count = h.count; line = h.line; position = q }

-- ---- what is wrong at one place

-- the key of a note at a position
abbrev pub note_key : Heading → ℕ → Place → Option Kind → Option Key
note_key h q place None = None
note_key h q place (Some kind) =
    Some (record { count = h.count; position = q; conflict = false; place = place; kind = kind; line = h.line })

-- the least of the notes at the positions behind q
abbrev pub notes_behind : Heading → ℕ → Place → List Step → Option Key
notes_behind h q place [] = None
notes_behind h q place (s ∷ ss) = least (note_key h (q + 1) place s.note) (notes_behind h (q + 1) place ss)

abbrev pub notes : Heading → List Row → Option Key
notes h = total None least (λ (r : Row). notes_behind h 0 (Processor r.processor) r.whole.steps)

-- ---- conflicts of reads

-- how many read cell c behind q positions: none, one, or two and more
abbrev pub readers : ℕ → ℕ → List Row → Option Bool
readers q c = total None several (λ (r : Row). asks_for c (slice_index_or (trail r.whole.steps) q None))

-- the key at a cell that several read
abbrev pub read_key : Heading → ℕ → ℕ → Option Bool → Option Key
read_key h q c count = if is_several count then Some (conflict_at (moment h q) c ReadConflict) else None

-- at the position behind q others, by cell
abbrev pub reads_noted : Heading → ℕ → List Row → ℕ → Option Key
reads_noted h cells rows q = total None least (λ c. read_key h (q + 1) c (readers q c rows)) (range_with_len 0 cells)

-- ---- conflicts of writes

-- the writes to a cell
abbrev pub writes_at : ℕ → List Row → List Write
writes_at c = flat_map (λ (r : Row). write_to c r.processor r.whole.value.cell r.whole.value.value)

-- what the rule says to them: nothing where there are none
abbrev pub verdict : Rule → List Write → Option Value
verdict rule [] = None
verdict rule (w ∷ ws) = Some (rule_value rule w ws)

-- at position q, by cell
abbrev pub writes_noted : Heading → Rule → ℕ → List Row → ℕ → Option Key
writes_noted h rule cells rows q = total None least (λ c. put_conflict (Some (moment h q)) c (verdict rule (writes_at c rows)))
    (range_with_len 0 cells)

-- ---- all of it

-- The least key of a statement of n positions: the processors' own notes, the conflicts of reads at each position, where the rule
-- doesn't share them, and the conflicts of writes at the last one.
abbrev pub noted_in : Heading → Rule → (cells n : ℕ) → List Row → Option Key
noted_in h rule cells n rows =
    least (notes h rows)
    (least (if shares_reads rule then None else total None least (reads_noted h cells rows) (range_with_len 0 n))
    (writes_noted h rule cells rows n))

abbrev pub noted : Heading → Rule → List SharedEntry → Task → List Row → Option Key
noted h rule layout task rows = noted_in h rule (total_size layout) (task_positions task) rows
