-- That what is told of the inputs of a scope can be read.
use Rattle.std.proofs.Common.{ℕ, ℤ, List, [], ◌∷◌, ◌++◌, codes, lit≤, map}
use Rattle.std.specs.Prelude.{Option, Some, None}
use Rattle.json_texts.specs.Small.{IsReadable, IsSmall}
use Rattle.json_texts.proofs.Small.{HasSmall, has_all, small_large, small_list, small_map, small_object, small_values, smaller}
use Rattle.pram_check.specs.Checked.{Checked}
use Rattle.pram_model.specs.Layout.{SharedEntry}
use Rattle.scopes.specs.Firsts.{Met}
use Rattle.scopes.specs.Found.{Found}
use Rattle.scopes.specs.declared.findings.Span.{Span}
use Rattle.scopes.specs.declared.specification.Specification.{Specification}
use Rattle.json_texts.specs.ExplorationFacts.{asked_fields, behind_fields, cells_fields, cost_fields, count_fields, exploration_facts}
use Rattle.json_texts.specs.ExplorationFacts.{first_fields, input_fields, met_facts, span_facts, span_fields, specified_fields}
use Rattle.json_texts.specs.OutcomeFacts.{fault_fields}
use Rattle.json_texts.proofs.Readable.{readable, small_fault}

small_met : (layout : List SharedEntry) (m : Met) → IsSmall 2 (met_facts layout m)
small_met layout m =
    small_object 1 ((codes "input", _) ∷ fault_fields layout m.fault) (small_values 0 m.input, small_fault 1 layout m.fault)

small_span : (s : Span) → IsSmall 1 (span_facts s)
small_span s = small_object 0 ((codes "least", _) ∷ (codes "greatest", _) ∷ []) (small_large 0 s.least, (small_large 0 s.greatest, tt))

small_spans : (name : List ℕ) (s : Option Span) → HasSmall 3 (span_fields name s)
small_spans name None = tt
small_spans name (Some s) = (smaller 1 3 (span_facts s) (lit≤ tt) (small_span s), tt)

small_counts : (layout : List SharedEntry) (f : Found) → HasSmall 3 (count_fields layout f)
small_counts layout f = (
  small_large 3 f.inputs,
  (
    small_large 3 f.ended,
    (
      small_large 3 f.faulted,
      (
        small_large 3 f.go_on,
        (small_list 2 (map (met_facts layout) f.faults) (small_map 2 (met_facts layout) (small_met layout) f.faults), tt),
      ),
    ),
  ),
)

small_costs : (f : Found) → HasSmall 3 (cost_fields f)
small_costs f =
    has_all 3 (span_fields (codes "time") f.time) (span_fields (codes "work") f.work) (small_spans (codes "time") f.time)
    (small_spans (codes "work") f.work)

pub small_asked : (name : List ℕ) (asked : Option Checked) (number : ℕ) → HasSmall 3 (asked_fields name asked number)
small_asked name None number = tt
small_asked name (Some q) number = (small_large 3 number, tt)

small_specified : (s : Specification) (f : Found) → HasSmall 3 (specified_fields s f)
small_specified s f =
    has_all 3 (asked_fields (codes "counting") s.precondition f.counting) (asked_fields (codes "failed") s.postcondition f.failed)
    (small_asked (codes "counting") s.precondition f.counting) (small_asked (codes "failed") s.postcondition f.failed)

small_input : (name : List ℕ) (input : Option (List ℤ)) → HasSmall 3 (input_fields name input)
small_input name None = tt
small_input name (Some input) = (small_values 2 input, tt)

small_firsts : (f : Found) → HasSmall 3 (first_fields f)
small_firsts f =
    has_all 3 (input_fields (codes "goes_on_at") f.goes_on_at) (input_fields (codes "fails_at") f.fails_at)
    (small_input (codes "goes_on_at") f.goes_on_at) (small_input (codes "fails_at") f.fails_at)

small_behind : (s : Specification) (f : Found) → HasSmall 3 (behind_fields s f)
small_behind s f =
    has_all 3 (specified_fields s f) (first_fields f ++ cost_fields f) (small_specified s f)
    (has_all 3 (first_fields f) (cost_fields f) (small_firsts f) (small_costs f))

pub small_cells : (cells : Option ℕ) → HasSmall 3 (cells_fields cells)
small_cells None = tt
small_cells (Some n) = (small_large 3 n, tt)

pub readable_exploration : (layout : List SharedEntry) (s : Specification) (cells : Option ℕ) (f : Found) →
    IsReadable (exploration_facts layout s cells f)
readable_exploration layout s cells f =
    readable (cells_fields cells ++ (count_fields layout f ++ behind_fields s f))
    (has_all 3 (cells_fields cells) (count_fields layout f ++ behind_fields s f) (small_cells cells)
    (has_all 3 (count_fields layout f) (behind_fields s f) (small_counts layout f) (small_behind s f)))
