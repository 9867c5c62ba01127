-- That what is told of all inputs of a scope can be read.
use Rattle.std.proofs.Common.{ℕ, List, [], ◌∷◌, ◌++◌, codes, lit≤, slice_get}
use Rattle.std.specs.Prelude.{Option, Some, None, flat_map, true, zip}
use Rattle.serde_json.specs.Data.{Data}
use Rattle.json_texts.specs.Small.{IsReadable, IsSmall}
use Rattle.json_texts.proofs.Small.{AreSmall, HasSmall, has_all, small_count, small_flag, small_letters, small_list, small_map}
use Rattle.json_texts.proofs.Small.{small_object, small_value, small_word, smaller}
use Rattle.pram_model.specs.Layout.{SharedEntry}
use Rattle.pram_values.specs.declared.kind.Kind.{Kind}
use Rattle.intervals.specs.declared.interval.Interval.{Interval}
use Rattle.all_inputs.specs.declared.ending.Ending.{Ending}
use Rattle.all_inputs.specs.declared.overall.Overall.{Overall}
use Rattle.all_inputs.specs.declared.reason.Reason.{Reason}
use Rattle.all_inputs.specs.declared.reason.Reason.TheVariants as reason
use Rattle.all_inputs.specs.declared.scope.Scope.{Scope}
use Rattle.all_inputs.specs.declared.line_faults.LineFaults.{LineFaults}
use Rattle.all_inputs.specs.declared.undecided.Undecided.{Undecided}
use Rattle.all_inputs.specs.declared.undecided.Undecided.TheVariants as undecided
use Rattle.all_inputs.specs.Faulting.{all_kinds, reason_for}
use Rattle.json_texts.specs.OutcomeFacts.{bounds_fields}
use Rattle.json_texts.specs.OverallFacts.{declared_facts, end_fields, fault_facts, facts_if_any, faults_facts, interval_facts}
use Rattle.json_texts.specs.OverallFacts.{interval_fields, line_facts, memory_facts, name_fields, overall_facts, overall_fields}
use Rattle.json_texts.specs.OverallFacts.{reached_facts, reason_facts, reason_fields, scope_facts, time_facts, told_fields}
use Rattle.json_texts.specs.OverallFacts.{undecided_facts, why_facts}
use Rattle.json_texts.proofs.Readable.{small_both, small_bounds}

-- ---- intervals and scopes

small_ends : (n : ℕ) (i : Interval) → HasSmall n (interval_fields i)
small_ends n i = (small_value n i.least, (small_value n i.greatest, tt))

small_interval : (i : Interval) → IsSmall 1 (interval_facts i)
small_interval i = small_object 0 (interval_fields i) (small_ends 0 i)

small_scope : (s : Scope) → IsSmall 1 (scope_facts s)
small_scope s = small_object 0 ((codes "values", _) ∷ interval_fields s.of) (small_count 0 s.values, small_ends 0 s.of)

-- ---- faults

small_name : (n : ℕ) (e : Option SharedEntry) → HasSmall n (name_fields e)
small_name n None = tt
small_name n (Some e) = (small_letters n e.name, tt)

small_reasons : (layout : List SharedEntry) (r : Reason) → HasSmall 1 (reason_fields layout r)
small_reasons layout (reason.Operands o left right) = (small_letters 1 _, (small_interval left, (small_interval right, tt)))
small_reasons layout (reason.Operand o operand) = (small_letters 1 _, (small_interval operand, tt))
small_reasons layout (reason.Subscript a subscript) = (small_interval subscript, small_name 1 (slice_get layout a))
small_reasons layout (reason.Width first last) = (small_value 1 first, (small_value 1 last, tt))
small_reasons layout reason.Shared = (small_flag 1 true, tt)
small_reasons layout reason.Single = (small_flag 1 true, tt)

small_reason : (layout : List SharedEntry) (r : Reason) → IsSmall 2 (reason_facts layout r)
small_reason layout r = small_object 1 (reason_fields layout r) (small_reasons layout r)

small_fault : (layout : List SharedEntry) (line : ℕ) (kind : Kind) (r : Reason) → IsSmall 3 (fault_facts layout line kind r)
small_fault layout line kind r =
    small_object 2 ((codes "kind", _) ∷ (codes "line", _) ∷ (codes "reason", _) ∷ [])
    (small_word 2 _, (small_count 2 line, (small_reason layout r, tt)))

small_if_any : (layout : List SharedEntry) (line : ℕ) (kind : Kind) (r : Option Reason) → AreSmall 3 (facts_if_any layout line kind r)
small_if_any layout line kind None = tt
small_if_any layout line kind (Some r) = (small_fault layout line kind r, tt)

-- those that each of some things has
small_each : {A : Type 0} (n : ℕ) (f : A → List Data) → ((a : A) → AreSmall n (f a)) → (xs : List A) → AreSmall n (flat_map f xs)
small_each n f each [] = tt
small_each n f each (x ∷ xs) = small_both n (f x) (flat_map f xs) (each x) (small_each n f each xs)

small_line : (layout : List SharedEntry) (e : LineFaults) → AreSmall 3 (line_facts layout e)
small_line layout e =
    small_each 3 (λ kind. facts_if_any layout e.line kind (reason_for kind e.faults))
    (λ kind. small_if_any layout e.line kind (reason_for kind e.faults)) all_kinds

small_told : (layout : List SharedEntry) (o : Overall) → HasSmall 4 (told_fields layout o)
small_told layout o = (
  small_list 3 (faults_facts layout o.told.lines.items) (small_each 3 (line_facts layout) (small_line layout) o.told.lines.items),
  (small_flag 4 _, (small_flag 4 _, tt)),
)

-- ---- runs that end

small_time : (least most : ℕ) → IsSmall 1 (time_facts least most)
small_time least most =
    small_object 0 ((codes "least", _) ∷ (codes "greatest", _) ∷ []) (small_count 0 least, (small_count 0 most, tt))

small_declared : (e : SharedEntry) (i : Interval) → IsSmall 1 (declared_facts e i)
small_declared e i =
    small_object 0 ((codes "name", _) ∷ (interval_fields i ++ bounds_fields e.bounds))
    (small_letters 0 e.name, has_all 0 (interval_fields i) (bounds_fields e.bounds) (small_ends 0 i) (small_bounds 0 e.bounds))

small_end : (layout : List SharedEntry) (end : Option Ending) → HasSmall 4 (end_fields layout end)
small_end layout None = tt
small_end layout (Some e) =
    let declared = λ (d : SharedEntry × Interval). declared_facts d.0 d.1 in
    let each = small_map 1 declared (λ d. small_declared d.0 d.1) (zip layout e.declared.items) in (
      smaller 1 4 (time_facts e.least e.most) (lit≤ tt) (small_time e.least e.most),
      (smaller 2 4 _ (lit≤ tt) (small_list 1 (memory_facts layout e.declared.items) each), tt),
    )

pub readable_overall : (layout : List SharedEntry) (scope : Scope) (o : Overall) → IsReadable (overall_facts layout scope o)
readable_overall layout scope o =
    smaller 5 127 (overall_facts layout scope o) (lit≤ tt) (small_object 4 (overall_fields layout scope o) (
      smaller 1 4 (scope_facts scope) (lit≤ tt) (small_scope scope),
      has_all 4 (told_fields layout o) (end_fields layout o.end) (small_told layout o) (small_end layout o.end),
    ))

-- ---- where too little is known

small_why : (why : List ℕ) (line : ℕ) → IsSmall 1 (why_facts why line)
small_why why line = small_object 0 ((codes "why", _) ∷ (codes "line", _) ∷ []) (small_word 0 why, (small_count 0 line, tt))

small_reached : (u : Undecided) → IsSmall 1 (reached_facts u)
small_reached (undecided.OpenBounds line) = small_why (codes "open-bounds") line
small_reached (undecided.Restless line) = small_why (codes "restless") line

pub readable_undecided : (scope : Scope) (u : Undecided) → IsReadable (undecided_facts scope u)
readable_undecided scope u =
    smaller 2 127 (undecided_facts scope u) (lit≤ tt)
    (small_object 1 ((codes "scope", _) ∷ (codes "undecided", _) ∷ []) (small_scope scope, (small_reached u, tt)))
