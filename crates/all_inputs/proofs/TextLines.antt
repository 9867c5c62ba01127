-- The lines of what is told, from one of them on.
use Rattle.std.proofs.Common.{◌≡◌, ◌∙◌, ◌+◌, ◌<◌, ◌≤◌, ◌++◌, ◌∷◌, [], ℕ, List, Option, Some, None}
use Rattle.std.proofs.Common.{ap, drop, get_or, length, refl, slice_get, sym}
use Rattle.std.proofs.lemmas.List.{drop_all, drop_more}
use Rattle.std.proofs.lemmas.Option.{slice_get-get_or}
use Rattle.intervals.specs.declared.interval.Interval.{Interval}
use Rattle.pram_model.specs.Layout.{SharedEntry}
use Rattle.pram_values.specs.declared.kind.Kind.{Kind}
use Rattle.all_inputs.specs.declared.line_faults.LineFaults.{LineFaults}
use Rattle.all_inputs.specs.declared.reason.Reason.{Reason}
use Rattle.all_inputs.specs.Faulting.{reason_for}
use Rattle.all_inputs.specs.OverallText.{declared_line, declared_lines, fault_line, kind_lines}

-- the kind at i, and those behind it
pub kinds_at : (layout : List SharedEntry) (words : List ℕ) (e : LineFaults) (kinds : List Kind) (i : ℕ) (d : Kind)
    (reason : Option Reason) → i < length kinds → reason ≡ reason_for (get_or kinds i d) e.faults →
    kind_lines layout words e (drop i kinds)
    ≡ fault_line layout words (get_or kinds i d) e.line reason ++ kind_lines layout words e (drop (i + 1) kinds)
kinds_at layout words e kinds i d reason below is =
    ap (kind_lines layout words e) (drop_more kinds i d below)
    ∙ ap (λ r. fault_line layout words (get_or kinds i d) e.line r ++ kind_lines layout words e (drop (i + 1) kinds)) (sym is)

-- the declaration at i, and those behind it
pub declared_at : (layout : List SharedEntry) (is : List Interval) (i : ℕ) (x : Interval) → i < length layout → i < length is →
    x ≡ get_or is i x →
    declared_lines (drop i layout) (drop i is)
    ≡ declared_line (slice_get layout i) x ++ declared_lines (drop (i + 1) layout) (drop (i + 1) is)
declared_at layout is i x declared known read =
    let none : SharedEntry = record { name = []; bounds = None } in
    let e = get_or layout i none in
    let rest = declared_lines (drop (i + 1) layout) (drop (i + 1) is) in
    ap (λ (es : List SharedEntry). declared_lines es (drop i is)) (drop_more layout i none declared)
    ∙ ap (declared_lines (e ∷ drop (i + 1) layout)) (drop_more is i x known)
    ∙ ap (λ (y : Interval). declared_line (Some e) y ++ rest) (sym read)
    ∙ ap (λ (o : Option SharedEntry). declared_line o x ++ rest) (sym (slice_get-get_or layout i none declared))

none_known : (es : List SharedEntry) → declared_lines es [] ≡ []
none_known [] = refl
none_known (e ∷ es) = refl

-- behind the last declaration nothing is left
pub declared_over : (layout : List SharedEntry) (is : List Interval) (i : ℕ) → length layout ≤ i →
    declared_lines (drop i layout) (drop i is) ≡ []
declared_over layout is i over = ap (λ (es : List SharedEntry). declared_lines es (drop i is)) (drop_all i layout over)

-- and nothing behind the last interval
pub known_over : (layout : List SharedEntry) (is : List Interval) (i : ℕ) → length is ≤ i → declared_lines (drop i layout) (drop i is) ≡ []
known_over layout is i over = ap (declared_lines (drop i layout)) (drop_all i is over) ∙ none_known (drop i layout)
