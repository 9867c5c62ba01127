-- The cells of chosen declarations, one declaration after another.
use Rattle.std.proofs.Common.{◌≡◌, ◌<◌, ◌+◌, ◌++◌, ◌∙◌, List, ℕ, ap, append_assoc, drop, length, slice_get, sym}
use Rattle.std.specs.Prelude.{IfSome}
use Rattle.pram_model.specs.Layout.{SharedEntry}
use Rattle.program_texts.proofs.ShownLemmas.{entry_at, known_at}
use Rattle.memory_texts.specs.declared.choice.Choice.{Choice}
use Rattle.pictures.specs.declared.flows.spans.CellSpan.{CellSpan}
use Rattle.command_text.specs.Spans.{span_of, spans_from}

-- with the cells of the declaration at i, those of the ones behind it are left
pub one_more : (layout : List SharedEntry) (choice : Choice) (i : ℕ) (old new : List CellSpan) → i < length layout →
    IfSome (slice_get layout i) (λ e. new ≡ old ++ span_of layout choice i e) →
    new ++ spans_from layout choice (i + 1) (drop (i + 1) layout) ≡ old ++ spans_from layout choice i (drop i layout)
one_more layout choice i old new below added =
    let (e, found, split) = entry_at layout i below in
    let rest = spans_from layout choice (i + 1) (drop (i + 1) layout) in
    ap (λ l. l ++ rest) (known_at layout i e (λ e. new ≡ old ++ span_of layout choice i e) found added)
    ∙ append_assoc old (span_of layout choice i e) rest
    ∙ ap (λ l. old ++ spans_from layout choice i l) (sym split)
