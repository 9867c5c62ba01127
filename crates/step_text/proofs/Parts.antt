-- What was written where the telling ended early, and of a whole run.
use Rattle.std.proofs.Common.{◌≡◌, ◌∙◌, ℕ, Bool, true, false, List, [], ◌∷◌, ◌++◌, ap, append_assoc, append-nil, subst}
use Rattle.std.proofs.Common.{sym}
use Rattle.pram_model.specs.Layout.{SharedEntry}
use Rattle.text_out.specs.Out.{OutState, StopsIn, with_bytes}
use Rattle.text_out.specs.Printing.{Printing, Prints, printing}
use Rattle.text_out.proofs.Printed.{finished, printed_as, prints_then, stopped}
use Rattle.text_out.proofs.Writing.{stops_before, with_bytes-nothing}
use Rattle.journal.specs.Entries.{Entry}
use Rattle.journal.specs.Telling.{BrokeOff, HasToldPart, ToldFirst}
use Rattle.step_text.specs.Passing.{passed}
use Rattle.step_text.specs.StepText.{steps_text}
use Rattle.step_text.specs.RowLaws as rows
use Rattle.step_text.specs.declared.asked.Asked.{Asked}
use Rattle.step_text.specs.Streamed.{WroteFirst}
use Rattle.step_text.specs.Streams.{PrintsFirst, Streams, line_behind, lines_behind}

-- the line behind some entries that have passed
next_line : (a b : Asked) (c d : ℕ) (t u : Printing) (first : List Entry) (next : Entry) → b ≡ a → d ≡ passed a.last c first →
    Prints t u (line_behind b d next) → Prints t u (lines_behind a (passed a.last c first) (next ∷ []))
next_line a b c d t u first next same count p =
    printed_as (append-nil (line_behind a (passed a.last c first) next))
    (subst (λ d. Prints t u (line_behind a d next)) count (subst (λ b. Prints t u (line_behind b d next)) same p))

module _ {S : Type 0} (asked : S → Asked) (name count : S → ℕ) (at : S → Printing) where
  abbrev pub ToldTo : S → List Entry → S → Type 0
  ToldTo a es b = (asked b ≡ asked a) × (name b ≡ name a) × Streams (asked a) (count a) (count b) (at a) (at b) es

  abbrev pub BrokeAt : S → Entry → S → Type 0
  BrokeAt a e b = (name b ≡ name a) × Prints (at a) (at b) (line_behind (asked a) (count a) e)

  pub part_name : (old new : S) (es : List Entry) → HasToldPart ToldTo BrokeAt old es new → name new ≡ name old
  part_name old new es (ToldFirst first rest is h) = h.1
  part_name old new es (BrokeOff first next rest between is h b) = b.0 ∙ h.1

  pub part_printed : (old new : S) (es : List Entry) → HasToldPart ToldTo BrokeAt old es new →
      PrintsFirst (asked old) (count old) (at old) (at new) es
  part_printed old new es (ToldFirst first rest is h) = record { first = first; rest = rest; whole = is; printed = h.2.printed }
  part_printed old new es (BrokeOff first next rest between is h b) =
      let a = asked old in record {
        first = first ++ next ∷ [];
        rest = rest;
        whole = is ∙ sym (append_assoc first (next ∷ []) rest);
        printed = printed_as (rows.lines_behind a.layout.now a.telling.now a.first a.last (count old) first (next ∷ []))
            (prints_then h.2.printed
            (next_line a (asked between) (count old) (count between) (at between) (at new) first next h.0 h.2.counted b.1));
      }

-- ---- of a whole run, from a writer that had not failed

pub all_written : (a : Asked) (layout : List SharedEntry) (late : ℕ) (s u : OutState) (g : Bool) (es : List Entry) → a.layout.now ≡ layout →
    Streams a 0 late (printing s false) (printing u g) es → u ≡ with_bytes s (steps_text layout a.telling.now a.first a.last es)
all_written a layout late s u g es l h =
    finished h.printed h.kept ∙ ap (λ layout. with_bytes s (steps_text layout a.telling.now a.first a.last es)) l

pub none_written : (a : Asked) (late : ℕ) (s u : OutState) (g : Bool) → Streams a 0 late (printing s false) (printing u g) [] → u ≡ s
none_written a late s u g h = finished h.printed h.kept ∙ sym (with_bytes-nothing s)

pub write_failed : (a : Asked) (layout : List SharedEntry) (s u : OutState) (g : Bool) (es : List Entry) → a.layout.now ≡ layout →
    PrintsFirst a 0 (printing s false) (printing u g) es → g ≡ true → StopsIn s u (steps_text layout a.telling.now a.first a.last es)
write_failed a layout s u g es l p failed =
    let text : lines_behind a 0 es ≡ lines_behind a 0 p.first ++ lines_behind a (passed a.last 0 p.first) p.rest =
    ap (lines_behind a 0) p.whole ∙ rows.lines_behind a.layout.now a.telling.now a.first a.last 0 p.first p.rest in
    subst (λ layout. StopsIn s u (steps_text layout a.telling.now a.first a.last es)) l
    (subst (StopsIn s u) (sym text) (stops_before (lines_behind a (passed a.last 0 p.first) p.rest) (stopped p.printed failed)))

pub first_written : (a : Asked) (layout : List SharedEntry) (s u : OutState) (g : Bool) (es : List Entry) → a.layout.now ≡ layout →
    PrintsFirst a 0 (printing s false) (printing u g) es → g ≡ false → WroteFirst s u (steps_text layout a.telling.now a.first a.last) es
first_written a layout s u g es l p ok = record {
  first = p.first;
  rest = p.rest;
  whole = p.whole;
  written = finished p.printed ok ∙ ap (λ layout. with_bytes s (steps_text layout a.telling.now a.first a.last p.first)) l;
}
