-- What was written where the telling ended early, and of a whole run.
use Rattle.std.proofs.Common.{◌≡◌, ◌∙◌, ℕ, Bool, true, false, List, [], ◌∷◌, ◌++◌, ap, append_assoc, append-nil, inl, inr, subst}
use Rattle.std.proofs.Common.{sym}
use Rattle.pram_model.specs.Layout.{SharedEntry}
use Rattle.pram_trees.specs.Program.{ProgramTree}
use Rattle.json_texts.specs.Lines.{IsJson}
use Rattle.json_texts.specs.StepFacts.{steps_from}
use Rattle.text_out.specs.Out.{OutState, with_bytes}
use Rattle.text_out.specs.Printing.{Printing, Prints, printing}
use Rattle.text_out.proofs.Printed.{finished, printed_as, prints_then, stopped}
use Rattle.text_out.proofs.Writing.{with_bytes-nothing}
use Rattle.journal.specs.Entries.{Entry}
use Rattle.journal.specs.Telling.{BrokeOff, HasToldPart, ToldFirst}
use Rattle.step_text.specs.Passing.{passed}
use Rattle.json_texts.specs.declared.asked.Asked.{Asked}
use Rattle.json_texts.specs.StreamLaws.{facts_both, json_as, json_then}
use Rattle.json_texts.specs.Streamed.{StopsInFirst, WroteFirstJson, WroteJson}
use Rattle.json_texts.specs.Streams.{Breaks, PrintsFirst, PrintsJson, Streams, facts_behind, facts_if}

-- the line behind some entries that have passed
next_line : (a b : Asked) (c d : ℕ) (t u : Printing) (first : List Entry) (next : Entry) → b ≡ a → d ≡ passed a.last c first →
    PrintsJson t u (facts_if b d next) → PrintsJson t u (facts_behind a (passed a.last c first) (next ∷ []))
next_line a b c d t u first next same count p =
    json_as t u (facts_if a (passed a.last c first) next) (facts_behind a (passed a.last c first) (next ∷ []))
    (append-nil (facts_if a (passed a.last c first) next))
    (subst (λ d. PrintsJson t u (facts_if a d next)) count (subst (λ b. PrintsJson t u (facts_if b d next)) same p))

module _ (a : Asked) (c : ℕ) (s t u : Printing) (first : List Entry) (next : Entry) (rest es : List Entry)
    (whole : es ≡ first ++ next ∷ rest) (told : PrintsJson s t (facts_behind a c first)) where
  -- nothing of the next one was printed
  without : Prints t u [] → PrintsFirst a c s u es
  without nothing = record {
    first = first;
    rest = next ∷ rest;
    whole = whole;
    prints = record {
      text = told.text;
      json = told.json;
      printed = printed_as (sym (append-nil told.text)) (prints_then told.printed nothing);
    };
  }

  -- the writer failed in it
  within : PrintsJson t u (facts_behind a (passed a.last c first) (next ∷ [])) → PrintsFirst a c s u es
  within p = record {
    first = first ++ next ∷ [];
    rest = rest;
    whole = whole ∙ sym (append_assoc first (next ∷ []) rest);
    prints = json_as s u (facts_behind a c first ++ facts_behind a (passed a.last c first) (next ∷ []))
        (facts_behind a c (first ++ next ∷ [])) (facts_both a.layout.now a.tree.now a.source.now a.first a.last c first (next ∷ []))
        (json_then s t u (facts_behind a c first) (facts_behind a (passed a.last c first) (next ∷ [])) told p);
  }

broke : (a b : Asked) (c d : ℕ) (s t u : Printing) (first : List Entry) (next : Entry) (rest es : List Entry) →
    es ≡ first ++ next ∷ rest → PrintsJson s t (facts_behind a c first) → b ≡ a → d ≡ passed a.last c first → Breaks b d t u next →
    PrintsFirst a c s u es
broke a b c d s t u first next rest es whole told same count (inl still) = without a c s t u first next rest es whole told still
broke a b c d s t u first next rest es whole told same count (inr p) =
    within a c s t u first next rest es whole told (next_line a b c d t u first next same count p)

module _ {S : Type 0} (asked : S → Asked) (name count : S → ℕ) (at : S → Printing) where
  abbrev pub ToldTo : S → List Entry → S → Type 0
  ToldTo a es b = (asked b ≡ asked a) × (name b ≡ name a) × Streams (asked a) (count a) (count b) (at a) (at b) es

  abbrev pub BrokeAt : S → Entry → S → Type 0
  BrokeAt a e b = (name b ≡ name a) × Breaks (asked a) (count a) (at a) (at b) e

  pub part_name : (old new : S) (es : List Entry) → HasToldPart ToldTo BrokeAt old es new → name new ≡ name old
  part_name old new es (ToldFirst first rest is h) = h.1
  part_name old new es (BrokeOff first next rest between is h b) = b.0 ∙ h.1

  pub part_printed : (old new : S) (es : List Entry) → HasToldPart ToldTo BrokeAt old es new →
      PrintsFirst (asked old) (count old) (at old) (at new) es
  part_printed old new es (ToldFirst first rest is h) = record { first = first; rest = rest; whole = is; prints = h.2.prints }
  part_printed old new es (BrokeOff first next rest between is h b) =
      broke (asked old) (asked between) (count old) (count between) (at old) (at between) (at new) first next rest es is h.2.prints h.0
      h.2.counted b.1

-- ---- of a whole run, from a writer that had not failed

module _ (a : Asked) (layout : List SharedEntry) (tree : ProgramTree) (l : a.layout.now ≡ layout) (t : a.tree.now ≡ tree) where
  said : (es : List Entry) (text : List ℕ) → IsJson (facts_behind a 0 es) text → IsJson (steps_from layout tree a.source.now a.first a.last
      1 es) text
  said es text json = subst (λ tree. IsJson (steps_from layout tree a.source.now a.first a.last 1 es) text) t
      (subst (λ layout. IsJson (steps_from layout a.tree.now a.source.now a.first a.last 1 es) text) l json)

  pub all_written : (late : ℕ) (s u : OutState) (g : Bool) (es : List Entry) → Streams a 0 late (printing s false) (printing u g) es →
      WroteJson s u (steps_from layout tree a.source.now a.first a.last 1 es)
  all_written late s u g es h =
      record { text = h.prints.text; json = said es h.prints.text h.prints.json; written = finished h.prints.printed h.kept }

  pub write_failed : (s u : OutState) (g : Bool) (es : List Entry) → PrintsFirst a 0 (printing s false) (printing u g) es → g ≡ true →
      StopsInFirst s u (steps_from layout tree a.source.now a.first a.last 1) es
  write_failed s u g es p failed = record {
    first = p.first;
    rest = p.rest;
    whole = p.whole;
    text = p.prints.text;
    json = said p.first p.prints.text p.prints.json;
    stopped = stopped p.prints.printed failed;
  }

  pub first_written : (s u : OutState) (g : Bool) (es : List Entry) → PrintsFirst a 0 (printing s false) (printing u g) es → g ≡ false →
      WroteFirstJson s u (steps_from layout tree a.source.now a.first a.last 1) es
  first_written s u g es p ok = record {
    first = p.first;
    rest = p.rest;
    whole = p.whole;
    text = p.prints.text;
    json = said p.first p.prints.text p.prints.json;
    written = finished p.prints.printed ok;
  }

nothing_of : (a : Asked) (s u : Printing) → PrintsJson s u (facts_behind a 0 []) → (text : List ℕ) × (text ≡ []) × Prints s u text
nothing_of a s u p = (p.text, p.json.whole, p.printed)

pub none_written : (a : Asked) (late : ℕ) (s u : OutState) (g : Bool) → Streams a 0 late (printing s false) (printing u g) [] → u ≡ s
none_written a late s u g h =
    let n = nothing_of a (printing s false) (printing u g) h.prints in
    finished n.2 h.kept ∙ ap (with_bytes s) n.1 ∙ sym (with_bytes-nothing s)
