-- One entry that passes, and its line.
use Rattle.std.proofs.Common.{◌≡◌, ◌∙◌, ℕ, Bool, true, false, List, [], ◌∷◌, ◌++◌, ap, append-nil, if◌then◌else◌, inl, inr, sym, subst}
use Rattle.json_texts.specs.Lines.{IsJson}
use Rattle.text_out.specs.Out.{OutState}
use Rattle.text_out.specs.Printing.{Printing, Prints, printing}
use Rattle.text_out.proofs.Printed.{prints_nothing}
use Rattle.journal.specs.Entries.{Entry}
use Rattle.step_text.specs.Passing.{is_told, one_more}
use Rattle.step_text.proofs.Lines.{kept_by}
use Rattle.json_texts.specs.declared.asked.Asked.{Asked}
use Rattle.json_texts.specs.StreamLaws.{facts_are, json_as, json_nothing, streams_nothing}
use Rattle.json_texts.specs.Streams.{Breaks, PrintsJson, Streams, facts_behind, facts_if, facts_of}

-- it is asked for, or not
facts_by : (a : Asked) (c : ℕ) (e : Entry) (b : Bool) → is_told a.first a.last c ≡ b → facts_if a c e ≡
    (if b then facts_of a c e ∷ [] else [])
facts_by a c e b h =
    facts_are a.layout.now a.tree.now a.source.now a.first a.last c e ∙ ap (λ b. if b then facts_of a c e ∷ [] else []) h

-- it isn't, and passes
pub passes_by : (a : Asked) (c late : ℕ) (s t : Printing) (e : Entry) → is_told a.first a.last c ≡ false → late ≡ one_more a.last
    c → t ≡ s →
    Streams a c late s t (e ∷ [])
passes_by a c late s t e h l same = record {
  counted = l;
  prints = json_as s t [] (facts_behind a c (e ∷ [])) (ap (λ ds. ds ++ []) (facts_by a c e false h))
      (subst (λ t. PrintsJson s t []) (sym same) (json_nothing s));
  kept = ap (λ (t : Printing). t.failed) same;
}

-- its line was not made
pub unmade : (a : Asked) (c : ℕ) (s t : Printing) (e : Entry) → t ≡ s → Breaks a c s t e
unmade a c s t e same = inl (subst (λ t. Prints s t []) (sym same) (prints_nothing s))

-- the writer failed before it
pub failed_before : (a : Asked) (c : ℕ) (s t : Printing) (e : Entry) → Prints s t [] → Breaks a c s t e
failed_before a c s t e p = inl p

-- it is asked for, and its line was printed
printed_one : (a : Asked) (c : ℕ) (s u : Printing) (e : Entry) (text : List ℕ) → is_told a.first a.last c ≡ true →
    IsJson (facts_of a c e ∷ []) text → Prints s u text → PrintsJson s u (facts_if a c e)
printed_one a c s u e text h json p =
    json_as s u (facts_of a c e ∷ []) (facts_if a c e) (facts_by a c e true h) (record { text = text; json = json; printed = p })

pub broke_in : (a : Asked) (c : ℕ) (s u : Printing) (e : Entry) (text : List ℕ) → is_told a.first a.last c ≡ true →
    IsJson (facts_of a c e ∷ []) text → Prints s u text → Breaks a c s u e
broke_in a c s u e text h json p = inr (printed_one a c s u e text h json p)

pub wrote_one : (a : Asked) (c late : ℕ) (s u : OutState) (f g : Bool) (e : Entry) (text : List ℕ) → is_told a.first a.last c ≡ true →
    late ≡ one_more a.last c → g ≡ false → IsJson (facts_of a c e ∷ []) text → Prints (printing s f) (printing u g) text →
    Streams a c late (printing s f) (printing u g) (e ∷ [])
wrote_one a c late s u f g e text h l ok json p = record {
  counted = l;
  prints = json_as (printing s f) (printing u g) (facts_if a c e) (facts_behind a c (e ∷ [])) (append-nil (facts_if a c e))
      (printed_one a c (printing s f) (printing u g) e text h json p);
  kept = kept_by s u f g text p.by ok;
}

-- what was printed is handed on
pub handed_on : (a : Asked) (c : ℕ) (s t : OutState) (f : Bool) → t ≡ s → Streams a c c (printing s f) (printing t f) []
handed_on a c s t f same =
    subst (λ t. Streams a c c (printing s f) (printing t f) []) (sym same) (streams_nothing a c (printing s f))
