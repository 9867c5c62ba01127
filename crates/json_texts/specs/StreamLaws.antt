-- The laws of what is written of entries: it is nothing of no entries, and entries come behind entries.
use Rattle.std.proofs.Common.{◌≡◌, ◌∙◌, ◌+◌, ◌≤◌, ◌&&◌, ℕ, Bool, true, false, List, [], ◌∷◌, ◌++◌, ap, append_assoc, arith, if◌then◌else◌}
use Rattle.std.proofs.Common.{nat_le, nat_lt, refl, subst, sym}
use Rattle.std.proofs.lemmas.Bool.{le-ltb, ltb-false}
use Rattle.serde_json.specs.Data.{Data}
use Rattle.json_texts.specs.Lines.{IsJson}
use Rattle.json_texts.specs.LineLaws.{adds_nothing, adds_then}
use Rattle.json_texts.specs.StepFacts.{step_facts, step_within, steps_from}
use Rattle.pram_model.specs.Layout.{SharedEntry}
use Rattle.pram_trees.specs.Program.{ProgramTree}
use Rattle.text_out.specs.Printing.{Printing}
use Rattle.text_out.proofs.Printed.{prints_nothing, prints_then}
use Rattle.journal.specs.Entries.{Entry}
use Rattle.step_text.specs.Passing.{is_told, one_more, passed}
use Rattle.step_text.specs.RowLaws.{none_passes, passed_both, swapped, within_is}
use Rattle.json_texts.specs.declared.asked.Asked.{Asked}
use Rattle.json_texts.specs.Streams.{PrintsJson, Streams, facts_behind}

-- ---- the facts of entries behind others
module _ (layout : List SharedEntry) (tree : ProgramTree) (source : List ℕ) (first last : ℕ) where
  -- the entry behind c others
  pub facts_are : (c : ℕ) (e : Entry) → step_within layout tree source first last (c + 1) e
      ≡ (if is_told first last c then step_facts layout tree source (c + 1) e ∷ [] else [])
  facts_are c e =
      let told : Bool → List Data = λ b. if b then step_facts layout tree source (c + 1) e ∷ [] else [] in
      ap told (swapped (nat_le first (c + 1)) (nat_le (c + 1) last)
      ∙ ap (λ b. b && nat_le first (c + 1)) (sym (within_is last c (nat_lt c last) refl)))

  nothing_past : (c : ℕ) (e : Entry) → last ≤ c → step_within layout tree source first last (c + 1) e ≡ []
  nothing_past c e l = facts_are c e
      ∙ ap (λ b. if b && nat_le first (c + 1) then step_facts layout tree source (c + 1) e ∷ [] else []) (le-ltb c last l)

  no_facts_past : (c : ℕ) (es : List Entry) → last ≤ c → steps_from layout tree source first last (c + 1) es ≡ []
  no_facts_past c [] l = refl
  no_facts_past c (e ∷ es) l = ap (λ ds. ds ++ steps_from layout tree source first last ((c + 1) + 1) es) (nothing_past c e l)
      ∙ no_facts_past (c + 1) es (omega (arith, l))

  pub facts_both : (c : ℕ) (xs ys : List Entry) → steps_from layout tree source first last (c + 1) (xs ++ ys)
      ≡ steps_from layout tree source first last (c + 1) xs ++ steps_from layout tree source first last (passed last c xs + 1) ys
  facts_both c [] ys = refl
  facts_both c (x ∷ xs) ys = ap (λ ds. step_within layout tree source first last (c + 1) x ++ ds)
      (by (nat_lt c last) refl (facts_both (c + 1) xs ys))
      ∙ sym (append_assoc (step_within layout tree source first last (c + 1) x) (steps_from layout tree source first last ((c + 1) + 1) xs)
      (steps_from layout tree source first last (passed last (one_more last c) xs + 1) ys))
    where
      by : (b : Bool) → nat_lt c last ≡ b → steps_from layout tree source first last ((c + 1) + 1) (xs ++ ys)
          ≡ steps_from layout tree source first last ((c + 1) + 1) xs ++ steps_from layout tree source first last
          (passed last (c + 1) xs + 1) ys →
          steps_from layout tree source first last ((c + 1) + 1) (xs ++ ys) ≡ steps_from layout tree source first last ((c + 1) + 1) xs
          ++ steps_from layout tree source first last (passed last (if b then c + 1 else c) xs + 1) ys
      by true h go = go
      by false h go =
          let l : last ≤ c = ltb-false c last h in
          let m : last ≤ c + 1 = omega (arith, l) in
          no_facts_past (c + 1) (xs ++ ys) m
          ∙ sym (ap (λ ds. ds ++ steps_from layout tree source first last (passed last c xs + 1) ys) (no_facts_past (c + 1) xs m)
          ∙ ap (λ c. steps_from layout tree source first last (c + 1) ys) (none_passes last c xs h)
          ∙ no_facts_past c ys l)

-- ---- lines that are printed

pub json_behind : (ds es : List Data) (a b : List ℕ) → IsJson ds a → IsJson es b → IsJson (ds ++ es) (a ++ b)
json_behind ds es a b x y =
    adds_then ds es [] a (a ++ b) x (record { whole = ap (λ l. a ++ l) y.whole; read_back = y.read_back })

pub json_nothing : (s : Printing) → PrintsJson s s []
json_nothing s = record { text = []; json = adds_nothing []; printed = prints_nothing s }

pub json_then : (s t u : Printing) (ds es : List Data) → PrintsJson s t ds → PrintsJson t u es → PrintsJson s u (ds ++ es)
json_then s t u ds es x y = record {
  text = x.text ++ y.text;
  json = json_behind ds es x.text y.text x.json y.json;
  printed = prints_then x.printed y.printed;
}

pub json_as : (s u : Printing) (ds es : List Data) → es ≡ ds → PrintsJson s u ds → PrintsJson s u es
json_as s u ds es is p = subst (PrintsJson s u) (sym is) p

-- ---- entries that pass

pub streams_nothing : (a : Asked) (count : ℕ) (s : Printing) → Streams a count count s s []
streams_nothing a count s = record { counted = refl; prints = json_nothing s; kept = refl }

behind_both : (a : Asked) (count between late : ℕ) (s t u : Printing) (xs ys : List Entry) → Streams a count between s t xs →
    Streams a between late t u ys → Streams a count late s u (xs ++ ys)
behind_both a count between late s t u xs ys h g = record {
  counted = g.counted ∙ ap (λ c. passed a.last c ys) h.counted ∙ sym (passed_both a.last count xs ys);
  prints = json_as s u (facts_behind a count xs ++ facts_behind a (passed a.last count xs) ys) (facts_behind a count (xs ++ ys))
      (facts_both a.layout.now a.tree.now a.source.now a.first a.last count xs ys)
      (json_then s t u (facts_behind a count xs) (facts_behind a (passed a.last count xs) ys) h.prints
      (subst (λ c. PrintsJson t u (facts_behind a c ys)) h.counted g.prints));
  kept = g.kept ∙ h.kept;
}

pub streams_on : (a b : Asked) (count between late : ℕ) (s t u : Printing) (xs ys : List Entry) → b ≡ a →
    Streams a count between s t xs → Streams b between late t u ys → Streams a count late s u (xs ++ ys)
streams_on a b count between late s t u xs ys same h g =
    behind_both a count between late s t u xs ys h (subst (λ a. Streams a between late t u ys) same g)
