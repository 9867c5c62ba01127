-- What is gathered goes on by one entry.
use Rattle.std.proofs.Common.{◌≡◌, ◌∙◌, ◌<◌, ◌≤◌, ◌+◌, ◌-◌, ◌++◌, ◌∷◌, [], List, ℕ, ℤ, ap, append-nil, arith, length, length-append}
use Rattle.std.proofs.Common.{subst, sym, take}
use Rattle.std.proofs.lemmas.List.{take-append-le, take_all}
use Rattle.serde_json.specs.Data.{Data}
use Rattle.json_texts.specs.StepFacts.{step_facts, step_within, steps_from}
use Rattle.journal.specs.Entries.{Entry}
use Rattle.journal.specs.Replay.{with_cells, with_printed, with_variables}
use Rattle.pages.specs.declared.asked.Asked.{Asked}
use Rattle.pages.specs.declared.first_lines.FirstLines.{FirstLines}
use Rattle.pages.specs.declared.recent.Recent.{Recent}
use Rattle.pages.specs.declared.state.RunState.{RunState}
use Rattle.pages.specs.Gathered.{AreFirstLines, AreRecent, Gathers, IsAfter, IsBehind, last_told}
use Rattle.pages.specs.GatheredLaws.{facts_both}
use Rattle.pages.proofs.OneEntry.{none_before, none_behind, one_within}
use Rattle.pages.proofs.States.{after_all}

-- an entry among the first so many, and one behind them
taken_on : (n : ℕ) (es : List Entry) (e : Entry) → length es < n → take n (es ++ e ∷ []) ≡ take n es ++ e ∷ []
taken_on n es e lt =
    let l = length-append es (e ∷ []) in
    take_all n (es ++ e ∷ []) (omega (arith, l, lt)) ∙ ap (λ l. l ++ e ∷ []) (sym (take_all n es (omega (arith, lt))))

taken_still : (n : ℕ) (es : List Entry) (e : Entry) → n ≤ length es → take n es ≡ take n (es ++ e ∷ [])
taken_still n es e le = sym (take-append-le n es (e ∷ []) le)

module _ (a : Asked) (input : List ℤ) (es : List Entry) (count number : ℕ) (e : Entry) (n : number ≡ count + 1) where
  abbrev facts : List Entry → List Data
  facts es = steps_from a.layout.now a.tree.now a.source.now a.first a.last 1 es

  abbrev within : List Data
  within = step_within a.layout.now a.tree.now a.source.now a.first a.last number e

  facts_on : count ≡ length es → facts (es ++ e ∷ []) ≡ facts es ++ within
  facts_on counted =
      facts_both a.layout.now a.tree.now a.source.now a.first a.last 0 es (e ∷ [])
      ∙ ap (λ k. facts es ++ (step_within a.layout.now a.tree.now a.source.now a.first a.last k e ++ []))
      (let k : (0 + length es) + 1 ≡ number = omega (arith, n, counted) in k)
      ∙ ap (λ l. facts es ++ l) (append-nil within)

  no_more : count ≡ length es → within ≡ [] → facts es ≡ facts (es ++ e ∷ [])
  no_more counted none = sym (facts_on counted ∙ ap (λ l. facts es ++ l) none ∙ append-nil (facts es))

  counted_on : count ≡ length es → number ≡ length (es ++ e ∷ [])
  counted_on counted = let l = length-append es (e ∷ []) in omega (arith, n, counted, l)

  still_behind : (s : RunState) → count ≡ length es → a.first ≤ number → IsBehind input es (a.first - 1) s →
      IsBehind input (es ++ e ∷ []) (a.first - 1) s
  still_behind s counted from h =
      subst (λ es. IsAfter input es s) (taken_still (a.first - 1) es e (omega (arith, n, counted, from))) h

  told_on : (r q : Recent) → count ≡ length es → number ≤ last_told a →
      ((input : List ℤ) (es : List Entry) → AreRecent input es r → AreRecent input (es ++ e ∷ []) q) →
      AreRecent input (take (last_told a) es) r → AreRecent input (take (last_told a) (es ++ e ∷ [])) q
  told_on r q counted to keeps h =
      subst (λ es. AreRecent input es q) (sym (taken_on (last_told a) es e (omega (arith, n, counted, to))))
      (keeps input (take (last_told a) es) h)

  -- it is before the first one that is asked for
  pub before_one : (s t : RunState) (r q : Recent) (f : FirstLines) → Gathers a input es count s r f → number < a.first →
      t.cells.items ≡ with_cells s.cells.items e → t.variables.items ≡ with_variables s.variables.items e →
      t.printed ≡ with_printed s.printed e →
      ((input : List ℤ) (es : List Entry) → AreRecent input es r → AreRecent input (es ++ e ∷ []) q) →
      Gathers a input (es ++ e ∷ []) number t q f
  before_one s t r q f h lt cells variables printed keeps =
      let counted : count ≡ length es = h.counted in
      record {
        counted = counted_on counted;
        before = subst (λ es. IsAfter input es t) (sym (taken_on (a.first - 1) es e (omega (arith, n, counted, lt))))
            (after_all input (take (a.first - 1) es) (e ∷ []) s t h.before cells variables printed);
        recent = told_on r q counted (omega (arith, lt)) keeps h.recent;
        lines = subst (λ ds. AreFirstLines ds f)
            (no_more counted (none_before a.layout.now a.tree.now a.source.now a.first a.last number e lt)) h.lines;
      }

  -- it is behind the last one, and not before the first
  pub passed_one : (s : RunState) (r : Recent) (f : FirstLines) → Gathers a input es count s r f → a.first ≤ number → a.last < number →
      Gathers a input (es ++ e ∷ []) number s r f
  passed_one s r f h from past =
      let counted : count ≡ length es = h.counted in
      record {
        counted = counted_on counted;
        before = still_behind s counted from h.before;
        recent = subst (λ es. AreRecent input es r) (taken_still (last_told a) es e (omega (arith, n, counted, from, past))) h.recent;
        lines = subst (λ ds. AreFirstLines ds f)
            (no_more counted (none_behind a.layout.now a.tree.now a.source.now a.first a.last number e past)) h.lines;
      }

  -- it is asked for
  pub asked_one : (s : RunState) (r q : Recent) (f g : FirstLines) → Gathers a input es count s r f → a.first ≤ number →
      number ≤ a.last → ((input : List ℤ) (es : List Entry) → AreRecent input es r → AreRecent input (es ++ e ∷ []) q) →
      ((ds : List Data) → AreFirstLines ds f →
      AreFirstLines (ds ++ step_facts a.layout.now a.tree.now a.source.now number e ∷ []) g) →
      Gathers a input (es ++ e ∷ []) number s q g
  asked_one s r q f g h from to keeps adds =
      let counted : count ≡ length es = h.counted in
      record {
        counted = counted_on counted;
        before = still_behind s counted from h.before;
        recent = told_on r q counted (omega (arith, to)) keeps h.recent;
        lines = subst (λ ds. AreFirstLines ds g)
            (sym (facts_on counted ∙ ap (λ l. facts es ++ l)
            (one_within a.layout.now a.tree.now a.source.now a.first a.last number e from to))) (adds (facts es) h.lines);
      }
