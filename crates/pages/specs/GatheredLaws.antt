-- The laws of what a page takes of entries: it is nothing of no entries, and entries come behind entries.
use Rattle.std.proofs.Common.{◌≡◌, ◌∙◌, ◌+◌, ◌-◌, ℕ, ℤ, zero, suc, List, [], ◌∷◌, ◌++◌, ap, append_assoc, arith, length, subst, sym, take}
use Rattle.std.proofs.lemmas.Grind.{fold-append}
use Rattle.std.proofs.lemmas.List.{append-nil, length-append, take_all}
use Rattle.std.specs.List.{fold}
use Rattle.serde_json.specs.Data.{Data}
use Rattle.json_texts.proofs.Json.{adds_nothing, adds_then}
use Rattle.json_texts.specs.StepFacts.{step_within, steps_from}
use Rattle.pram_model.specs.Layout.{SharedEntry}
use Rattle.pram_trees.specs.Program.{ProgramTree}
use Rattle.journal.specs.Entries.{Entry}
use Rattle.pages.specs.Kept.{Holds}
use Rattle.journal.specs.Replay.{with_cells, with_printed, with_variables}
use Rattle.pages.specs.declared.lines.KeptLines.{KeptLines}
use Rattle.pages.specs.declared.state.RunState.{RunState}
use Rattle.pages.specs.declared.gatherer.Gatherer.{Gatherer}
use Rattle.pages.specs.Gathered.{AddsLines, IsGathering, Replays}

-- ---- the changes

pub take_both : (n : ℕ) (xs ys : List Entry) → take n (xs ++ ys) ≡ take n xs ++ take (n - length xs) ys
take_both n [] ys =
    ap (λ m. take m ys) (let e : n ≡ n - 0 = omega arith in e)
    ∙ ap (λ l. l ++ take (n - 0) ys) (sym (take_all n [] (omega arith)))
take_both zero (x ∷ xs) ys = ap (λ m. take m ys) (let e : 0 ≡ 0 - length (x ∷ xs) = omega arith in e)
take_both (suc n) (x ∷ xs) ys =
    ap (λ l. x ∷ l) (take_both n xs ys)
    ∙ ap (λ m. x ∷ (take n xs ++ take m ys)) (let e : n - length xs ≡ suc n - length (x ∷ xs) = omega arith in e)

-- the changes of some entries and of those behind them
folded : {S : Type 0} (f : S → Entry → S) (last count mid : ℕ) (a b c : S) (xs ys : List Entry) → mid ≡ count + length xs →
    b ≡ fold f a (take (last - count) xs) → c ≡ fold f b (take (last - mid) ys) → c ≡ fold f a (take (last - count) (xs ++ ys))
folded f last count mid a b c xs ys counted h g =
    g ∙ ap (λ s. fold f s (take (last - mid) ys)) h
    ∙ sym (fold-append f a (take (last - count) xs) (take (last - mid) ys))
    ∙ ap (λ n. fold f a (take (last - count) xs ++ take n ys))
    (let e : last - mid ≡ (last - count) - length xs = omega (arith, counted) in e)
    ∙ ap (fold f a) (sym (take_both (last - count) xs ys))

pub replays_nothing : (last count : ℕ) (s : RunState) → Replays last count count s s []
replays_nothing last count s = record {
  counted = omega arith;
  cells = ap (fold with_cells s.cells.items) (sym (take_all (last - count) [] (omega arith)));
  variables = ap (fold with_variables s.variables.items) (sym (take_all (last - count) [] (omega arith)));
  printed = ap (fold with_printed s.printed) (sym (take_all (last - count) [] (omega arith)));
}

pub replays_on : (last count mid late : ℕ) (a b c : RunState) (xs ys : List Entry) → Replays last count mid a b xs →
    Replays last mid late b c ys → Replays last count late a c (xs ++ ys)
replays_on last count mid late a b c xs ys h g = record {
  counted = let u : mid ≡ count + length xs = h.counted in let v : late ≡ mid + length ys = g.counted in let w = length-append xs ys in
      omega (arith, u, v, w);
  cells = folded with_cells last count mid a.cells.items b.cells.items c.cells.items xs ys h.counted h.cells g.cells;
  variables = folded with_variables last count mid a.variables.items b.variables.items c.variables.items xs ys h.counted h.variables
      g.variables;
  printed = folded with_printed last count mid a.printed b.printed c.printed xs ys h.counted h.printed g.printed;
}

pub replays_as : (last to count mid late : ℕ) (a b c : RunState) (xs ys : List Entry) → to ≡ last → Replays last count mid a b xs →
    Replays to mid late b c ys → Replays last count late a c (xs ++ ys)
replays_as last to count mid late a b c xs ys same h g =
    replays_on last count mid late a b c xs ys h (subst (λ to. Replays to mid late b c ys) same g)

-- ---- the lines

pub adds_none : (k : KeptLines) → AddsLines k k []
adds_none k = record {
  text = [];
  json = adds_nothing [];
  holds = λ before h. subst (Holds k) (sym (append-nil before)) h;
}

pub adds_both : (k l m : KeptLines) (ds es : List Data) → AddsLines k l ds → AddsLines l m es → AddsLines k m (ds ++ es)
adds_both k l m ds es x y = record {
  text = x.text ++ y.text;
  json = adds_then ds es [] x.text (x.text ++ y.text) x.json
      (record { whole = ap (λ t. x.text ++ t) y.json.whole; read_back = y.json.read_back });
  holds = λ before h. subst (Holds m) (append_assoc before x.text y.text) (y.holds (before ++ x.text) (x.holds before h));
}

module _ (layout : List SharedEntry) (tree : ProgramTree) (source : List ℕ) (first last : ℕ) where
  pub facts_both : (c : ℕ) (xs ys : List Entry) → steps_from layout tree source first last (c + 1) (xs ++ ys)
      ≡ steps_from layout tree source first last (c + 1) xs ++ steps_from layout tree source first last ((c + length xs) + 1) ys
  facts_both c [] ys = ap (λ n. steps_from layout tree source first last n ys) (let e : c + 1 ≡ (c + 0) + 1 = omega arith in e)
  facts_both c (x ∷ xs) ys =
      ap (λ ds. step_within layout tree source first last (c + 1) x ++ ds) (facts_both (c + 1) xs ys)
      ∙ sym (append_assoc (step_within layout tree source first last (c + 1) x) (steps_from layout tree source first last ((c + 1) + 1) xs)
      (steps_from layout tree source first last (((c + 1) + length xs) + 1) ys))
      ∙ ap (λ n. (step_within layout tree source first last (c + 1) x ++ steps_from layout tree source first last ((c + 1) + 1) xs)
      ++ steps_from layout tree source first last n ys)
      (let e : ((c + 1) + length xs) + 1 ≡ (c + length (x ∷ xs)) + 1 = omega arith in e)

-- ---- both

pub told_nothing : (input : List ℤ) (es : List Entry) (g : Gatherer) → IsGathering input es g → IsGathering input (es ++ []) g
told_nothing input es g h = subst (λ es. IsGathering input es g) (sym (append-nil es)) h

pub told_on : (input : List ℤ) (es xs ys : List Entry) (g : Gatherer) → IsGathering input ((es ++ xs) ++ ys) g →
    IsGathering input (es ++ (xs ++ ys)) g
told_on input es xs ys g h = subst (λ es. IsGathering input es g) (append_assoc es xs ys) h
