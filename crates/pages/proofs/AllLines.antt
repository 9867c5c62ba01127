-- The lines of all entries that are asked for, by the last ones and the first bytes.
use Rattle.std.proofs.Common.{◌≡◌, ◌∙◌, ◌<◌, ◌≤◌, ◌+◌, ◌-◌, ◌++◌, ◌∷◌, [], List, ℕ, ℤ, ap, append-nil, arith, drop, get_or, inl, inr, length, length-append}
use Rattle.std.proofs.Common.{map, refl, suc, subst, sym, take}
use Rattle.std.specs.Prelude.{◌⊎◌, Err, IfOk, IfSome, Ok, OnOk, Option, Result, Some}
use Rattle.std.proofs.lemmas.Bool.{cases_lt}
use Rattle.std.proofs.lemmas.List.{drop_all, length-map, length-take-le, map-append, take-append-drop, take_more}
use Rattle.std.proofs.lemmas.List.Elements.{recursion_from_All}
use Rattle.serde_json.specs.Data.{Data}
use Rattle.json_texts.proofs.Json.{json_lines-append}
use Rattle.json_texts.specs.Lines.{ReadsBack, json_lines}
use Rattle.json_texts.specs.Small.{IsSmall}
use Rattle.json_texts.specs.StepFacts.{step_within, steps_from}
use Rattle.journal.specs.Entries.{Entry, entry_is}
use Rattle.journal.specs.declared.entry as rust
use Rattle.pages.specs.Cut.{room}
use Rattle.pages.specs.Facts.{BeginsLine, line_count}
use Rattle.pages.specs.Kept.{Holds}
use Rattle.pages.specs.Gathered.{AddsLines, AreFirstLines, AreRecent, HoldsFacts, last_told}
use Rattle.pages.specs.GatheredLaws.{adds_both, facts_both}
use Rattle.pages.specs.declared.asked.Asked.{Asked}
use Rattle.pages.specs.declared.first_lines.FirstLines.{FirstLines}
use Rattle.pages.specs.declared.lines.KeptLines.{KeptLines}
use Rattle.pages.specs.declared.recent.Recent.{Recent}
use Rattle.pages.proofs.Integers.{AreRead, those_read}
use Rattle.pages.proofs.CutOfKept.{length_take_most}
use Rattle.pages.proofs.LineEnds.{lines_end, whole_begins}
use Rattle.pages.proofs.OneEntry.{none_before, none_behind, one_within}
use Rattle.pages.proofs.ReadBack.{steps_told}

module _ (a : Asked) where
  abbrev facts : ℕ → List Entry → List Data
  facts = steps_from a.layout.now a.tree.now a.source.now a.first a.last

  abbrev within : ℕ → Entry → List Data
  within = step_within a.layout.now a.tree.now a.source.now a.first a.last

  -- entries before the first one that is asked for have no lines
  none_early : (n : ℕ) (es : List Entry) → n + length es ≤ a.first → facts n es ≡ []
  none_early n [] le = refl
  none_early n (e ∷ es) le =
      ap (λ l. l ++ facts (n + 1) es) (none_before a.layout.now a.tree.now a.source.now a.first a.last n e (omega (arith, le)))
      ∙ none_early (n + 1) es (omega (arith, le))

  -- nor have those behind the last one
  none_late : (n : ℕ) (es : List Entry) → a.last < n → facts n es ≡ []
  none_late n [] past = refl
  none_late n (e ∷ es) past =
      ap (λ l. l ++ facts (n + 1) es) (none_behind a.layout.now a.tree.now a.source.now a.first a.last n e past)
      ∙ none_late (n + 1) es (omega (arith, past))

  -- the others have one each
  one_more : (n k : ℕ) (e : Entry) (ds : List Data) → n ≤ a.last → length ds ≡ k - (a.first - (n + 1)) →
      length (within n e ++ ds) ≡ suc k - (a.first - n)
  one_more n k e ds to rest = by (cases_lt n a.first) where
    by : (n < a.first) ⊎ (a.first ≤ n) → length (within n e ++ ds) ≡ suc k - (a.first - n)
    by (inl lt) =
        let none : length (within n e ++ ds) ≡ length ds =
        ap (λ l. length (l ++ ds)) (none_before a.layout.now a.tree.now a.source.now a.first a.last n e lt) in
        omega (arith, none, lt, rest)
    by (inr from) =
        let one : length (within n e ++ ds) ≡ suc (length ds) =
        ap (λ l. length (l ++ ds)) (one_within a.layout.now a.tree.now a.source.now a.first a.last n e from to) in
        omega (arith, one, from, rest)

  one_each : (n : ℕ) (es : List Entry) → n + length es ≤ a.last + 1 → length (facts n es) ≡ length es - (a.first - n)
  one_each n [] le = omega arith
  one_each n (e ∷ es) le =
      one_more n (length es) e (facts (n + 1) es) (omega (arith, le)) (one_each (n + 1) es (omega (arith, le)))

  -- of some first entries there are as many lines as come no earlier than the first one asked for
  first_many : (es : List Entry) → length es ≤ last_told a → length (facts 1 es) ≡ length es - (a.first - 1)
  first_many es le = by (cases_lt a.last (length es)) where
    by : (a.last < length es) ⊎ (length es ≤ a.last) → length (facts 1 es) ≡ length es - (a.first - 1)
    by (inr few) = one_each 1 es (omega (arith, few))
    by (inl more) =
        let none : length (facts 1 es) ≡ 0 = ap length (none_early 1 es (omega (arith, le, more))) in omega (arith, none, le, more)

  -- entries that come behind so many, and one more
  pub lines_more : (before i number : ℕ) (entries : List rust.Entry.Entry) (e : rust.Entry.Entry) → i < length entries →
      e ≡ get_or entries i e → number ≡ (before + i) + 1 → facts (before + 1) (map entry_is (take (i + 1) entries))
      ≡ facts (before + 1) (map entry_is (take i entries)) ++ within number (entry_is e)
  lines_more before i number entries e below is n =
      let some = take i entries in
      let long : length (map entry_is some) ≡ i = length-map some entry_is ∙ length-take-le i entries (omega (arith, below)) in
      ap (λ l. facts (before + 1) (map entry_is l)) (take_more entries i e below)
      ∙ ap (λ x. facts (before + 1) (map entry_is (some ++ x ∷ []))) (sym is)
      ∙ ap (facts (before + 1)) (map-append entry_is some (e ∷ []))
      ∙ facts_both a.layout.now a.tree.now a.source.now a.first a.last before (map entry_is some) (entry_is e ∷ [])
      ∙ ap (λ k. facts (before + 1) (map entry_is some) ++ (within k (entry_is e) ++ []))
      (let k : (before + length (map entry_is some)) + 1 ≡ number = omega (arith, long, n) in k)
      ∙ ap (λ l. facts (before + 1) (map entry_is some) ++ l) (append-nil (within number (entry_is e)))

  -- those of the older ones and the newer
  pub both_lines : (k l m : KeptLines) (left before : ℕ) (older newer : List rust.Entry.Entry) → Holds k [] → before ≡ left + length older →
      AddsLines k l (facts (left + 1) (map entry_is older)) → AddsLines l m (facts (before + 1) (map entry_is newer)) →
      HoldsFacts m (facts (left + 1) (map entry_is older ++ map entry_is newer))
  both_lines k l m left before older newer h at x y =
      let long = length-map older entry_is in
      let both = subst (AddsLines k m)
      (ap (λ n. facts (left + 1) (map entry_is older) ++ facts (n + 1) (map entry_is newer))
      (let e : before ≡ left + length (map entry_is older) = omega (arith, long, at) in e)
      ∙ sym (facts_both a.layout.now a.tree.now a.source.now a.first a.last left (map entry_is older) (map entry_is newer)))
      (adds_both k l m (facts (left + 1) (map entry_is older)) (facts (before + 1) (map entry_is newer)) x y) in
      record { text = both.text; json = both.json; holds = both.holds [] h }

  module _ (input : List ℤ) (es : List Entry) (r : Recent) (h : AreRecent input (take (last_told a) es) r) where
    abbrev kept : List Entry
    kept = map entry_is r.older.items ++ map entry_is r.newer.items

    abbrev head : List ℕ
    head = json_lines (facts 1 h.before)

    up_to : facts 1 es ≡ facts 1 (take (last_told a) es)
    up_to = ap (facts 1) (sym (take-append-drop (last_told a) es))
        ∙ facts_both a.layout.now a.tree.now a.source.now a.first a.last 0 (take (last_told a) es) (drop (last_told a) es)
        ∙ ap (λ l. facts 1 (take (last_told a) es) ++ l) (by (cases_lt (last_told a) (length es)))
        ∙ append-nil (facts 1 (take (last_told a) es))
      where
        by : (last_told a < length es) ⊎ (length es ≤ last_told a) →
            facts ((0 + length (take (last_told a) es)) + 1) (drop (last_told a) es) ≡ []
        by (inl more) =
            let long = length-take-le (last_told a) es (omega (arith, more)) in
            none_late ((0 + length (take (last_told a) es)) + 1) (drop (last_told a) es) (omega (arith, long))
        by (inr all) = ap (facts ((0 + length (take (last_told a) es)) + 1)) (drop_all (last_told a) es all)

    parted : facts 1 es ≡ facts 1 h.before ++ facts (r.left + 1) kept
    parted = up_to ∙ ap (facts 1) h.whole
        ∙ facts_both a.layout.now a.tree.now a.source.now a.first a.last 0 h.before kept
        ∙ ap (λ n. facts 1 h.before ++ facts n kept)
        (let l : r.left ≡ length h.before = h.left in let e : (0 + length h.before) + 1 ≡ r.left + 1 = omega (arith, l) in e)

    before_few : length h.before ≤ last_told a
    before_few = by (cases_lt (last_told a) (length es)) where
      whole : length (take (last_told a) es) ≡ length h.before + length kept
      whole = ap length h.whole ∙ length-append h.before kept

      by : (last_told a < length es) ⊎ (length es ≤ last_told a) → length h.before ≤ last_told a
      by (inl more) =
          let long = length-take-le (last_told a) es (omega (arith, more)) in let w = whole in omega (arith, w, long)
      by (inr all) =
          let most = length_take_most (last_told a) es in let w = whole in omega (arith, w, most)

    -- none that is asked for was let go
    pub none_left : (lines : KeptLines) → 0 ≡ r.left - (a.first - 1) → HoldsFacts lines (facts (r.left + 1) kept) →
        HoldsFacts lines (facts 1 es)
    none_left lines none g =
        let l : r.left ≡ length h.before = h.left in
        let early : facts 1 h.before ≡ [] = no_facts (facts 1 h.before)
        (first_many h.before before_few ∙ (let e : length h.before - (a.first - 1) ≡ 0 = omega (arith, l, none) in e)) in
        subst (HoldsFacts lines) (sym (parted ∙ ap (λ l. l ++ facts (r.left + 1) kept) early)) g
      where
        no_facts : (ds : List Data) → length ds ≡ 0 → ds ≡ []
        no_facts [] e = refl
        no_facts (d ∷ ds) e = absurd (omega (arith, e))

    -- some were
    pub some_left : (lines all : KeptLines) (f : FirstLines) (left : ℕ) → left ≡ r.left - (a.first - 1) → AreFirstLines (facts 1 es) f →
        HoldsFacts lines (facts (r.left + 1) kept) →
        ((head text : List ℕ) → Holds lines text → f.bytes.items ≡ take room (head ++ text) → f.count ≡ line_count (head ++ text) →
        left ≡ line_count head → BeginsLine head (length head) → Holds all (head ++ text)) → HoldsFacts all (facts 1 es)
    some_left lines all f left many first g puts =
        let whole : json_lines (facts 1 es) ≡ head ++ g.text =
        ap json_lines parted ∙ json_lines-append (facts 1 h.before) (facts (r.left + 1) kept)
        ∙ ap (λ l. head ++ l) (sym g.json.whole) in
        let read : AreRead (facts 1 es) = those_read (facts 1 es)
        (recursion_from_All (IsSmall 126) (facts 1 es) (steps_told a.layout.now a.tree.now a.source.now a.first a.last 1 es))
        (recursion_from_All ReadsBack (facts 1 es) first.read_back) in
        let front : AreRead (facts 1 h.before) = first_read (facts 1 h.before) (facts (r.left + 1) kept) (subst AreRead parted read) in
        let l : r.left ≡ length h.before = h.left in
        record {
          text = head ++ g.text;
          json = record { whole = sym whole; read_back = first.read_back };
          holds = puts head g.text g.holds (first.bytes ∙ ap (take room) whole)
              (first.count ∙ sym (lines_end (facts 1 es) read) ∙ ap line_count whole)
              (many ∙ (let e : r.left - (a.first - 1) ≡ length h.before - (a.first - 1) = omega (arith, l) in e)
              ∙ sym (first_many h.before before_few) ∙ sym (lines_end (facts 1 h.before) front)) (whole_begins (facts 1 h.before));
        }
      where
        first_read : (ds es : List Data) → AreRead (ds ++ es) → AreRead ds
        first_read [] es h = tt
        first_read (d ∷ ds) es h = (h.0, first_read ds es h.1)

-- or where it went well
pub on_made : {A E : Type 0} (P Q : Type 0) (o : Result A E) → (P → Q) → OnOk o P → OnOk o Q
on_made P Q (Ok a) f h = f h
on_made P Q (Err e) f h = tt

-- what holds of a result where it is one
pub if_made : {A E : Type 0} (P Q : A → Type 0) (o : Result A E) → ((a : A) → P a → Q a) → IfOk o P → IfOk o Q
if_made P Q (Ok a) f h = f a h
if_made P Q (Err e) f h = tt

pub if_is : {A E : Type 0} (P : A → Type 0) (o : Result A E) (a : A) → o ≡ Ok a → IfOk o P → P a
if_is P o a is h = subst (λ o. IfOk o P) is h

pub some_is : {A : Type 0} (P : A → Type 0) (o : Option A) (a : A) → o ≡ Some a → IfSome o P → P a
some_is P o a is h = subst (λ o. IfSome o P) is h
