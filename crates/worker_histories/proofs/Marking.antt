-- Marks in rows and columns: all stop, or none.
use Rattle.std.proofs.Common.{◌≡◌, ◌⊎◌, inl, inr, ⊎_elim, ℕ, zero, suc, ◌-◌, ◌<◌, List, [], ◌∷◌, ◌++◌, length, Bool, true, false}
use Rattle.std.proofs.Common.{Option, Some, refl, sym, ap, ◌∙◌, subst, arith}
use Rattle.std.specs.Prelude.{slice_get, slice_index_or, ◌||◌}
use Rattle.std.specs.List.{AllByRecursion}
use Rattle.std.proofs.lemmas.Bool.{or_parts, or_cases, or_left, or_right}
use Rattle.std.proofs.lemmas.Option.{slice_get_within}
use Rattle.superstep_machine.specs.declared.mark.HeaderMark.{HeaderMark}
use Rattle.superstep_machine.specs.declared.mark.HeaderMark.TheVariants.{Clear, OutOfMemory, OutOfReserve}
use Rattle.superstep_machine.specs.Marks.{worse}
use Rattle.superstep_machine.specs.HeaderWords.{read_header}
use Rattle.superstep_machine.specs.Setting.{Setting, workers}
use Rattle.superstep_machine.specs.Run.{State}
use Rattle.superstep_machine.specs.Machine.{Machine}
use Rattle.worker_exchange.specs.Rows.{WrittenMessage}
use Rattle.worker_exchange.specs.Received.{mark_heard, is_marked}
use Rattle.worker_histories.specs.Histories.{rows_by, entry, HaveExchanged}
use Rattle.worker_histories.specs.InWords.{in_words, AreGivenBack}
use Rattle.worker_histories.specs.Marked.{has_mark, any_mark, IsMarked, StopsByMarks, AllStopOrNone, IsClear, IsCutShort, HasGone}
use Rattle.worker_histories.specs.Marked.{MarksEndAllOrNone, ClearGrows}
use Rattle.worker_histories.proofs.Growing.{before_grows, histories_grow}

-- ---- truth

one_truth : (a b : Bool) → (a ≡ true → b ≡ true) → (b ≡ true → a ≡ true) → a ≡ b
one_truth true b f g = sym (f refl)
one_truth false true f g = g refl
one_truth false false f g = refl

-- ---- a mark among messages

pub marked_worse : (a b : HeaderMark) → is_marked (worse a b) ≡ (is_marked a || is_marked b)
marked_worse Clear b = refl
marked_worse OutOfMemory b = refl
marked_worse OutOfReserve Clear = refl
marked_worse OutOfReserve OutOfMemory = refl
marked_worse OutOfReserve OutOfReserve = refl

any_more : (x : WrittenMessage) (xs : List WrittenMessage) → any_mark (x ∷ xs) ≡ (has_mark x || any_mark xs)
any_more x xs = marked_worse (read_header x.header).mark (mark_heard xs)

-- one of them has it
pub found : (xs : List WrittenMessage) → any_mark xs ≡ true → (k : ℕ) × (x : WrittenMessage) × (slice_get xs k ≡ Some x) ×
    (has_mark x ≡ true)
found [] e = absurd (cc e)
found (x ∷ xs) e =
    ⊎_elim (λ h. (zero, x, refl, h)) (λ h. let r = found xs h in (suc r.0, r.1, r.2, r.3))
    (or_cases (has_mark x) (any_mark xs) (sym (any_more x xs) ∙ e))

shown : (xs : List WrittenMessage) (k : ℕ) (x : WrittenMessage) → slice_get xs k ≡ Some x → has_mark x ≡ true → any_mark xs ≡ true
shown [] k x e h = absurd (cc e)
shown (y ∷ xs) zero x e h =
    any_more y xs ∙ or_left (has_mark y) (any_mark xs) ((let s : y ≡ x = (let q : Option.Some y ≡ Some x = e in cc) in ap has_mark s) ∙ h)
shown (y ∷ xs) (suc k) x e h = any_more y xs ∙ or_right (has_mark y) (any_mark xs) (shown xs k x e h)

-- a row without a mark has none in any message
pub clear_row : (xs : List WrittenMessage) → any_mark xs ≡ false → IsMarked false xs
clear_row [] e = tt
clear_row (x ∷ xs) e =
    let r = or_parts (has_mark x) (any_mark xs) (sym (any_more x xs) ∙ e) in
    (r.0, clear_row xs r.1)

pub marked_at : (mine : Bool) (xs : List WrittenMessage) (k : ℕ) (x : WrittenMessage) → IsMarked mine xs → slice_get xs k ≡ Some x →
    has_mark x ≡ mine
marked_at mine [] k x h e = absurd (cc e)
marked_at mine (y ∷ xs) zero x h e = (let s : x ≡ y = (let q : Option.Some y ≡ Some x = e in cc) in ap has_mark s) ∙ h.0
marked_at mine (y ∷ xs) (suc k) x h e = marked_at mine xs k x h.1 e

-- ---- places of lists

module _ {A : Type 0} where
  pub there : (xs : List A) (k : ℕ) → k < length xs → (x : A) × (slice_get xs k ≡ Some x)
  there [] k h = absurd (omega (arith, h))
  there (x ∷ xs) zero h = (x, refl)
  there (x ∷ xs) (suc k) h = there xs k (omega (arith, h))

  entry_at : (xs : List (List A)) (k i : ℕ) → entry xs k i ≡ slice_get (slice_index_or xs k []) i
  entry_at [] k i = refl
  entry_at (x ∷ xs) zero i = refl
  entry_at (x ∷ xs) (suc k) i = entry_at xs k i

  last_at : (xs : List A) (x d : A) → slice_index_or (xs ++ x ∷ []) (length xs) d ≡ x
  last_at [] x d = refl
  last_at (y ∷ xs) x d = last_at xs x d

  pub long_more : (xs : List A) (x : A) → length (xs ++ x ∷ []) ≡ suc (length xs)
  long_more [] x = refl
  long_more (y ∷ xs) x = ap suc (long_more xs x)

  all_at : (P : A → Type 0) (xs : List A) (k : ℕ) (d : A) → AllByRecursion P xs → k < length xs → P (slice_index_or xs k d)
  all_at P [] k d h l = absurd (omega (arith, l))
  all_at P (x ∷ xs) zero d h l = h.0
  all_at P (x ∷ xs) (suc k) d h l = all_at P xs k d h.1 (omega (arith, l))

  all_or : (P : A → Type 0) (xs : List A) (k : ℕ) (d : A) → AllByRecursion P xs → P d → P (slice_index_or xs k d)
  all_or P [] k d h q = q
  all_or P (x ∷ xs) zero d h q = h.0
  all_or P (x ∷ xs) (suc k) d h q = all_or P xs k d h.1 q

pub rows_long : {S M O : Type 0} (b : Machine S M O) (p w : ℕ) (s : S) (cs : List (List M)) → length (rows_by b p w s cs) ≡ length cs
rows_long b p w s [] = refl
rows_long b p w s (c ∷ cs) = ap suc (rows_long b p w (b.next w s c) cs)

-- ---- one exchange

module _ (p : ℕ) (rows columns : ℕ → List WrittenMessage) (stops : ℕ → Bool) (wide : (w : ℕ) → w < p → length (columns w) ≡ p)
    (same : (i j : ℕ) → i < p → j < p → slice_get (columns j) i ≡ slice_get (rows i) j)
    (marks : (w : ℕ) → w < p → StopsByMarks (rows w) (columns w) (stops w)) where
  -- where one stops, a worker marked its row
  source : (i : ℕ) → i < p → stops i ≡ true → (k : ℕ) × (l : k < p) × ((marks k l).mine ≡ true)
  source i hi e =
      ⊎_elim (λ h. (i, hi, h))
      (λ h.
      let f = found (columns i) h in
      let hk : f.0 < p = (let a = slice_get_within (columns i) f.0 f.1 f.2 in let b = wide i hi in omega (arith, a, b)) in
      let m = marks f.0 hk in
      (f.0, hk, sym (marked_at m.mine (rows f.0) i f.1 m.marked (sym (same f.0 i hk hi) ∙ f.2)) ∙ f.3))
      (or_cases (marks i hi).mine (any_mark (columns i)) (sym (marks i hi).by_marks ∙ e))

  -- and it comes to each
  all_stop : (i j : ℕ) → i < p → j < p → stops i ≡ true → stops j ≡ true
  all_stop i j hi hj e =
      let from = source i hi e in
      let k = from.0 in
      let m = marks k from.1 in
      let at = there (columns j) k (let a = from.1 in let b = wide j hj in omega (arith, a, b)) in
      (marks j hj).by_marks
      ∙ or_right (marks j hj).mine (any_mark (columns j))
      (shown (columns j) k at.0 at.1
      (marked_at m.mine (rows k) j at.0 m.marked (sym (same k j from.1 hj) ∙ at.1) ∙ from.2))

pub all_stop_or_none : AllStopOrNone
all_stop_or_none p rows columns stops wide same marks i j hi hj =
    one_truth (stops i) (stops j) (all_stop p rows columns stops wide same marks i j hi hj)
    (all_stop p rows columns stops wide same marks j i hj hi)

-- ---- whole histories

module _ (t : Setting) (n : ℕ) (start : ℕ → State) (rows columns : ℕ → List (List WrittenMessage)) (stops : ℕ → Bool)
    (exchanged : HaveExchanged (workers t) n rows columns)
    (gone : (w : ℕ) → w < workers t → HasGone t w (start w) (columns w) (rows w) (stops w)) where
  abbrev last_row : ℕ → List WrittenMessage
  last_row w = slice_index_or (rows w) (n - 1) []

  abbrev last_column : ℕ → List WrittenMessage
  last_column w = slice_index_or (columns w) (n - 1) []

  module _ (w : ℕ) (l : w < workers t) where
    -- the last exchange of one that a mark ended
    module _ (h : IsCutShort t w (start w) (columns w) (rows w)) where
      long : n ≡ suc (length h.earlier_columns)
      long = sym (exchanged.many w l) ∙ ap length h.columns_are ∙ long_more h.earlier_columns h.column

      columns_before : n - 1 ≡ length h.earlier_columns
      columns_before = let e = long in omega (arith, e)

      rows_before : n - 1 ≡ length h.earlier_rows
      rows_before =
          columns_before ∙ sym (rows_long (in_words t) (workers t) w (start w) h.earlier_columns) ∙ sym (ap length h.clear.underway.sent)

      row_is : last_row w ≡ h.row
      row_is =
          ap (λ rs. slice_index_or rs (n - 1) []) h.rows_are
          ∙ ap (λ k. slice_index_or (h.earlier_rows ++ h.row ∷ []) k []) rows_before ∙ last_at h.earlier_rows h.row []

      column_is : last_column w ≡ h.column
      column_is =
          ap (λ cs. slice_index_or cs (n - 1) []) h.columns_are
          ∙ ap (λ k. slice_index_or (h.earlier_columns ++ h.column ∷ []) k []) columns_before ∙ last_at h.earlier_columns h.column []

    some : stops w ≡ true → 0 < n
    some e = let a = long (subst (HasGone t w (start w) (columns w) (rows w)) e (gone w l)) in omega (arith, a)

    at_last : StopsByMarks (last_row w) (last_column w) (stops w)
    at_last = go (stops w) refl
      where
        go : (b : Bool) → stops w ≡ b → StopsByMarks (last_row w) (last_column w) (stops w)
        go true e =
            let h : IsCutShort t w (start w) (columns w) (rows w) =
            subst (HasGone t w (start w) (columns w) (rows w)) e (gone w l) in
            record {
              mine = h.stopped.mine;
              marked = subst (IsMarked h.stopped.mine) (sym (row_is h)) h.stopped.marked;
              by_marks = e ∙ h.stopped.by_marks ∙ ap (λ m. h.stopped.mine || any_mark m) (sym (column_is h));
            }
        go false e =
            let h : IsClear t w (start w) (columns w) (rows w) =
            subst (HasGone t w (start w) (columns w) (rows w)) e (gone w l) in
            record {
              mine = false;
              marked = clear_row (last_row w)
                  (all_or (λ (m : List WrittenMessage). any_mark m ≡ false) (rows w) (n - 1) [] h.sent refl);
              by_marks = e ∙ sym (all_or (λ (m : List WrittenMessage). any_mark m ≡ false) (columns w) (n - 1) [] h.received refl);
            }

  all_end : 0 < n → (i j : ℕ) → i < workers t → j < workers t → stops i ≡ stops j
  all_end h i j hi hj =
      all_stop_or_none (workers t) last_row last_column stops
      (λ w l. all_at (λ (c : List WrittenMessage). length c ≡ workers t) (columns w) (n - 1) [] (exchanged.wide w l)
      (let m = exchanged.many w l in omega (arith, m, h)))
      (λ a b ha hb. sym (entry_at (columns b) (n - 1) a) ∙ exchanged.same a b (n - 1) ha hb ∙ entry_at (rows a) (n - 1) b)
      at_last i j hi hj

pub marks_end_all_or_none : MarksEndAllOrNone
marks_end_all_or_none t n start rows columns stops exchanged gone i j hi hj =
    let at = all_end t n start rows columns stops exchanged gone in
    let some = some t n start rows columns stops exchanged gone in
    one_truth (stops i) (stops j) (λ e. sym (at (some i hi e) i j hi hj) ∙ e) (λ e. at (some j hj e) i j hi hj ∙ e)

-- ---- one exchange more

all_more : {A : Type 0} (P : A → Type 0) (xs : List A) (x : A) → AllByRecursion P xs → P x → AllByRecursion P (xs ++ x ∷ [])
all_more P [] x h q = (q, tt)
all_more P (y ∷ xs) x h q = (h.0, all_more P xs x h.1 q)

-- a row that isn't marked
unmarked_row : (row : List WrittenMessage) → IsMarked false row → any_mark row ≡ false
unmarked_row [] h = refl
unmarked_row (x ∷ row) h = any_more x row ∙ ap (λ b. b || any_mark row) h.0 ∙ unmarked_row row h.1

pub clear_grows : ClearGrows
clear_grows t w s columns rows column sent true clear unfinished stops as_sent = record {
  earlier_columns = columns;
  earlier_rows = rows;
  column = column;
  row = sent;
  columns_are = refl;
  rows_are = refl;
  clear = clear;
  unfinished = unfinished;
  stopped = stops;
}
clear_grows t w s columns rows column sent false clear unfinished stops as_sent =
    let unmarked = or_parts stops.mine (any_mark column) (sym stops.by_marks) in
    let grows = histories_grow (in_words t) (workers t) w s columns column in
    let is = as_sent refl in
    record {
      underway = record {
        sent = (λ i. clear.underway.sent i ++ is.row_is i ∷ []) ∙ sym grows.rows;
        going = grows.going clear.underway.going unfinished;
        given_back = before_grows (in_words t) (AreGivenBack t w) w s columns column clear.underway.given_back is.given_back;
      };
      received = all_more (λ (m : List WrittenMessage). any_mark m ≡ false) columns column clear.received unmarked.1;
      sent = all_more (λ (m : List WrittenMessage). any_mark m ≡ false) rows sent clear.sent
          (unmarked_row sent (subst (λ b. IsMarked b sent) unmarked.0 stops.marked));
    }
