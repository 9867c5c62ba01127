-- Histories whose rows are marked where a worker is past its reserve.
use Rattle.std.proofs.Common.{◌≡◌, ◌⊎◌, inl, inr, ⊎_elim, ℕ, zero, suc, ◌+◌, ◌<◌, ◌≤◌, List, [], ◌∷◌, ◌++◌, length, take, true, false, Some}
use Rattle.std.proofs.Common.{ℤ, take_all, refl, sym, ap, ◌∙◌, subst, arith}
use Rattle.std.specs.Prelude.{slice_get}
use Rattle.std.specs.List.{AllByRecursion}
use Rattle.std.proofs.lemmas.List.{take-append-le}
use Rattle.address_map.specs.Lawful.{Shape}
use Rattle.superstep_instructions.specs.Code.{SuperstepCode}
use Rattle.superstep_machine.specs.Setting.{Setting, workers}
use Rattle.superstep_machine.specs.Machine.{phases}
use Rattle.superstep_machine.specs.Run.{State, bsp, opening, is_over, setting}
use Rattle.bsp_verify.specs.Runs.{worker_after}
use Rattle.worker_exchange.specs.Rows.{WrittenMessage}
use Rattle.worker_exchange.specs.Reached.{most_instructions}
use Rattle.worker_exchange.specs.Equipped.{IsRunnable}
use Rattle.worker_histories.specs.Histories.{rows_by, end_by, entry, HaveExchanged}
use Rattle.worker_histories.specs.Joined.{IsRunSoFar}
use Rattle.worker_histories.specs.InWords.{in_words, IsUnderway}
use Rattle.worker_histories.specs.Marked.{has_mark, any_mark, AreClear, IsClear, IsCutShort}
use Rattle.worker_histories.proofs.Before.{exchanged_before, underway_before}
use Rattle.worker_histories.proofs.Marking.{found, clear_row, marked_at, rows_long, long_more, there}
use Rattle.std.proofs.lemmas.Bool.{or_cases}
use Rattle.worker_histories.proofs.Reading.{histories_in_words_are_the_run_so_far}
use Rattle.run_options.specs.declared.reserve.Reserve.{Reserve}
use Rattle.bsp_machine.specs.Reserves.{is_past}
use Rattle.std.proofs.lemmas.Option.{slice_get_within}
use Rattle.workers.specs.Worked.{items_at, MarksWherePast}
use Rattle.workers.specs.Past.{ComesPast}

pub true_no_false : true ≡ false → ⊥
true_no_false h = cc

pub below_or_past : (k n : ℕ) → (k < n) ⊎ (n ≤ k)
below_or_past k zero = inr (omega arith)
below_or_past zero (suc n) = inl (omega arith)
below_or_past (suc k) (suc n) = ⊎_elim (λ (a : k < n). inl (omega (arith, a))) (λ (a : n ≤ k). inr (omega (arith, a))) (below_or_past k n)

-- ---- entries

entry_last : {M : Type 0} (xs : List (List M)) (x : List M) (i : ℕ) → entry (xs ++ x ∷ []) (length xs) i ≡ slice_get x i
entry_last [] x i = refl
entry_last (y ∷ xs) x i = entry_last xs x i

wide_entry : {M : Type 0} (p : ℕ) (cs : List (List M)) → AllByRecursion (λ (c : List M). length c ≡ p) cs → (k i : ℕ) → k < length cs →
    i < p → (x : M) × (entry cs k i ≡ Some x)
wide_entry p [] h k i l below = absurd (omega (arith, l))
wide_entry p (c ∷ cs) h zero i l below = there c i (let long = h.0 in omega (arith, long, below))
wide_entry p (c ∷ cs) h (suc k) i l below = wide_entry p cs h.1 k i (omega (arith, l)) below

entry_within : {M : Type 0} (p : ℕ) (cs : List (List M)) → AllByRecursion (λ (c : List M). length c ≡ p) cs → (k i : ℕ) (x : M) →
    entry cs k i ≡ Some x → i < p
entry_within p [] h k i x e = absurd (cc e)
entry_within p (c ∷ cs) h zero i x e = (let l = slice_get_within c i x e in let long = h.0 in omega (arith, long, l))
entry_within p (c ∷ cs) h (suc k) i x e = entry_within p cs h.1 k i x e

clear_entry : (rs : List (List WrittenMessage)) → AreClear rs → (k i : ℕ) (x : WrittenMessage) → entry rs k i ≡ Some x → has_mark x ≡ false
clear_entry [] h k i x e = absurd (cc e)
clear_entry (r ∷ rs) h zero i x e = marked_at false r i x (clear_row r h.0) e
clear_entry (r ∷ rs) h (suc k) i x e = clear_entry rs h.1 k i x e

-- a message of the row of exchange k has a mark exactly where the worker is past its reserve at it
marked_there : (reserve : Reserve) (t : Setting) (w made : ℕ) (s : State) (cs rs : List (List WrittenMessage)) →
    MarksWherePast t w reserve made s cs rs → (k i : ℕ) (x : WrittenMessage) → entry rs k i ≡ Some x →
    has_mark x ≡ is_past reserve (items_at t w (end_by (in_words t) w s (take k cs))) (made + k)
marked_there reserve t w made s [] [] h k i x e = absurd (cc e)
marked_there reserve t w made s [] (r ∷ rs) h k i x e = absurd h
marked_there reserve t w made s (c ∷ cs) [] h k i x e = absurd h
marked_there reserve t w made s (c ∷ cs) (r ∷ rs) h zero i x e =
    marked_at (is_past reserve (items_at t w s) made) r i x h.0 e
    ∙ ap (is_past reserve (items_at t w s)) (let same : made ≡ made + 0 = omega arith in same)
marked_there reserve t w made s (c ∷ cs) (r ∷ rs) h (suc k) i x e =
    marked_there reserve t w (made + 1) ((in_words t).next w s c) cs rs h.1 k i x e
    ∙ ap (is_past reserve (items_at t w (end_by (in_words t) w ((in_words t).next w s c) (take k cs))))
    (let same : made + 1 + k ≡ made + suc k = omega arith in same)

module _ (code : SuperstepCode) (m : Shape) (runnable : IsRunnable code m) (bound : ℕ) (input : List ℤ) (reserve : Reserve) (exchanges : ℕ)
    (rows columns : ℕ → List (List WrittenMessage)) (exchanged : HaveExchanged m.parts exchanges rows columns)
    (marked : (n : ℕ) → most_instructions code bound < n → (w : ℕ) → w < m.parts →
    MarksWherePast (setting code m bound n) w reserve 0 (opening (setting code m bound n) input w) (columns w) (rows w)) where
  some : 0 < m.parts
  some = let l = runnable.map.lawful.one in omega (arith, l)

  message_to_first : (k w : ℕ) → k < exchanges → w < m.parts → (x : WrittenMessage) × (entry (rows w) k 0 ≡ Some x)
  message_to_first k w l below =
      let many = exchanged.many 0 some in
      let x = wide_entry m.parts (columns 0) (exchanged.wide 0 some) k w (omega (arith, l, many)) below in
      (x.0, sym (exchanged.same w 0 k below some) ∙ x.1)

  -- behind k exchanges that are underway the worker's state is that of the run
  so_far : (n k : ℕ) → k ≤ exchanges →
      ((w : ℕ) → w < m.parts → IsUnderway (setting code m bound n) w (opening (setting code m bound n) input w) (take k (columns w))
      (take k (rows w))) →
      IsRunSoFar (setting code m bound n) input k
      (λ w. end_by (in_words (setting code m bound n)) w (opening (setting code m bound n) input w) (take k (columns w)))
  so_far n k few underway =
      histories_in_words_are_the_run_so_far (setting code m bound n) runnable.map input k (λ w. take k (rows w)) (λ w. take k (columns w))
      (exchanged_before m.parts k exchanges rows columns exchanged few) underway

  -- what the first message of a row says of the state at the exchange
  told : (n : ℕ) → most_instructions code bound < n → (k w : ℕ) → w < m.parts →
      IsRunSoFar (setting code m bound n) input k
      (λ w. end_by (in_words (setting code m bound n)) w (opening (setting code m bound n) input w) (take k (columns w))) →
      (x : WrittenMessage) → entry (rows w) k 0 ≡ Some x →
      has_mark x ≡ is_past reserve (items_at (setting code m bound n) w (worker_after (setting code m bound n) input k w)) k
  told n low k w below so x at =
      let t = setting code m bound n in
      marked_there reserve t w 0 (opening t input w) (columns w) (rows w) (marked n low w below) k 0 x at
      ∙ ap (λ (s : State). is_past reserve (items_at t w s) (0 + k)) (so.states_are w below)
      ∙ ap (is_past reserve (items_at t w (worker_after t input k w))) (let same : 0 + k ≡ k = omega arith in same)

  -- ---- no mark

  -- a run to its end without a mark doesn't come past the reserve
  pub within : (n : ℕ) → most_instructions code bound < n →
      ((w : ℕ) → w < m.parts → IsClear (setting code m bound n) w (opening (setting code m bound n) input w) (columns w) (rows w)) →
      is_over (worker_after (setting code m bound n) input exchanges 0).way ≡ true → ¬ (ComesPast code m bound input reserve)
  within n low clear over p =
      let t = setting code m bound n in
      let k = p.exchange in
      ⊎_elim {C = ⊥}
      (λ (l : k < exchanges).
      let so = so_far n k (omega (arith, l)) (λ w h. underway_before t w (opening t input w) (columns w) (rows w) (clear w h).underway k) in
      let x = message_to_first k p.worker l p.there in
      true_no_false
      (sym (p.past n low) ∙ sym (told n low k p.worker p.there so x.0 x.1)
      ∙ clear_entry (rows p.worker) (clear p.worker p.there).sent k 0 x.0 x.1))
      (λ (l : exchanges ≤ k). true_no_false (sym over ∙ p.comes n low exchanges (omega (arith, l)))) (below_or_past k exchanges)

  -- ---- a mark in the last exchange

  module _ (cut : (n : ℕ) → most_instructions code bound < n → (w : ℕ) → w < m.parts →
      IsCutShort (setting code m bound n) w (opening (setting code m bound n) input w) (columns w) (rows w)) where
    -- exchanges before the last
    abbrev enough : ℕ
    enough = suc (most_instructions code bound)

    abbrev first : IsCutShort (setting code m bound enough) 0 (opening (setting code m bound enough) input 0) (columns 0) (rows 0)
    first = cut enough (omega arith) 0 some

    abbrev last : ℕ
    last = length first.earlier_columns

    module _ (n : ℕ) (low : most_instructions code bound < n) (w : ℕ) (below : w < m.parts) where
      earlier_long : exchanges ≡ suc (length (cut n low w below).earlier_columns)
      earlier_long =
          sym (exchanged.many w below) ∙ ap length (cut n low w below).columns_are
          ∙ long_more (cut n low w below).earlier_columns (cut n low w below).column

      rows_earlier : length (cut n low w below).earlier_rows ≡ length (cut n low w below).earlier_columns
      rows_earlier =
          let t = setting code m bound n in
          ap length (cut n low w below).clear.underway.sent
          ∙ rows_long (in_words t) (workers t) w (opening t input w) (cut n low w below).earlier_columns

    all_are : exchanges ≡ suc last
    all_are = earlier_long enough (omega arith) 0 some

    columns_before : (n : ℕ) (low : most_instructions code bound < n) (w : ℕ) (below : w < m.parts) →
        take last (columns w) ≡ (cut n low w below).earlier_columns
    columns_before n low w below =
        let h = cut n low w below in
        let long = earlier_long n low w below in
        let all = all_are in
        ap (take last) h.columns_are ∙ take-append-le last h.earlier_columns (h.column ∷ []) (omega (arith, long, all))
        ∙ take_all last h.earlier_columns (omega (arith, long, all))

    rows_before : (n : ℕ) (low : most_instructions code bound < n) (w : ℕ) (below : w < m.parts) →
        take last (rows w) ≡ (cut n low w below).earlier_rows
    rows_before n low w below =
        let h = cut n low w below in
        let long = earlier_long n low w below in
        let same = rows_earlier n low w below in
        let all = all_are in
        ap (take last) h.rows_are ∙ take-append-le last h.earlier_rows (h.row ∷ []) (omega (arith, long, same, all))
        ∙ take_all last h.earlier_rows (omega (arith, long, same, all))

    so_last : (n : ℕ) → most_instructions code bound < n → IsRunSoFar (setting code m bound n) input last
        (λ w. end_by (in_words (setting code m bound n)) w (opening (setting code m bound n) input w) (take last (columns w)))
    so_last n low = so_far n last (let all = all_are in omega (arith, all)) (λ w below.
        let t = setting code m bound n in
        subst (λ cs. IsUnderway t w (opening t input w) cs (take last (rows w))) (sym (columns_before n low w below))
        (subst (λ rs. IsUnderway t w (opening t input w) (cut n low w below).earlier_columns rs) (sym (rows_before n low w below))
        (cut n low w below).clear.underway))

    -- a worker that marked its row
    source : (v : ℕ) × (x : WrittenMessage) × (v < m.parts) × (entry (rows v) last 0 ≡ Some x) × (has_mark x ≡ true)
    source = ⊎_elim
        (λ (mine : first.stopped.mine ≡ true).
        let x = message_to_first last 0 (let all = all_are in omega (arith, all)) some in
        let at = sym (entry_last first.earlier_rows first.row 0)
        ∙ ap (λ k. entry (first.earlier_rows ++ first.row ∷ []) k 0) (rows_earlier enough (omega arith) 0 some)
        ∙ ap (λ rs. entry rs last 0) (sym first.rows_are) ∙ x.1 in
        (0, x.0, some, x.1, marked_at first.stopped.mine first.row 0 x.0 first.stopped.marked at ∙ mine))
        (λ (came : any_mark first.column ≡ true).
        let f = found first.column came in
        let at = ap (λ cs. entry cs last f.0) first.columns_are ∙ entry_last first.earlier_columns first.column f.0 ∙ f.2 in
        let below = entry_within m.parts (columns 0) (exchanged.wide 0 some) last f.0 f.1 at in
        (f.0, f.1, below, sym (exchanged.same f.0 0 last below some) ∙ at, f.3))
        (or_cases first.stopped.mine (any_mark first.column) (sym first.stopped.by_marks))

    -- such a run comes past the reserve
    pub comes_past : ComesPast code m bound input reserve
    comes_past = record {
      worker = source.0;
      exchange = last;
      there = source.2;
      comes = λ n low k l. ⊎_elim
          (λ (before : k < last). (so_last n low).going k before)
          (λ (here : last ≤ k).
          let t = setting code m bound n in
          let same : k ≡ last = omega (arith, here, l) in
          ap (λ i. is_over (worker_after t input i 0).way) same
          ∙ ap (λ (s : State). is_over s.way) (sym ((so_last n low).states_are 0 some))
          ∙ ap (λ cs. is_over (end_by (in_words t) 0 (opening t input 0) cs).way) (columns_before n low 0 some)
          ∙ (cut n low 0 some).unfinished)
          (below_or_past k last);
      past = λ n low. sym (told n low last source.0 source.2 (so_last n low) source.1 source.3) ∙ source.4;
    }
