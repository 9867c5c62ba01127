-- What comes to a worker in an exchange, and what it counts.
use Rattle.std.proofs.Common.{◌≡◌, ℕ, suc, ◌+◌, ◌<◌, List, [], ◌∷◌, ◌++◌, length, map}
use Rattle.std.proofs.Common.{false, Option, Some, ℤ, refl, sym, ap, subst, ◌∙◌}
use Rattle.std.proofs.Common.{arith}
use Rattle.std.specs.Prelude.{slice_get, slice_index_or, ◌||◌}
use Rattle.std.specs.List.{range_with_len, AllByRecursion}
use Rattle.std.proofs.lemmas.List.{length-map, get_or_default}
use Rattle.std.proofs.lemmas.List.FromFn.{get_or-map-range_with_len}
use Rattle.pram_values.specs.Total.{total}
use Rattle.address_map.specs.Lawful.{Shape}
use Rattle.superstep_instructions.specs.Code.{SuperstepCode}
use Rattle.superstep_machine.specs.HeaderWords.{read_header}
use Rattle.superstep_machine.specs.WordReading.{read_message}
use Rattle.superstep_machine.specs.Setting.{Setting, workers}
use Rattle.superstep_machine.specs.declared.header.MessageHeader.{MessageHeader}
use Rattle.superstep_machine.specs.Run.{State, setting, ready, after, message_of}
use Rattle.superstep_machine.specs.Trace.{exchange_of, sum_over, words_between}
use Rattle.flat_machine.specs.Flatness.{IsMapFor}
use Rattle.flat_machine.proofs.Laws.{one_exchange}
use Rattle.flat_machine.proofs.Lists.{map_twice, map_itself}
use Rattle.bsp_verify.specs.Runs.{worker_after}
use Rattle.std.proofs.lemmas.List.Sums.{sum_by-cons}
use Rattle.worker_exchange.specs.Rows.{WrittenMessage, message_at, words_in, unwritten}
use Rattle.worker_exchange.specs.Reached.{most_instructions}
use Rattle.superstep_machine.specs.Purposes.{purpose_is}
use Rattle.worker_exchange.specs.Shown.{is_stopped, IsShown}
use Rattle.worker_exchange.specs.Received.{mark_heard, is_marked}
use Rattle.bsp_machine.specs.declared.counted.CountedWorker.{CountedWorker}
use Rattle.bsp_machine.specs.declared.sheet.Sheet.{Sheet}
use Rattle.bsp_machine.specs.Sheets.{messages_in, no_words, picked}
use Rattle.worker_histories.specs.Shares.{Share, share_of}
use Rattle.run_options.specs.declared.reserve.Reserve.{Reserve}
use Rattle.bsp_machine.specs.Reserves.{own_mark, IsMark, AreMarked, HaveReserve}
use Rattle.bsp_machine.specs.Workers.{shares, share_at, state_behind, IsTold, IsBetween, IsBehind, IsAt, HasCome, AreAt}
use Rattle.bsp_machine.proofs.ListLemmas.{map_by, map_at, range_more, get_is, one_there}
use Rattle.worker_histories.proofs.Marking.{there}
use Rattle.std.proofs.lemmas.Option.{slice_get_within}
use Rattle.bsp_machine.proofs.PhaseLemmas.{state_more}
use Rattle.bsp_machine.proofs.MarkLemmas.{header_marked, any_stopped, stops_with_any}
use Rattle.bsp_machine.proofs.StandingLemmas.{row_marked, row_mark, row_is, row_read, purpose_at}

-- ---- words

-- the words of messages, number by number
words_by : {A : Type 0} (f : A → WrittenMessage) (g : ℕ → ℕ) (xs : List A) (a : ℕ) →
    ((i : ℕ) (x : A) → slice_get xs i ≡ Some x → length (f x).words ≡ g (a + i)) →
    words_in (map f xs) ≡ total 0 (λ (b c : ℕ). b + c) g (range_with_len a (length xs))
words_by f g [] a h = refl
words_by f g (x ∷ xs) a h =
    let e : length (f x).words ≡ g a = h 0 x refl ∙ ap g (omega arith) in
    let r = words_by f g xs (a + 1) (λ i y k. h (suc i) y k ∙ ap g (omega arith)) in
    sum_by-cons (λ (m : WrittenMessage). length m.words) (f x) (map f xs) ∙ (λ t. e t + r t)

-- ---- one worker's row

module _ (code : SuperstepCode) (m : Shape) (bound : ℕ) (input : List ℤ) (k w : ℕ) where
  module _ (x : CountedWorker) (row : List WrittenMessage) (at : IsAt code m bound input k w x row) (going : is_stopped x.local.way ≡ false)
      (n : ℕ) (low : most_instructions code bound < n) where
    abbrev t_of : Setting
    t_of = setting code m bound n

    pub words_sent : words_in row ≡ sum_over t_of (λ j. words_between t_of (worker_after t_of input k) w j)
    words_sent =
        ap words_in (sym (map_itself row))
        ∙ words_by (λ (y : WrittenMessage). y) (λ j. words_between t_of (worker_after t_of input k) w j) row 0
        (λ i y e.
        let l = slice_get_within row i y e in
        let long = (at.filled n low).long in
        ap (λ (z : WrittenMessage). length z.words) (sym (get_is row i y unwritten e)
        ∙ row_is code m bound _ _ w x row at going n low i (omega (arith, l, long)))
        ∙ ap (λ j. words_between t_of (worker_after t_of input k) w j) (let same : i ≡ 0 + i = omega arith in same))
        ∙ ap (λ p. total 0 (λ (b c : ℕ). b + c) (λ j. words_between t_of (worker_after t_of input k) w j) (range_with_len 0 p))
        (at.filled n low).long

-- ---- a column

module _ (code : SuperstepCode) (m : Shape) (map_for : IsMapFor code m) (bound : ℕ) (input : List ℤ) (k : ℕ) (all : List CountedWorker)
    (rows : List Sheet) (at : AreAt code m bound input k all rows) (many : length all ≡ m.parts) (long : length rows ≡ m.parts)
    (none : (i : ℕ) (x : CountedWorker) → slice_get all i ≡ Some x → is_stopped x.local.way ≡ false) where
  module _ (w : ℕ) (x : CountedWorker) (here : slice_get all w ≡ Some x) (within : w < m.parts) where
    abbrev entry : Sheet → WrittenMessage
    entry row = slice_index_or (messages_in row) w no_words

    -- what is known of worker i, whose row this is
    module _ (n : ℕ) (low : most_instructions code bound < n) (i : ℕ) (row : Sheet) (e : slice_get rows i ≡ Some row) where
      abbrev t : Setting
      t = setting code m bound n

      below : i < m.parts
      below = let l = slice_get_within rows i row e in omega (arith, l, long)

      sender : (y : CountedWorker) × (slice_get all i ≡ Some y)
      sender = there all i (let b = below in omega (arith, b, many))

      has : IsAt code m bound input k i sender.0 (messages_in row)
      has = at i sender.0 row sender.1 e

      entry_is : entry row ≡ message_at (messages_in row) w
      entry_is = get_or_default (messages_in row) w no_words unwritten (let l = (has.filled n low).long in omega (arith, l, within))

      mine : (row' : Sheet) × (slice_get rows w ≡ Some row')
      mine = there rows w (omega (arith, within, long))

      one_purpose : purpose_is x.local.purpose ≡ purpose_is sender.0.local.purpose
      one_purpose =
          sym (purpose_at code m bound _ _ w x (messages_in mine.0) (at w x mine.0 here mine.1) (none w x here) n low)
          ∙ (one_exchange t map_for input k w i within below).0
          ∙ purpose_at code m bound _ _ i sender.0 (messages_in row) has (none i sender.0 sender.1) n low

      entry_read : read_message code.rule m w (purpose_is x.local.purpose) (read_header (entry row).header) (entry row).words
          ≡ message_of t i (worker_after t input k i) w
      entry_read =
          (λ j. read_message code.rule m w (one_purpose j) (read_header (entry_is j).header) (entry_is j).words)
          ∙ row_read code m bound _ _ i sender.0 (messages_in row) has (none i sender.0 sender.1) n low w within

      entry_words : length (entry row).words ≡ words_between t (worker_after t input k) i w
      entry_words =
          ap (λ (c : WrittenMessage). length c.words)
          (entry_is ∙ row_is code m bound _ _ i sender.0 (messages_in row) has (none i sender.0 sender.1) n low w within)

    pub coming : HasCome code m bound input k w x.local.purpose (picked w rows)
    coming = record {
      messages = λ n low.
          map_twice (λ (r : MessageHeader × List ℕ). read_message code.rule m w (purpose_is x.local.purpose) r.0 r.1)
          (λ (c : WrittenMessage). (read_header c.header, c.words)) (picked w rows)
          ∙ map_twice (λ (c : WrittenMessage). read_message code.rule m w (purpose_is x.local.purpose)
          (read_header c.header) c.words) entry rows
          ∙ map_by (λ row. read_message code.rule m w (purpose_is x.local.purpose) (read_header (entry row).header) (entry row).words)
          (λ i. message_of (setting code m bound n) i (worker_after (setting code m bound n) input k i) w) rows 0
          (λ i row e. entry_read n low i row e
          ∙ ap (λ j. message_of (setting code m bound n) j (worker_after (setting code m bound n) input k j) w)
          (let same : i ≡ 0 + i = omega arith in same))
          ∙ ap (λ p. map (λ i. message_of (setting code m bound n) i (worker_after (setting code m bound n) input k i) w)
          (range_with_len 0 p))
          long;
      words = λ n low.
          words_by entry (λ i. words_between (setting code m bound n) (worker_after (setting code m bound n) input k) i w) rows 0
          (λ i row e. entry_words n low i row e
          ∙ ap (λ j. words_between (setting code m bound n) (worker_after (setting code m bound n) input k) j w)
          (let same : i ≡ 0 + i = omega arith in same))
          ∙ ap (λ p. total 0 (λ (b c : ℕ). b + c)
          (λ i. words_between (setting code m bound n) (worker_after (setting code m bound n) input k) i w) (range_with_len 0 p)) long;
    }

-- ---- who stops

module _ (code : SuperstepCode) (m : Shape) (bound : ℕ) (input : List ℤ) (k : ℕ) (all : List CountedWorker) (rows : List Sheet)
    (at : AreAt code m bound input k all rows) (many : length all ≡ m.parts) (long : length rows ≡ m.parts) where
  pub stopping : (w : ℕ) (x : CountedWorker) → slice_get all w ≡ Some x → w < m.parts →
      (is_stopped x.local.way || is_marked (mark_heard (picked w rows))) ≡ any_stopped all
  stopping w x here within = stops_with_any all (picked w rows) w x (length-map rows entry ∙ long ∙ sym many) here each
    where
      entry : Sheet → WrittenMessage
      entry row = slice_index_or (messages_in row) w no_words

      n : ℕ
      n = suc (most_instructions code bound)

      each : (i : ℕ) (c : WrittenMessage) (y : CountedWorker) → slice_get (picked w rows) i ≡ Some c → slice_get all i ≡ Some y →
          header_marked c ≡ is_stopped y.local.way
      each i c y e f =
          let l = slice_get_within all i y f in
          let there = there rows i (omega (arith, l, many, long)) in
          let row = there.0 in
          let is = at i y row f there.1 in
          let low : most_instructions code bound < n = omega arith in
          let wide = (is.filled n low).long in
          ap header_marked
          (one_there (picked w rows) i c (entry row) e (map_at (λ (s : Sheet). slice_index_or
          (messages_in s) w no_words) rows i row there.1)
          ∙ get_or_default (messages_in row) w no_words unwritten (omega (arith, wide, within)))
          ∙ row_marked code m bound _ _ i y (messages_in row) is n w low within

-- ---- which marks come

all_there : {A : Type 0} (P : A → Type 0) (xs : List A) → ((i : ℕ) (x : A) → slice_get xs i ≡ Some x → P x) → AllByRecursion P xs
all_there P [] h = tt
all_there P (x ∷ xs) h = (h 0 x refl, all_there P xs (λ i y e. h (suc i) y e))

module _ (code : SuperstepCode) (m : Shape) (bound : ℕ) (input : List ℤ) (k : ℕ) (all : List CountedWorker) (rows : List Sheet)
    (at : AreAt code m bound input k all rows) (many : length all ≡ m.parts) (long : length rows ≡ m.parts) (reserve : Option Reserve)
    (have : HaveReserve reserve all) where
  pub marked_by_own : (w : ℕ) → w < m.parts → AreMarked (own_mark reserve) (picked w rows)
  marked_by_own w within =
      all_there (λ (c : WrittenMessage). IsMark (own_mark reserve) (read_header c.header).mark) (picked w rows) each
    where
      entry : Sheet → WrittenMessage
      entry row = slice_index_or (messages_in row) w no_words

      each : (i : ℕ) (c : WrittenMessage) → slice_get (picked w rows) i ≡ Some c → IsMark (own_mark reserve) (read_header c.header).mark
      each i c e =
          let n = suc (most_instructions code bound) in
          let low : most_instructions code bound < n = omega arith in
          let count = length-map rows entry in
          let l = slice_get_within (picked w rows) i c e in
          let row = there rows i (omega (arith, l, count)) in
          let y = there all i (omega (arith, l, count, long, many)) in
          let is = at i y.0 row.0 y.1 row.1 in
          let wide = (is.filled n low).long in
          subst (λ (z : WrittenMessage). IsMark (own_mark reserve) (read_header z.header).mark)
          (sym (one_there (picked w rows) i c (entry row.0) e (map_at (λ (s : Sheet). slice_index_or (messages_in s) w no_words) rows i
          row.0 row.1) ∙ get_or_default (messages_in row.0) w no_words unwritten (omega (arith, wide, within))))
          (subst (λ r. IsMark (own_mark r) (read_header (message_at (messages_in row.0) w).header).mark) (have i y.0 y.1)
          (row_mark code m bound _ _ i y.0 (messages_in row.0) is n w low within))

-- ---- what is counted

module _ (t : Setting) (input : List ℤ) (k w : ℕ) (within : w < workers t) where
  abbrev ws : ℕ → State
  ws = worker_after t input k

  -- one exchange more
  pub shares_more : (share : Share) → (ready t 0 (ws 0)).purpose ≡ share.purpose → share.sent ≡ sum_over t (λ j. words_between t ws w j) →
      share.received ≡ sum_over t (λ i. words_between t ws i w) → shares t input w k ++ share ∷ [] ≡ shares t input w (suc k)
  shares_more share purpose sent received =
      ap (λ (s : Share). shares t input w k ++ s ∷ []) share_is
      ∙ sym (range_more (λ i. share_of w (exchange_of t (worker_after t input i))) k 0
      ∙ ap (λ j. shares t input w k ++ share_of w (exchange_of t (worker_after t input j)) ∷ [])
      (let same : 0 + k ≡ k = omega arith in same))
    where
      by_worker : (f : ℕ → ℕ) → slice_index_or (map f (range_with_len 0 (workers t))) w 0 ≡ f w
      by_worker f = get_or-map-range_with_len f 0 (workers t) w w 0 within (omega arith)

      share_is : share ≡ share_of w (exchange_of t ws)
      share_is = λ i. record {
        purpose = sym purpose i;
        sent = (sent ∙ sym (by_worker (λ v. sum_over t (λ j. words_between t ws v j)))) i;
        received = (received ∙ sym (by_worker (λ v. sum_over t (λ j. words_between t ws j v)))) i;
      }

-- Behind the exchange at which this came, which the machine's workers send, a worker is the one of the run behind one exchange more.
module _ (code : SuperstepCode) (m : Shape) (map_for : IsMapFor code m) (bound : ℕ) (input : List ℤ) (k w : ℕ) (within : w < m.parts)
    (old new : CountedWorker) (row came : List WrittenMessage) (at : IsAt code m bound input k w old row)
    (alive : is_stopped new.local.way ≡ false → is_stopped old.local.way ≡ false)
    (come : is_stopped new.local.way ≡ false → HasCome code m bound input k w old.local.purpose came)
    (here : IsBetween code m bound
    (λ n. state_behind code m bound w old came (worker_after (setting code m bound n) input k w) n)
    (λ n. shares (setting code m bound n) input w k ++ share_at old row came ∷ []) w new) where
  pub behind_more : IsBehind code m bound input (suc k) w new
  behind_more = record {
    worker = here.worker;
    shown = λ h n low.
        let t = setting code m bound n in
        let s = worker_after t input k w in
        subst (IsShown t w new.local) (ap (after t w (ready t w s)) ((come h).messages n low) ∙ sym (state_more t input k w))
        (here.shown h n low);
    going = here.going;
    counted = λ h n low.
        let t = setting code m bound n in
        subst (IsTold new.counts)
        (shares_more t input k w within (share_at old row came)
        ((one_exchange t map_for input k 0 w (omega (arith, within)) within).0
        ∙ purpose_at code m bound _ _ w old row at (alive h) n low)
        (words_sent code m bound input k w old row at (alive h) n low)
        ((come h).words n low))
        (here.counted h n low);
    items = here.items;
    reserved = here.reserved;
  }
