-- A worker behind an exchange, and its history with one exchange more.
use Rattle.std.proofs.Common.{◌≡◌, ℕ, suc, ◌+◌, ◌-◌, ◌^◌, ◌<◌, ◌≤◌, List, [], ◌∷◌, ◌++◌, length, map, Bool}
use Rattle.std.proofs.Common.{true, false, refl, sym, ap, ◌∙◌, subst}
use Rattle.std.proofs.Common.{append_assoc, arith, ◌⊎◌}
use Rattle.std.specs.Prelude.{◌||◌, slice_get, if◌then◌else◌}
use Rattle.std.proofs.lemmas.List.{append-nil, length-append, length-map}
use Rattle.std.proofs.Math.Nat.{mul-le-mul}
use Rattle.std.specs.List.{AllByRecursion, range_with_len}
use Rattle.address_map.specs.Lawful.{Shape}
use Rattle.superstep_instructions.specs.Code.{SuperstepCode}
use Rattle.superstep_instructions.specs.Limits.{IsCode}
use Rattle.bsp_verify.specs.Judging.{is_mark}
use Rattle.worker_steps.specs.Stretch.{rank}
use Rattle.worker_exchange.specs.declared.way.Way.{Way}
use Rattle.worker_exchange.specs.declared.way.Way.TheVariants as ways
use Rattle.worker_exchange.specs.declared.local.Local.{Local}
use Rattle.worker_exchange.specs.Equipped.{left, left_by}
use Rattle.superstep_machine.specs.declared.mark.HeaderMark.{HeaderMark}
use Rattle.superstep_machine.specs.HeaderWords.{read_header}
use Rattle.superstep_machine.specs.WordReading.{read_message}
use Rattle.superstep_machine.specs.Setting.{Setting}
use Rattle.superstep_machine.specs.Run.{Purpose, State, setting, ready, after, message_of, is_over}
use Rattle.worker_exchange.specs.Rows.{WrittenMessage, written, message_at, words_in}
use Rattle.worker_exchange.specs.Reached.{most_instructions}
use Rattle.superstep_machine.specs.Purposes.{purpose_is}
use Rattle.worker_exchange.specs.Shown.{way_is, is_stopped, IsShown}
use Rattle.worker_exchange.specs.Received.{messages_to, mark_heard}
use Rattle.worker_histories.specs.Shares.{Share, purpose_of}
use Rattle.worker_histories.specs.Histories.{end_by}
use Rattle.worker_histories.specs.InWords.{in_words, shares_in_words}
use Rattle.worker_histories.specs.Marked.{has_mark, any_mark, IsMarked, HasGone, IsClear}
use Rattle.worker_histories.proofs.Growing.{histories_grow, shares_grow}
use Rattle.worker_histories.proofs.Marking.{clear_grows}
use Rattle.turnstile.specs.Seats.{RowState}
use Rattle.bsp_machine.specs.declared.counted.CountedWorker.{CountedWorker}
use Rattle.bsp_machine.specs.Workers.{IsBetween, IsStanding, IsTold, state_behind, share_at}
use Rattle.run_options.specs.declared.reserve.Reserve.{Reserve}
use Rattle.bsp_machine.specs.Reserves.{is_past, own_mark, IsMark, AreMarked}
use Rattle.bsp_machine.proofs.MarkLemmas.{going_on, never, given_behind}
use Rattle.std.proofs.lemmas.Bool.{or_parts}
use Rattle.bsp_machine.proofs.StandingLemmas.{row_marked, row_mark, row_is, row_read, purpose_at}
use Rattle.workers.specs.Seating.{letters, sent_of, received_of}
use Rattle.workers.specs.Worked.{items_at, MarksWherePast, IsBehindExchange, HasExchanged, HasWorked}

-- ---- rows

all_at : (P : WrittenMessage → Type 0) (row : List WrittenMessage) → ((j : ℕ) → j < length row → P (message_at row j)) →
    AllByRecursion P row
all_at P [] h = tt
all_at P (x ∷ row) h = (h 0 (omega arith), all_at P row (λ j l. h (suc j) (omega (arith, l))))

all_added : {A : Type 0} (P : A → Type 0) (xs : List A) (x : A) → AllByRecursion P xs → P x → AllByRecursion P (xs ++ x ∷ [])
all_added P [] x h p = (p, tt)
all_added P (y ∷ xs) x h p = (h.0, all_added P xs x h.1 p)

all_last : {A : Type 0} (P : A → Type 0) (xs : List A) (x : A) → AllByRecursion P (xs ++ x ∷ []) → P x
all_last P [] x h = h.0
all_last P (y ∷ xs) x h = all_last P xs x h.1

-- one exchange more
marks_more : (t : Setting) (w : ℕ) (q : Reserve) (made : ℕ) (s : State) (cs rows : List (List WrittenMessage))
    (c row : List WrittenMessage) →
    MarksWherePast t w q made s cs rows →
    IsMarked (is_past q (items_at t w (end_by (in_words t) w s cs)) (made + length cs)) row →
    MarksWherePast t w q made s (cs ++ c ∷ []) (rows ++ row ∷ [])
marks_more t w q made s [] [] c row h p =
    (subst (λ k. IsMarked (is_past q (items_at t w s) k) row) (let e : made + 0 ≡ made = omega arith in e) p, tt)
marks_more t w q made s [] (r ∷ rows) c row h p = absurd h
marks_more t w q made s (x ∷ cs) [] c row h p = absurd h
marks_more t w q made s (x ∷ cs) (r ∷ rows) c row h p = (
  h.0,
  marks_more t w q (made + 1) ((in_words t).next w s x) cs rows c row h.1
      (subst (λ k. IsMarked (is_past q (items_at t w (end_by (in_words t) w ((in_words t).next w s x) cs)) k) row)
      (let e : made + suc (length cs) ≡ (made + 1) + length cs = omega arith in e) p),
)

shares_long : (t : Setting) (w : ℕ) (s : State) (cs : List (List WrittenMessage)) → length (shares_in_words t w s cs) ≡ length cs
shares_long t w s [] = refl
shares_long t w s (c ∷ cs) = ap suc (shares_long t w ((in_words t).next w s c) cs)

-- a row by its entries
row_by : (f : ℕ → WrittenMessage) (row : List WrittenMessage) (a : ℕ) → ((j : ℕ) → j < length row → message_at row j ≡ f (a + j)) →
    row ≡ map f (range_with_len a (length row))
row_by f [] a h = refl
row_by f (x ∷ row) a h =
    let e : x ≡ f a = h 0 (omega arith) ∙ ap f (omega arith) in
    let r = row_by f row (a + 1) (λ j l. h (suc j) (omega (arith, l)) ∙ ap f (omega arith)) in
    (λ i. e i ∷ r i)

-- ---- behind an exchange

module _ (code : SuperstepCode) (m : Shape) (bound : ℕ) (states : ℕ → State) (told : ℕ → List Share) (w : ℕ) (mid new : CountedWorker)
    (row came : List WrittenMessage) (at : IsStanding code m bound states told w mid row)
    (stopped : is_stopped new.local.way ≡ (is_stopped mid.local.way || any_mark came))
    (same : new.reserve ≡ mid.reserve) (by : (mark : HeaderMark) → new.local.way ≡ ways.Stopped mark →
    (mid.local.way ≡ ways.Stopped mark) ⊎ ((is_stopped mid.local.way ≡ false) × (mark_heard came ≡ mark)))
    (here : IsBetween code m bound (λ n. state_behind code m bound w mid came (states n) n)
    (λ n. told n ++ share_at mid row came ∷ []) w new) where
  abbrev t : ℕ → Setting
  t n = setting code m bound n

  alive : is_stopped new.local.way ≡ false → is_stopped mid.local.way ≡ false
  alive h = (or_parts (is_stopped mid.local.way) (any_mark came) (sym stopped ∙ h)).0

  -- what the exchange is for, for the worker that it shows
  for_it : is_stopped new.local.way ≡ false → (n : ℕ) → most_instructions code bound < n →
      purpose_is mid.local.purpose ≡ purpose_of (t n) w (states n)
  for_it h n low = sym (purpose_at code m bound states told w mid row at (alive h) n low)

  long : length row ≡ m.parts
  long = (at.filled (suc (most_instructions code bound)) (omega arith)).long

  given_back : (h : is_stopped new.local.way ≡ false) (n : ℕ) (low : most_instructions code bound < n) (j : ℕ) → j < m.parts →
      read_message code.rule m j (purpose_of (t n) w (states n))
      (read_header (written code.rule (message_of (t n) w (states n) j)).header)
      (written code.rule (message_of (t n) w (states n) j)).words
      ≡ message_of (t n) w (states n) j
  given_back h n low j within =
      let is = sym (row_is code m bound states told w mid row at (alive h) n low j within) in
      let for = sym (for_it h n low) in
      (λ i. read_message code.rule m j (for i) (read_header (is i).header) (is i).words)
      ∙ row_read code m bound states told w mid row at (alive h) n low j within

  row_is_marked : IsMarked (is_stopped mid.local.way) row
  row_is_marked = all_at (λ x. has_mark x ≡ is_stopped mid.local.way) row
      (λ j l. row_marked code m bound states told w mid row at (suc (most_instructions code bound)) j (omega arith)
      (omega (arith, l, long)))

  pub behind_exchange : IsBehindExchange code m bound states told w row came new
  behind_exchange = record {
    marks = record {
      mine = is_stopped mid.local.way;
      marked = row_is_marked;
      by_marks = stopped;
    };
    as_sent = λ n low h. record {
      row_is = row_by (λ j. written code.rule (message_of (t n) w (states n) j)) row 0
          (λ j l. row_is code m bound states told w mid row at (alive h) n low j (omega (arith, l, long))
          ∙ ap (λ k. written code.rule (message_of (t n) w (states n) k)) (let same : j ≡ 0 + j = omega arith in same))
          ∙ ap (λ p. map (λ j. written code.rule (message_of (t n) w (states n) j)) (range_with_len 0 p)) long;
      given_back = given_back h n low;
    };
    between = record {
      worker = here.worker;
      shown = λ h n low. subst (IsShown (t n) w new.local)
          (ap (λ p. after (t n) w (ready (t n) w (states n)) (messages_to code.rule m w p came)) (for_it h n low)) (here.shown h n low);
      going = here.going;
      counted = λ h n low. subst (IsTold new.counts)
          (ap (λ (p : Purpose). told n ++ record { purpose = p; sent = words_in row; received = words_in came } ∷ []) (for_it h n low))
          (here.counted h n low);
      items = here.items;
      reserved = here.reserved;
    };
    past = λ r n some low. subst (λ b. IsMarked b row) (at.past r n (sym same ∙ some) low) row_is_marked;
    own_marks = subst (λ r. AreMarked (own_mark r) row) (sym same) (all_at (λ (x : WrittenMessage). IsMark (own_mark mid.reserve)
        (read_header x.header).mark) row (λ j l. row_mark code m bound states told w mid row at (suc (most_instructions code bound)) j
        (omega arith) (omega (arith, l, long))));
    given = λ marks. given_behind new.reserve mid new came (sym same) at.refused marks same stopped by;
  }

-- ---- a history with one exchange more

module _ (code : SuperstepCode) (m : Shape) (bound : ℕ) (states : ℕ → State) (told : ℕ → List Share) (w : ℕ) where
  abbrev t_at : ℕ → Setting
  t_at n = setting code m bound n

  -- before the first exchange
  pub none_yet : (r : RowState) (x : CountedWorker) → r.sent ≡ [] → r.received ≡ [] → is_stopped x.local.way ≡ false →
      IsBetween code m bound states told w x → HasWorked code m bound states told w r x
  none_yet r x sent received alive b =
      let rows : sent_of r ≡ [] = ap (map letters) sent in
      let columns : received_of r ≡ [] = ap (map letters) received in
      record {
        gone = λ n low.
            subst (λ stops. HasGone (t_at n) w (states n) (received_of r) (sent_of r) stops) (sym alive)
            (subst (λ cs. IsClear (t_at n) w (states n) cs (sent_of r)) (sym columns)
            (subst (λ rs. IsClear (t_at n) w (states n) [] rs) (sym rows)
            (record { underway = record { sent = refl; going = tt; given_back = tt }; received = tt; sent = tt })));
        between = record {
          worker = b.worker;
          shown = λ h n low. subst (λ cs. IsShown (t_at n) w x.local (end_by (in_words (t_at n)) w (states n) cs)) (sym columns)
              (b.shown h n low);
          going = b.going;
          counted = λ h n low. subst (IsTold x.counts)
              (sym (append-nil (told n)) ∙ ap (λ cs. told n ++ shares_in_words (t_at n) w (states n) cs) (sym columns)) (b.counted h n low);
          items = b.items;
          reserved = b.reserved;
        };
        past = λ q n some low.
            subst (λ cs. MarksWherePast (t_at n) w q (length (told n)) (states n) cs (sent_of r)) (sym columns)
            (subst (MarksWherePast (t_at n) w q (length (told n)) (states n) []) (sym rows) tt);
        own_marks = subst (AllByRecursion (AreMarked (own_mark x.reserve))) (sym rows) tt;
        given = λ marks. record { given = refl; stopped = λ mark way. absurd (never x.local.way mark way alive) };
      }

  module _ (r r' : RowState) (x x' : CountedWorker) (on : is_over (way_is x.local.way) ≡ false)
      (before : HasWorked code m bound states told w r x) (one : HasExchanged code m bound r x r' x') (of : r.worker ≡ w) where
    abbrev cs : List (List WrittenMessage)
    cs = received_of r

    abbrev end : ℕ → State
    end n = end_by (in_words (t_at n)) w (states n) cs

    abbrev so_far : ℕ → List Share
    so_far n = told n ++ shares_in_words (t_at n) w (states n) cs

    alive_before : is_stopped x.local.way ≡ false
    alive_before = going_on x.local.way on

    behind : IsBehindExchange code m bound end so_far w one.row one.column x'
    behind = subst (λ v. IsBehindExchange code m bound end so_far v one.row one.column x') of
        (one.behind end so_far (subst (λ v. IsBetween code m bound end so_far v x) (sym of) before.between))

    -- its run went on
    open_is : (n : ℕ) → most_instructions code bound < n → is_over (end n).way ≡ false
    open_is n low = ap is_over (before.between.shown alive_before n low).way ∙ on

    clear_is : (n : ℕ) → most_instructions code bound < n → IsClear (t_at n) w (states n) cs (sent_of r)
    clear_is n low = subst (λ stops. HasGone (t_at n) w (states n) cs (sent_of r) stops) alive_before (before.gone n low)

    gone_on : (n : ℕ) → most_instructions code bound < n →
        HasGone (t_at n) w (states n) (received_of r') (sent_of r') (is_stopped x'.local.way)
    gone_on n low =
        subst (λ cs'. HasGone (t_at n) w (states n) cs' (sent_of r') (is_stopped x'.local.way)) (sym one.received)
        (subst (λ rs. HasGone (t_at n) w (states n) (cs ++ one.column ∷ []) rs (is_stopped x'.local.way)) (sym one.sent)
        (clear_grows (t_at n) w (states n) cs (sent_of r) one.column one.row (is_stopped x'.local.way) (clear_is n low) (open_is n low)
        behind.marks (behind.as_sent n low)))

    -- where the history leads now, and what is counted
    end_is : (n : ℕ) → (in_words (t_at n)).next w (end n) one.column ≡ end_by (in_words (t_at n)) w (states n) (received_of r')
    end_is n =
        sym (histories_grow (in_words (t_at n)) m.parts w (states n) cs one.column).end
        ∙ ap (end_by (in_words (t_at n)) w (states n)) (sym one.received)

    share_is : (n : ℕ) → most_instructions code bound < n → (h : is_stopped x'.local.way ≡ false) →
        so_far n ++ record { purpose = purpose_of (t_at n) w (end n); sent = words_in one.row; received = words_in one.column } ∷ []
        ≡ told n ++ shares_in_words (t_at n) w (states n) (received_of r')
    share_is n low h =
        append_assoc (told n) (shares_in_words (t_at n) w (states n) cs)
        (record { purpose = purpose_of (t_at n) w (end n); sent = words_in one.row; received = words_in one.column } ∷ [])
        ∙ ap (λ row. told n ++ (shares_in_words (t_at n) w (states n) cs
        ++ record { purpose = purpose_of (t_at n) w (end n); sent = words_in row; received = words_in one.column } ∷ []))
        (behind.as_sent n low h).row_is
        ∙ ap (λ ss. told n ++ ss)
        (sym (shares_grow (in_words (t_at n)) (purpose_of (t_at n)) words_in m.parts w (states n) cs one.column)
        ∙ ap (shares_in_words (t_at n) w (states n)) (sym one.received))

    pub worked_on : HasWorked code m bound states told w r' x'
    worked_on = record {
      gone = gone_on;
      between = record {
        worker = behind.between.worker;
        shown = λ h n low. subst (IsShown (t_at n) w x'.local) (end_is n) (behind.between.shown h n low);
        going = behind.between.going;
        counted = λ h n low. subst (IsTold x'.counts) (share_is n low h) (behind.between.counted h n low);
        items = behind.between.items;
        reserved = behind.between.reserved;
      };
      past = λ q n some low.
          let more = marks_more (t_at n) w q (length (told n)) (states n) cs (sent_of r) one.column one.row
          (before.past q n (sym one.reserve ∙ some) low)
          (subst (λ k. IsMarked (is_past q (items_at (t_at n) w (end n)) k) one.row)
          (length-append (told n) (shares_in_words (t_at n) w (states n) cs)
          ∙ ap (λ k. length (told n) + k) (shares_long (t_at n) w (states n) cs)) (behind.past q n some low)) in
          subst (λ cs'. MarksWherePast (t_at n) w q (length (told n)) (states n) cs' (sent_of r')) (sym one.received)
          (subst (MarksWherePast (t_at n) w q (length (told n)) (states n) (cs ++ one.column ∷ [])) (sym one.sent) more);
      own_marks = subst (AllByRecursion (AreMarked (own_mark x'.reserve))) (sym one.sent)
          (all_added (AreMarked (own_mark x'.reserve)) (sent_of r) one.row
          (subst (λ o. AllByRecursion (AreMarked (own_mark o)) (sent_of r)) (sym one.reserve) before.own_marks) behind.own_marks);
      given = λ marks. behind.given (all_last (AreMarked (own_mark x'.reserve)) cs one.column
          (subst (AllByRecursion (AreMarked (own_mark x'.reserve))) one.received marks));
    }

-- ---- how many exchanges there may be

-- what is left of a stretch, by whether it begins with a mark
rest_few : (b : Bool) (n place : ℕ) → (if b then 0 else n - place) ≤ n
rest_few true n place = omega arith
rest_few false n place = omega arith

by_way : (way : Way) (rank : ℕ) → left_by way rank ≤ rank + 2
by_way ways.On rank = omega arith
by_way (ways.Ending ended) rank = omega arith
by_way (ways.Past key ended) rank = omega arith
by_way (ways.Stopped mark) rank = omega arith

-- all that may come has less than 64 bits
pub left_few : (code : SuperstepCode) (bound : ℕ) (x : Local) → IsCode code → bound < 2 ^ 32 → left code bound x < 2 ^ 63
left_few code bound x limits few =
    let n = length code.instructions in
    let count = x.steps.uniform.count in
    let short : n + 1 ≤ 2 ^ 16 + 1 = (let l = limits.few_instructions in omega (arith, l)) in
    let a = mul-le-mul {n₁ = bound - count} {m₁ = n + 1} {n₂ = 2 ^ 32} {m₂ = 2 ^ 16 + 1} (omega (arith, few)) short in
    let b = rest_few (is_mark (slice_get code.instructions x.steps.place)) n x.steps.place in
    let c = by_way x.way (rank code bound x.steps) in
    omega (arith, a, b, c, short)

-- a row more in a seat's history
pub one_more : (r r' : RowState) (row : List WrittenMessage) → sent_of r' ≡ sent_of r ++ row ∷ [] → length r'.sent ≡ length r.sent + 1
one_more r r' row e =
    let a = length-append (sent_of r) (row ∷ []) in
    let b = length-map r.sent letters in
    let c = length-map r'.sent letters in
    let d = ap length e in
    omega (arith, a, b, c, d)
