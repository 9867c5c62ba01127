-- Workers that played their parts are those of the run.
use Rattle.std.proofs.Common.{◌≡◌, ℕ, suc, ◌<◌, List, map, Bool, true, false}
use Rattle.std.proofs.Common.{Option, Some, None, ℤ, refl, sym, ap, subst, ◌∙◌, arith}
use Rattle.std.specs.Prelude.{slice_get}
use Rattle.std.specs.List.{range_with_len, AllByRecursion}
use Rattle.address_map.specs.Lawful.{Shape}
use Rattle.superstep_instructions.specs.Code.{SuperstepCode}
use Rattle.superstep_machine.specs.HeaderWords.{read_header}
use Rattle.superstep_machine.specs.Setting.{Setting}
use Rattle.superstep_machine.specs.Run.{State, opening, is_over, setting}
use Rattle.superstep_machine.specs.Trace.{exchange_of}
use Rattle.flat_machine.proofs.Lists.{map_twice}
use Rattle.bsp_verify.specs.Runs.{worker_after}
use Rattle.worker_exchange.specs.Reached.{most_instructions}
use Rattle.worker_exchange.specs.Shown.{is_stopped, IsShown}
use Rattle.worker_exchange.specs.Equipped.{IsRunnable}
use Rattle.turnstile.specs.Seats.{RowState, SamePhases, ReceivedAsSent, AreWhole}
use Rattle.worker_histories.specs.Histories.{end_by, HaveExchanged}
use Rattle.worker_histories.specs.Shares.{share_of}
use Rattle.worker_histories.specs.Joined.{IsRunFrom}
use Rattle.worker_histories.specs.InWords.{in_words, IsPlayedInWords, shares_in_words}
use Rattle.worker_histories.specs.Marked.{HasGone}
use Rattle.worker_histories.proofs.Parts.{exchanges_are}
use Rattle.worker_histories.proofs.Reading.{histories_in_words_make_a_run}
use Rattle.worker_histories.proofs.Marking.{marks_end_all_or_none, there}
use Rattle.bsp_machine.specs.declared.counted.CountedWorker.{CountedWorker}
use Rattle.worker_exchange.specs.Rows.{WrittenMessage}
use Rattle.run_options.specs.declared.reserve.Reserve.{Reserve}
use Rattle.bsp_machine.specs.Reserves.{own_mark, IsMark, AreMarked, IsGiven, HaveReserve, AreGiven}
use Rattle.bsp_machine.specs.Workers.{shares, IsTold, AreTogether, IsBehind}
use Rattle.bsp_machine.specs.Ended.{AreRunning, IsFirstOver, IsFirstStopped, IsFirstUnstopped}
use Rattle.bsp_machine.proofs.ListLemmas.{one_there}
use Rattle.std.proofs.lemmas.Option.{slice_get_within}
use Rattle.workers.specs.Exchanged.{rows_at, columns_at, sent_by, received_by, crossings}
use Rattle.workers.specs.Seating.{sent_of, received_of}
use Rattle.workers.specs.Worked.{MarksWherePast}
use Rattle.workers.specs.Past.{ComesPast}
use Rattle.workers.specs.Gathered.{HasEnded, HaveEnded, NoneHasStopped}
use Rattle.workers.proofs.ExchangeLemmas.{seats_have_exchanged}
use Rattle.workers.proofs.ReceivedLemmas.{received_all}
use Rattle.workers.proofs.PastLemmas.{within, comes_past}

abbrev stopped_at : Option CountedWorker → Bool
stopped_at None = false
stopped_at (Some x) = is_stopped x.local.way

true_no_false : true ≡ false → ⊥
true_no_false h = cc

module _ (code : SuperstepCode) (m : Shape) (runnable : IsRunnable code m) (bound : ℕ) (input : List ℤ) (seats : List RowState)
    (workers : List CountedWorker) (ended : HaveEnded code m bound input seats workers) (same : SamePhases seats)
    (exchanged : ReceivedAsSent seats) (whole : AreWhole seats) where
  many : (w : ℕ) → w < m.parts → (x : CountedWorker) × (slice_get workers w ≡ Some x)
  many w l = there workers w (let n = ended.workers_are in omega (arith, l, n))

  seat : (w : ℕ) → w < m.parts → (r : RowState) × (slice_get seats w ≡ Some r)
  seat w l = there seats w (let n = ended.seats_are in omega (arith, l, n))

  below : (w : ℕ) (x : CountedWorker) → slice_get workers w ≡ Some x → w < m.parts
  below w x at = let l = slice_get_within workers w x at in let n = ended.workers_are in omega (arith, l, n)

  -- what one worker did
  one : (w : ℕ) (l : w < m.parts) → HasEnded code m bound input w (seat w l).0 (many w l).0
  one w l = ended.each w (seat w l).0 (many w l).0 (seat w l).1 (many w l).1

  sent_is : (w : ℕ) (r : RowState) → slice_get seats w ≡ Some r → sent_by seats w ≡ sent_of r
  sent_is w r at = ap rows_at at

  received_is : (w : ℕ) (r : RowState) → slice_get seats w ≡ Some r → received_by seats w ≡ received_of r
  received_is w r at = ap columns_at at

  exchange : HaveExchanged m.parts (crossings seats) (sent_by seats) (received_by seats)
  exchange = subst (λ p. HaveExchanged p (crossings seats) (sent_by seats) (received_by seats)) ended.seats_are
      (seats_have_exchanged seats
      (λ w r at.
      let h = slice_get_within seats w r at in
      let n = ended.seats_are in
      let x = many w (omega (arith, h, n)) in
      (ended.each w r x.0 at x.1).workers ∙ sym ended.seats_are) same exchanged whole)

  -- ---- who has stopped

  abbrev stops : ℕ → Bool
  stops w = stopped_at (slice_get workers w)

  stops_is : (w : ℕ) (x : CountedWorker) → slice_get workers w ≡ Some x → stops w ≡ is_stopped x.local.way
  stops_is w x at = ap stopped_at at

  gone : (n : ℕ) → most_instructions code bound < n → (w : ℕ) → w < m.parts →
      HasGone (setting code m bound n) w (opening (setting code m bound n) input w) (received_by seats w) (sent_by seats w) (stops w)
  gone n low w l =
      let t = setting code m bound n in
      let s = opening t input w in
      let r = seat w l in
      let x = many w l in
      subst (λ cs. HasGone t w s cs (sent_by seats w) (stops w)) (sym (received_is w r.0 r.1))
      (subst (λ rs. HasGone t w s (received_of r.0) rs (stops w)) (sym (sent_is w r.0 r.1))
      (subst (HasGone t w s (received_of r.0) (sent_of r.0)) (sym (stops_is w x.0 x.1)) ((one w l).worked.gone n low)))

  abbrev enough : ℕ
  enough = suc (most_instructions code bound)

  enough_is : most_instructions code bound < enough
  enough_is = omega arith

  alike : (w v : ℕ) → w < m.parts → v < m.parts → stops w ≡ stops v
  alike = marks_end_all_or_none (setting code m bound enough) (crossings seats) (opening (setting code m bound enough) input)
      (sent_by seats) (received_by seats) stops exchange (gone enough enough_is)

  together : AreTogether workers
  together w v x y here there =
      sym (stops_is w x here) ∙ alike w v (below w x here) (below v y there) ∙ stops_is v y there

  -- ---- all of them have stopped

  all_stopped : ((w : ℕ) → w < m.parts → stops w ≡ true) → AreRunning code m bound input workers
  all_stopped stopped = record {
    exchanges = 0;
    behind = λ w x at.
        let l = below w x at in
        let is = sym (stops_is w x at) ∙ stopped w l in
        let r = seat w l in
        let over = (ended.each w r.0 x r.1 at).over in
        record {
          worker = λ h. absurd (true_no_false (sym is ∙ h));
          shown = λ h n low. absurd (true_no_false (sym is ∙ h));
          going = λ h. absurd (true_no_false (sym over ∙ h));
          counted = λ h n low. absurd (true_no_false (sym is ∙ h));
          items = λ h. absurd (true_no_false (sym is ∙ h));
          reserved = λ h. absurd (true_no_false (sym is ∙ h));
        };
    together = together;
    before = λ n low i l. absurd (omega (arith, l));
  }

  -- ---- none has stopped

  module _ (alive : (w : ℕ) → w < m.parts → stops w ≡ false) (n : ℕ) (low : most_instructions code bound < n) where
    abbrev t : Setting
    t = setting code m bound n

    abbrev last : ℕ → State
    last w = end_by (in_words t) w (opening t input w) (received_by seats w)

    last_is : (w : ℕ) (l : w < m.parts) →
        last w ≡ end_by (in_words t) w (opening t input w) (received_of (seat w l).0)
    last_is w l = ap (end_by (in_words t) w (opening t input w)) (received_is w (seat w l).0 (seat w l).1)

    goes : (w : ℕ) (l : w < m.parts) → is_stopped (many w l).0.local.way ≡ false
    goes w l = sym (stops_is w (many w l).0 (many w l).1) ∙ alive w l

    shown_last : (w : ℕ) (l : w < m.parts) → IsShown t w (many w l).0.local (last w)
    shown_last w l =
        subst (IsShown t w (many w l).0.local) (sym (last_is w l)) ((one w l).worked.between.shown (goes w l) n low)

    played : (w : ℕ) → w < m.parts → IsPlayedInWords t w (opening t input w) (received_by seats w) (sent_by seats w) (last w)
    played w l = record {
      underway = (subst (HasGone t w (opening t input w) (received_by seats w) (sent_by seats w)) (alive w l) (gone n low w l)).underway;
      end = refl;
      over = ap is_over (shown_last w l).way ∙ (one w l).over;
    }

    is_run : IsRunFrom t input (crossings seats) last (λ w. shares_in_words t w (opening t input w) (received_by seats w))
    is_run = histories_in_words_make_a_run t runnable.map input (crossings seats) last (sent_by seats) (received_by seats) exchange played

    over_first : is_over (worker_after t input (crossings seats) 0).way ≡ true
    over_first =
        let l : 0 < m.parts = (let h = runnable.map.lawful.one in omega (arith, h)) in
        ap (λ (s : State). is_over s.way) (sym (is_run.run.states 0 l)) ∙ (played 0 l).over

    shares_are : (w : ℕ) → w < m.parts →
        shares_in_words t w (opening t input w) (received_by seats w) ≡ shares t input w (crossings seats)
    shares_are w l =
        is_run.parts_are w l
        ∙ ap (map (share_of w)) (exchanges_are t (crossings seats) (opening t input) is_run.run.going over_first)
        ∙ map_twice (share_of w) (λ i. exchange_of t (worker_after t input i)) (range_with_len 0 (crossings seats))

    shown_behind : (w : ℕ) (l : w < m.parts) → IsShown t w (many w l).0.local (worker_after t input (crossings seats) w)
    shown_behind w l = subst (IsShown t w (many w l).0.local) (is_run.run.states w l) (shown_last w l)

    counted_behind : (w : ℕ) (l : w < m.parts) →
        IsTold (many w l).0.counts (shares t input w (crossings seats))
    counted_behind w l =
        subst (IsTold (many w l).0.counts)
        (ap (shares_in_words t w (opening t input w)) (sym (received_is w (seat w l).0 (seat w l).1)) ∙ shares_are w l)
        ((one w l).worked.between.counted (goes w l) n low)

  none_stopped : ((w : ℕ) → w < m.parts → stops w ≡ false) → AreRunning code m bound input workers
  none_stopped alive = record {
    exchanges = crossings seats;
    behind = λ w x at.
        let l = below w x at in
        subst (IsBehind code m bound input (crossings seats) w) (one_there workers w (many w l).0 x (many w l).1 at)
        (let b = (one w l).worked.between in record {
          worker = b.worker;
          shown = λ h n low. shown_behind alive n low w l;
          going = b.going;
          counted = λ h n low. counted_behind alive n low w l;
          items = b.items;
          reserved = b.reserved;
        });
    together = together;
    before = λ n low. (is_run alive n low).run.going;
  }

  first : 0 < m.parts
  first = let h = runnable.map.lawful.one in omega (arith, h)

  pub have_run : AreRunning code m bound input workers
  have_run = by_first (stops 0) refl
    where
      by_first : (b : Bool) → stops 0 ≡ b → AreRunning code m bound input workers
      by_first true is = all_stopped (λ w l. alike w 0 l first ∙ is)
      by_first false is = none_stopped (λ w l. alike w 0 l first ∙ is)

  -- ---- a reserve

  all_stop : (b : Bool) → ((x : CountedWorker) → slice_get workers 0 ≡ Some x → is_stopped x.local.way ≡ b) → (w : ℕ) → w < m.parts →
      stops w ≡ b
  all_stop b is w l = let x = many 0 first in alike w 0 l first ∙ stops_is 0 x.0 x.1 ∙ is x.0 x.1

  marked : (reserve : Reserve) → HaveReserve (Some reserve) workers → (n : ℕ) → most_instructions code bound < n → (w : ℕ) → w < m.parts →
      MarksWherePast (setting code m bound n) w reserve 0 (opening (setting code m bound n) input w) (received_by seats w) (sent_by seats w)
  marked reserve have n low w l =
      let t = setting code m bound n in
      let s = opening t input w in
      let r = seat w l in
      let x = many w l in
      subst (λ cs. MarksWherePast t w reserve 0 s cs (sent_by seats w)) (sym (received_is w r.0 r.1))
      (subst (MarksWherePast t w reserve 0 s (received_of r.0)) (sym (sent_is w r.0 r.1))
      ((one w l).worked.past reserve n (have w x.0 x.1) low))

  pub stays_within : (reserve : Reserve) → HaveReserve (Some reserve) workers → IsFirstUnstopped workers →
      ¬ (ComesPast code m bound input reserve)
  stays_within reserve have alive =
      within code m runnable bound input reserve (crossings seats) (sent_by seats) (received_by seats) exchange (marked reserve have) enough
      enough_is
      (λ w l. subst (HasGone (setting code m bound enough) w (opening (setting code m bound enough) input w) (received_by seats w)
      (sent_by seats w)) (all_stop false alive w l) (gone enough enough_is w l))
      (over_first (all_stop false alive) enough enough_is)

  pub past_when_stopped : (reserve : Reserve) → HaveReserve (Some reserve) workers → IsFirstStopped workers →
      ComesPast code m bound input reserve
  past_when_stopped reserve have stopped =
      comes_past code m runnable bound input reserve (crossings seats) (sent_by seats) (received_by seats) exchange (marked reserve have)
      (λ n low w l. subst (HasGone (setting code m bound n) w (opening (setting code m bound n) input w) (received_by seats w)
      (sent_by seats w)) (all_stop true stopped w l) (gone n low w l))

  pub none_stops : IsFirstUnstopped workers → NoneHasStopped workers
  none_stops alive w x at = sym (stops_is w x at) ∙ all_stop false alive w (below w x at)

  -- ---- by which mark

  pub all_given : (reserve : Option Reserve) → HaveReserve reserve workers → AreGiven reserve workers
  all_given reserve have w x at =
      let r = seat w (below w x at) in
      subst (λ o. IsGiven o x) (have w x at) ((ended.each w r.0 x r.1 at).worked.given
      (subst (λ o. AllByRecursion (AreMarked (own_mark o)) (received_of r.0)) (sym (have w x at))
      (subst (AllByRecursion (AreMarked (own_mark reserve))) (received_is w r.0 r.1)
      (received_all (λ (c : WrittenMessage). IsMark (own_mark reserve) (read_header c.header).mark) m.parts (crossings seats)
      (sent_by seats) (received_by seats) exchange sent_marked w (below w x at)))))
    where
      sent_marked : (v : ℕ) → v < m.parts → AllByRecursion (AreMarked (own_mark reserve)) (sent_by seats v)
      sent_marked v l =
          let r = seat v l in
          let y = many v l in
          subst (AllByRecursion (AreMarked (own_mark reserve))) (sym (sent_is v r.0 r.1))
          (subst (λ o. AllByRecursion (AreMarked (own_mark o)) (sent_of r.0)) (have v y.0 y.1) (one v l).worked.own_marks)

  pub first_over : IsFirstOver workers
  first_over x here =
      let r = seat 0 (below 0 x here) in
      (ended.each 0 r.0 x r.1 here).over
