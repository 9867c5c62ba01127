-- What a run that comes past a reserve comes to.
use Rattle.std.proofs.Common.{◌≡◌, ℕ, zero, suc, ◌+◌, ◌-◌, ◌*◌, ◌<◌, ◌≤◌, ◌⊎◌, inl, inr, ⊎_elim, List, [], ◌∷◌, length, map, Bool, true}
use Rattle.std.proofs.Common.{false}
use Rattle.std.proofs.Common.{Option, Some, None, ℤ, refl, sym, ap, ◌∙◌, subst, arith}
use Rattle.std.specs.Prelude.{◌||◌, nat_lt, nat_le, if◌then◌else◌, slice_index_or}
use Rattle.std.specs.List.{range_with_len, filter}
use Rattle.std.proofs.lemmas.Bool.Decides.{nat_tests}
use Rattle.std.proofs.lemmas.List.{length-map}
use Rattle.std.proofs.lemmas.Bool.{ltb-true, lt-ltb, leb-true, le-leb, or_cases, or_left, or_right}
use Rattle.address_map.specs.Lawful.{Shape}
use Rattle.write_rules.specs.Verdict.{Verdict, Ended, Faulted}
use Rattle.write_rules.specs.Verdict as verdicts
use Rattle.superstep_instructions.specs.Code.{SuperstepCode}
use Rattle.superstep_machine.specs.declared.key.Key.{Key}
use Rattle.superstep_machine.specs.declared.mark.HeaderMark.{HeaderMark}
use Rattle.superstep_machine.specs.declared.mark.HeaderMark.TheVariants.{Clear, OutOfMemory, OutOfReserve}
use Rattle.superstep_machine.specs.Setting.{Setting, workers, all_cells}
use Rattle.superstep_machine.specs.Words.{Message}
use Rattle.superstep_machine.specs.Parts.{UniformPart}
use Rattle.superstep_machine.specs.Worker.{Worker}
use Rattle.superstep_machine.specs.Stretch.{ToSend, ToReply, ToVote, ToClose, Arrival, Nowhere, At}
use Rattle.superstep_machine.specs.Machine.{Machine, phase, phases, run, column}
use Rattle.superstep_machine.specs.Run as machine
use Rattle.superstep_machine.specs.Run.{Sends, Replies, Votes, Closes, Purpose, Way, On, Ending, Past, Refused, Lost, State, Ready, ready}
use Rattle.superstep_machine.specs.Run.{ready_at}
use Rattle.superstep_machine.specs.Run.{ready_by, stretch, after, after_with, after_exchange, is_over, verdict_by, items_below, state_of}
use Rattle.superstep_machine.specs.Run.{outcome_of}
use Rattle.superstep_machine.specs.Run.{outcome_by, bsp, opening, setting, mark_now, mark_of, marks_later, cell_in, no_state}
use Rattle.superstep_machine.specs.Trace.{Exchange, exchange_of, exchanges_from, exchanges_by, AreBspExchanges}
use Rattle.bsp_verify.specs.Runs.{worker_after}
use Rattle.combining.proofs.MachinePuts.{length_filter}
use Rattle.flat_machine.proofs.Laws.{outcomes_are_same, one_exchange}
use Rattle.flat_machine.proofs.Bridge.{to_exchanges}
use Rattle.flat_machine.proofs.OneWords.{exchanges_are_unique}
use Rattle.flat_machine.proofs.Outcomes.{one_outcome}
use Rattle.worker_exchange.specs.Reached.{most_instructions}
use Rattle.worker_exchange.specs.Equipped.{IsRunnable}
use Rattle.worker_steps.proofs.PastLemmas.{keeps}
use Rattle.worker_histories.specs.Histories.{GoesOn}
use Rattle.worker_histories.proofs.Joining.{phase_more}
use Rattle.run_options.specs.declared.reserve.Reserve.{Reserve}
use Rattle.bsp_machine.specs.Reserves.{is_past}
use Rattle.workers.specs.Worked.{items_at}
use Rattle.workers.specs.Past.{ComesPast}
use Rattle.workers.specs.Sizes.{IsMoreThan, output_of, IsNoFault, printed_by, ArePrinted, IsPastBySize, PastIsMore, PastIsMoreOutput}
use Rattle.workers.proofs.PastLemmas.{true_no_false, below_or_past}

-- ---- tests of numbers

-- ---- the end of a run, by its list of exchanges

unsome : {A : Type 0} (x y : A) → ◌≡◌ {A = Option A} (Some x) (Some y) → x ≡ y
unsome x y e = cc

module _ (t : Setting) where
  abbrev p : ℕ
  p = workers t

  -- the run is over behind as many phases as it has exchanges, and not before; and what comes out is what is said then
  pub record IsCounted (ws : ℕ → State) (n : ℕ) (x : Option Verdict) : Type 0 where
    pub goes : GoesOn (bsp t) p n ws
    pub over : is_over (phases (bsp t) p n ws 0).way ≡ true
    pub outcome : outcome_of t (map (phases (bsp t) p n ws) (range_with_len 0 p)) ≡ x

  counted : (k : ℕ) (ws : ℕ → State) (x : Option Verdict) → run (bsp t) p k ws ≡ Some x →
      IsCounted ws (length (exchanges_from t k ws)) x
  counted zero ws x e = cc
  counted (suc k) ws x e = go (λ f. counted k (phase (bsp t) p ws) x f) (is_over (ws 0).way) refl
    where
      next : ℕ → State
      next = phase (bsp t) p ws

      list_by : Bool → List Exchange
      list_by b = if b then [] else exchange_of t ws ∷ exchanges_from t k next

      run_by : Bool → Option (Option Verdict)
      run_by b = if b then Some (outcome_of t (map ws (range_with_len 0 p))) else run (bsp t) p k next

      more : is_over (ws 0).way ≡ false → IsCounted next (length (exchanges_from t k next)) x →
          IsCounted ws (suc (length (exchanges_from t k next))) x
      more q rest = record {
        goes = λ i l. at i l;
        over = rest.over;
        outcome = rest.outcome;
      }
        where
          at : (i : ℕ) → i < suc (length (exchanges_from t k next)) → is_over (phases (bsp t) p i ws 0).way ≡ false
          at zero l = q
          at (suc i) l = rest.goes i (omega (arith, l))

      go : (run (bsp t) p k next ≡ Some x → IsCounted next (length (exchanges_from t k next)) x) → (b : Bool) → is_over (ws 0).way ≡ b →
          IsCounted ws (length (exchanges_from t (suc k) ws)) x
      go rest true q =
          subst (λ (b : Bool). IsCounted ws (length (list_by b)) x) (sym q) (record {
            goes = λ i l. absurd (omega (arith, l));
            over = q;
            outcome = unsome (outcome_of t (map ws (range_with_len 0 p))) x (ap run_by (sym q) ∙ e);
          })
      go rest false q =
          subst (λ (b : Bool). IsCounted ws (length (list_by b)) x) (sym q)
          (more q (rest (ap run_by (sym q) ∙ e)))

-- ---- what was printed

no_longer : (count : ℕ) (output : List (ℕ × ℤ)) → length (items_below count output) ≤ length output
no_longer count output =
    let e = length-map (filter (λ (x : ℕ × ℤ). nat_lt x.0 count) output) (λ (x : ℕ × ℤ). x.1) in
    let l = length_filter (λ (x : ℕ × ℤ). nat_lt x.0 count) output in
    omega (arith, e, l)

printed_of : (way : Way) (output : List (ℕ × ℤ)) (memory : List ℤ) (v : Verdict) → verdict_by way output memory ≡ Some v →
    ArePrinted v (length output)
printed_of (Past (Some key) ended) output memory v e =
    let told : Verdict = Faulted (machine.fault_of key) (items_below key.count output) in
    let are : ArePrinted told (length output) = record { all = λ none. absurd none; few = no_longer key.count output } in
    subst (λ (z : Verdict). ArePrinted z (length output)) (unsome told v e) are
printed_of (Past None true) output memory v e =
    let told : Verdict = Ended (machine.items output) memory in
    let l : length (machine.items output) ≡ length output = length-map output (λ (x : ℕ × ℤ). x.1) in
    let are : ArePrinted told (length output) = record { all = λ none. sym l; few = omega (arith, l) } in
    subst (λ (z : Verdict). ArePrinted z (length output)) (unsome told v e) are
printed_of (Past None false) output memory v e =
    let told : Verdict = verdicts.GoesOn (machine.items output) in
    let l : length (machine.items output) ≡ length output = length-map output (λ (x : ℕ × ℤ). x.1) in
    let are : ArePrinted told (length output) = record { all = λ none. sym l; few = omega (arith, l) } in
    subst (λ (z : Verdict). ArePrinted z (length output)) (unsome told v e) are
printed_of On output memory v e = absurd (cc e)
printed_of (Ending ended) output memory v e = absurd (cc e)
printed_of (Refused mark) output memory v e = absurd (cc e)
printed_of Lost output memory v e = absurd (cc e)

-- a way with a verdict, or on which the run goes on, is that of no worker that a mark stopped
abbrev IsRefused : Way → Type 0
IsRefused (Refused mark) = Unit {0}
IsRefused way = ⊥

going_unrefused : (way : Way) → is_over way ≡ false → IsRefused way → ⊥
going_unrefused (Refused mark) e h = absurd (cc e)
going_unrefused On e h = h
going_unrefused (Ending ended) e h = h
going_unrefused (Past key ended) e h = h
going_unrefused Lost e h = h

told_unrefused : (way : Way) (output : List (ℕ × ℤ)) (memory : List ℤ) (v : Verdict) → verdict_by way output memory ≡ Some v →
    IsRefused way → ⊥
told_unrefused (Refused mark) output memory v e h = absurd (cc e)
told_unrefused On output memory v e h = h
told_unrefused (Ending ended) output memory v e h = h
told_unrefused (Past key ended) output memory v e h = h
told_unrefused Lost output memory v e h = h

first_state : (n : ℕ) (f : ℕ → State) → 0 < n → state_of (map f (range_with_len 0 n)) 0 ≡ f 0
first_state zero f l = absurd (omega (arith, l))
first_state (suc n) f l = refl

-- ---- from one exchange to the next

abbrev items_of : State → ℕ
items_of s = length s.worker.uniform.output

module _ (t : Setting) where
  -- an exchange leaves the output, unless a mark stops the worker
  left_by : (w : ℕ) (r : Ready) (messages : List Message) (mark : HeaderMark) →
      (IsRefused (after_with t w r messages mark).way → ⊥) → items_of (after_with t w r messages mark) ≡ items_of r.state
  left_by w r messages Clear h = by_purpose r.purpose
    where
      by_purpose : (q : Purpose) → length (after_exchange t w q r.state.worker messages).uniform.output
          ≡ length r.state.worker.uniform.output
      by_purpose Sends = refl
      by_purpose Replies = refl
      by_purpose (Votes d) = refl
      by_purpose Closes = refl
  left_by w r messages OutOfMemory h = absurd (h tt)
  left_by w r messages OutOfReserve h = absurd (h tt)

  -- no mark is to come
  after_clear : (w : ℕ) (r : Ready) (messages : List Message) (mark : HeaderMark) → r.state.refusals ≡ [] →
      (after_with t w r messages mark).refusals ≡ []
  after_clear w r messages Clear e = ap marks_later e
  after_clear w r messages OutOfMemory e = refl
  after_clear w r messages OutOfReserve e = refl

  ready_clear : (w : ℕ) (s : State) → s.refusals ≡ [] → (ready t w s).state.refusals ≡ []
  ready_clear w s e =
      ap (λ ms. (machine.ready_with t w s (mark_now ms)).state.refusals) e ∙ by_way s.way
    where
      arrived : (a : Arrival Worker) → (ready_at s a).state.refusals ≡ []
      arrived Nowhere = e
      arrived (At ToSend place x) = e
      arrived (At ToReply place x) = e
      arrived (At (ToVote d) place x) = e
      arrived (At (ToClose ended) place x) = e

      by_way : (way : Way) → (ready_by t w s way).state.refusals ≡ []
      by_way On = arrived (stretch t w s)
      by_way (Ending ended) = e
      by_way (Past key ended) = e
      by_way (Refused mark) = e
      by_way Lost = e

  -- a stretch takes nothing back
  grows : (w : ℕ) (s : State) → s.refusals ≡ [] → items_of s ≤ items_at t w s
  grows w s e =
      subst (λ ms. items_of s ≤ items_of (machine.ready_with t w s (mark_now ms)).state) (sym e) (by_way s.way)
    where
      arrived : (a : Arrival Worker) → stretch t w s ≡ a → items_of s ≤ items_of (ready_at s a).state
      arrived Nowhere q = omega arith
      arrived (At ToSend place x) q = keeps t w t.enough s.place s.worker _ place x q
      arrived (At ToReply place x) q = keeps t w t.enough s.place s.worker _ place x q
      arrived (At (ToVote d) place x) q = keeps t w t.enough s.place s.worker _ place x q
      arrived (At (ToClose ended) place x) q = keeps t w t.enough s.place s.worker _ place x q

      by_way : (way : Way) → items_of s ≤ items_of (ready_by t w s way).state
      by_way On = arrived (stretch t w s) refl
      by_way (Ending ended) = omega arith
      by_way (Past key ended) = omega arith
      by_way (Refused mark) = omega arith
      by_way Lost = omega arith

  module _ (input : List ℤ) where
    abbrev at : ℕ → ℕ → State
    at k w = worker_after t input k w

    next_is : (k w : ℕ) → at (suc k) w ≡ after t w (ready t w (at k w)) (column (bsp t) (workers t) (worker_after t input k) w)
    next_is k w = ap (λ (ws : ℕ → State). ws w) (phase_more (bsp t) (workers t) k (opening t input))

    clear : (k w : ℕ) → (at k w).refusals ≡ []
    clear zero w = refl
    clear (suc k) w =
        ap (λ (s : State). s.refusals) (next_is k w)
        ∙ after_clear w (ready t w (at k w)) (column (bsp t) (workers t) (worker_after t input k) w) _
        (ready_clear w (at k w) (clear k w))

    kept : (k : ℕ) → (IsRefused (at (suc k) 0).way → ⊥) → items_of (at (suc k) 0) ≡ items_at t 0 (at k 0)
    kept k h =
        ap items_of (next_is k 0)
        ∙ left_by 0 (ready t 0 (at k 0)) (column (bsp t) (workers t) (worker_after t input k) 0) _
        (λ r. h (subst (λ (s : State). IsRefused s.way) (sym (next_is k 0)) r))

    -- from exchange e on, up to behind n
    up_to : (n e : ℕ) → ((k : ℕ) → k < n → IsRefused (at (suc k) 0).way → ⊥) → e < n → items_at t 0 (at e 0) ≤ items_of (at n 0)
    up_to zero e h l = absurd (omega (arith, l))
    up_to (suc n) e h l = ⊎_elim
        (λ (before : e < n).
        let a = up_to n e (λ k low. h k (omega (arith, low))) before in
        let b = grows 0 (at n 0) (clear n 0) in
        let c = kept n (h n (omega arith)) in
        omega (arith, a, b, c))
        (λ (last : n ≤ e).
        let same : e ≡ n = omega (arith, last, l) in
        let c = kept n (h n (omega arith)) in
        let d : items_at t 0 (at e 0) ≡ items_at t 0 (at n 0) = ap (λ k. items_at t 0 (at k 0)) same in
        omega (arith, c, d)) (below_or_past e n)

-- ---- the whole run

module _ (code : SuperstepCode) (m : Shape) (runnable : IsRunnable code m) (bound : ℕ) (input : List ℤ) (verdict : Verdict)
    (exchanges : List Exchange) (are : AreBspExchanges code m input bound verdict exchanges) where
  one : 0 < m.parts
  one = let h = runnable.map.lawful.one in omega (arith, h)

  module _ (n : ℕ) (low : most_instructions code bound < n) where
    abbrev t : Setting
    t = setting code m bound n

    abbrev many : ℕ
    many = length exchanges

    -- it comes to the verdict within that many instructions
    comes : outcome_by t (suc (suc n)) input ≡ Some (Some verdict)
    comes =
        let o = one_outcome code runnable.formed input bound in
        let is = o.alone m runnable.map verdict (record { enough = are.enough; exchanges = are.most; ends = are.ends }) in
        let enough : (bound + 1) * length code.instructions ≤ n =
        (let a = times bound (length code.instructions) in let b = plus bound (length code.instructions) in omega (arith, low, a, b)) in
        outcomes_are_same t runnable.map (suc (suc n)) input
        ∙ to_exchanges code bound n input o.verdict (o.lasts n enough)
        ∙ ap (λ (v : Verdict). Some (Some v)) (sym is)
      where
        times : (a b : ℕ) → a * (b + 1) ≡ a * b + a
        times a b = grind arith

        plus : (a b : ℕ) → (a + 1) * b ≡ a * b + b
        plus a b = grind arith

    listed : exchanges ≡ exchanges_by t (suc (suc n)) input
    listed = exchanges_are_unique code m runnable.map input bound verdict verdict exchanges (exchanges_by t (suc (suc n)) input) are
        (record { enough = n; most = suc (suc n); ends = comes; told = refl })

    ended : IsCounted t (opening t input) many (Some verdict)
    ended = subst (λ (xs : List Exchange). IsCounted t (opening t input) (length xs) (Some verdict)) (sym listed)
        (counted t (suc (suc n)) (opening t input) (Some verdict) comes)

    said : (memory : List ℤ) × (verdict_by (worker_after t input many 0).way (worker_after t input many 0).worker.uniform.output memory
        ≡ Some verdict)
    said =
        let states = map (worker_after t input many) (range_with_len 0 (workers t)) in (
          map (cell_in t states) (all_cells t),
          ap (λ (s : State). verdict_by s.way s.worker.uniform.output (map (cell_in t states) (all_cells t)))
              (sym (first_state (workers t) (worker_after t input many) one)) ∙ ended.outcome,
        )

    some : 0 < many
    some = go many refl
      where
        go : (k : ℕ) → many ≡ k → 0 < k
        go zero e = absurd (true_no_false (sym ended.over ∙ ap (λ j. is_over (worker_after t input j 0).way) e))
        go (suc k) e = omega arith

    unrefused : (k : ℕ) → k < many → IsRefused (worker_after t input (suc k) 0).way → ⊥
    unrefused k l = ⊎_elim {C = IsRefused (worker_after t input (suc k) 0).way → ⊥}
        (λ (before : suc k < many). going_unrefused (worker_after t input (suc k) 0).way (ended.goes (suc k) before))
        (λ (last : many ≤ suc k).
        let is : many ≡ suc k = omega (arith, last, l) in
        subst (λ j. IsRefused (worker_after t input j 0).way → ⊥) is
        (told_unrefused (worker_after t input many 0).way (worker_after t input many 0).worker.uniform.output said.0 verdict said.1))
        (below_or_past (suc k) many)

    are_printed : ArePrinted verdict (printed_by t input many)
    are_printed = printed_of (worker_after t input many 0).way (worker_after t input many 0).worker.uniform.output said.0 verdict said.1

    -- what any worker has printed at an exchange was printed in the run
    printed_before : (e w : ℕ) → e < many → w < m.parts → items_at t w (worker_after t input e w) ≤ printed_by t input many
    printed_before e w l below =
        let same : items_at t w (worker_after t input e w) ≡ items_at t 0 (worker_after t input e 0) =
        ap (λ (u : UniformPart). length u.output) (one_exchange t runnable.map input e w 0 below one).1.alike.uniform in
        let most = up_to t input many e unrefused l in
        omega (arith, same, most)

  last_exchange : (n : ℕ) (low : most_instructions code bound < n) →
      items_at (setting code m bound n) 0 (worker_after (setting code m bound n) input (length exchanges - 1) 0)
      ≡ printed_by (setting code m bound n) input (length exchanges)
  last_exchange n low =
      let l = some n low in
      let is : suc (length exchanges - 1) ≡ length exchanges = omega (arith, l) in
      let t = setting code m bound n in
      sym (kept t input (length exchanges - 1) (unrefused n low (length exchanges - 1) (omega (arith, l))))
      ∙ ap (λ k. printed_by t input k) is

  module _ (reserve : Reserve) where
    comes_within : (p : ComesPast code m bound input reserve) (n : ℕ) → most_instructions code bound < n → p.exchange < length exchanges
    comes_within p n low = ⊎_elim {C = p.exchange < length exchanges} (λ l. l)
        (λ (behind : length exchanges ≤ p.exchange).
        absurd (true_no_false (sym (ended n low).over ∙ p.comes n low (length exchanges) (omega (arith, behind)))))
        (below_or_past p.exchange (length exchanges))

    past_by : ComesPast code m bound input reserve → (n : ℕ) → most_instructions code bound < n →
        IsMoreThan reserve (printed_by (setting code m bound n) input (length exchanges)) (length exchanges)
    past_by p n low =
        let t = setting code m bound n in
        let within = comes_within p n low in
        let items = items_at t p.worker (worker_after t input p.exchange p.worker) in
        let most = printed_before n low p.exchange p.worker within p.there in
        ⊎_elim
        (λ (e : nat_lt reserve.items items ≡ true). inl (let l = ltb-true reserve.items items e in omega (arith, l, most)))
        (λ (e : nat_le reserve.exchanges p.exchange ≡ true).
        inr (let l = leb-true reserve.exchanges p.exchange e in omega (arith, l, within)))
        (or_cases (nat_lt reserve.items items) (nat_le reserve.exchanges p.exchange) (p.past n low))

    abbrev enough : ℕ
    enough = suc (most_instructions code bound)

    enough_is : most_instructions code bound < enough
    enough_is = omega arith

    more_by : ((n : ℕ) → most_instructions code bound < n →
        IsMoreThan reserve (printed_by (setting code m bound n) input (length exchanges)) (length exchanges)) →
        ComesPast code m bound input reserve
    more_by h =
        let first = some enough enough_is in
        let last : suc (length exchanges - 1) ≡ length exchanges = omega (arith, first) in
        record {
          worker = 0;
          exchange = length exchanges - 1;
          there = one;
          comes = λ n low. subst (λ k. GoesOn (bsp (setting code m bound n)) m.parts k (opening (setting code m bound n) input)) (sym last)
              (ended n low).goes;
          past = λ n low.
              let t = setting code m bound n in
              let items = items_at t 0 (worker_after t input (length exchanges - 1) 0) in
              ⊎_elim
              (λ (l : reserve.items < printed_by t input (length exchanges)).
              let same = last_exchange n low in
              or_left (nat_lt reserve.items items) (nat_le reserve.exchanges (length exchanges - 1))
              (lt-ltb reserve.items items (omega (arith, l, same))))
              (λ (l : reserve.exchanges < length exchanges).
              or_right (nat_lt reserve.items items) (nat_le reserve.exchanges (length exchanges - 1))
              (le-leb reserve.exchanges (length exchanges - 1) (omega (arith, l))))
              (h n low);
        }

pub past_is_more : PastIsMore
past_is_more code m runnable bound input reserve verdict exchanges are = record {
  printed = λ n low. are_printed code m runnable bound input verdict exchanges are n low;
  past = past_by code m runnable bound input verdict exchanges are reserve;
  more = more_by code m runnable bound input verdict exchanges are reserve;
}

pub past_is_more_output : PastIsMoreOutput
past_is_more_output code m runnable bound input reserve verdict exchanges are =
    let by = past_is_more code m runnable bound input reserve verdict exchanges are in (
      (λ h. by.more (λ n low. ⊎_elim
          (λ (l : reserve.items < length (output_of verdict)). inl (let few = (by.printed n low).few in omega (arith, l, few)))
          (λ l. inr l) h)),
      (λ none p.
          let n : ℕ = suc (most_instructions code bound) in
          let low : most_instructions code bound < n = omega arith in
          ⊎_elim
          (λ (l : reserve.items < printed_by (setting code m bound n) input (length exchanges)).
          inl (let all = (by.printed n low).all none in omega (arith, l, all)))
          (λ l. inr l) (by.past p n low)),
    )
