-- The words that workers send, exchange by exchange, beside what the accesses of the flat machine's stretches take.
use Rattle.std.proofs.Common.{◌≡◌, ℕ, zero, suc, ◌+◌, ◌<◌, ◌≤◌, List, [], ◌∷◌, length, Bool, true, false, refl, sym, ap, ◌∙◌, subst}
use Rattle.std.proofs.Common.{arith, ℤ}
use Rattle.std.specs.Prelude.{if◌then◌else◌}
use Rattle.std.specs.List.{range_with_len}
use Rattle.pram_values.proofs.Totals.{total_map, total_within}
use Rattle.superstep_machine.specs.Setting.{Setting, workers}
use Rattle.superstep_machine.specs.Words.{words}
use Rattle.superstep_machine.specs.Worker.{Worker}
use Rattle.superstep_machine.specs.Machine.{phase, column}
use Rattle.superstep_machine.specs.Stretch.{ToSend, ToReply, ToVote, ToClose, Arrival, Nowhere, At}
use Rattle.superstep_machine.specs.Run.{Purpose, State, Way, On, Ending, Past, Refused, Lost, ready, ready_at, ready_by, ready_with}
use Rattle.superstep_machine.specs.Run.{mark_now}
use Rattle.superstep_machine.specs.Run.{message_for, message_of, message_with, is_over, bsp, opening, stretch}
use Rattle.superstep_machine.specs.Trace.{exchange_of, exchanges_from, exchanges_by, words_between, sum_over}
use Rattle.flat_machine.specs.ByExchanges as flat_run
use Rattle.flat_machine.specs.Flatness.{IsMapFor, plan}
use Rattle.flat_machine.proofs.Lockstep.{Agree, readies}
use Rattle.flat_machine.proofs.Runs.{first, opening_agrees, phase_agrees}
use Rattle.exchange_words.specs.Sent.{sent_in, words_sent}
use Rattle.exchange_words.proofs.Sums.{added, added_nothing}
use Rattle.exchange_words.proofs.Owed.{owed}
use Rattle.exchange_words.proofs.Sendings.{claims, exchanged}
use Rattle.exchange_words.proofs.Stretches.{stretch_words, came, stretches}

-- ---- the accesses of the flat machine, exchange by exchange

abbrev pub words_if : flat_run.Plan → ℕ → flat_run.State → Way → ℕ
words_if t p s On = stretch_words t.code t.bound p t.enough s.place s.flat
words_if t p s way = 0

abbrev pub words_from : flat_run.Plan → ℕ → ℕ → flat_run.State → ℕ
words_from t p zero s = 0
words_from t p (suc n) s = if is_over s.way then 0 else words_if t p s s.way + words_from t p n (flat_run.next t s)

module _ (t : Setting) (room : IsMapFor t.code t.map) where
  abbrev all : List ℕ
  all = range_with_len 0 (workers t)

  abbrev owed_by : (ℕ → State) → ℕ
  owed_by ws = added (λ w. owed t.code.rule (ws w).worker) all

  module _ (s : flat_run.State) (ws : ℕ → State) (a : Agree t room s ws) where
    -- ---- up to the exchange

    -- a worker that is ready is where its stretch arrives
    ready_came : (x : State) (b : Arrival Worker) → (ready_at x b).state.worker ≡ came x.worker b
    ready_came x Nowhere = refl
    ready_came x (At ToSend place y) = refl
    ready_came x (At ToReply place y) = refl
    ready_came x (At (ToVote d) place y) = refl
    ready_came x (At (ToClose ended) place y) = refl

    -- each goes by the flat machine's way
    ready_is : (w : ℕ) → w < workers t → ready t w (ws w) ≡ ready_by t w (record (ws w) { place = s.place }) s.way
    ready_is w l =
        ap (λ marks. ready_with t w (ws w) (mark_now marks)) (a.unrefused w l)
        ∙ ap (ready_by t w (ws w)) (a.way w l)
        ∙ ap (λ k. ready_by t w (record (ws w) { place = k }) s.way) (a.place w l)

    ready_owes : owed_by (λ w. (ready t w (ws w)).state) ≤ owed_by ws + words_if (plan t) (workers t) s s.way
    ready_owes =
        subst (λ m. m ≤ owed_by ws + words_if (plan t) (workers t) s s.way)
        (sym (total_within 0 (λ a b. a + b) (λ w. owed t.code.rule (ready t w (ws w)).state.worker)
        (λ w. owed t.code.rule (ready_by t w (record (ws w) { place = s.place }) s.way).state.worker) (workers t) 0
        (λ w l. ap (λ r. owed t.code.rule r.state.worker) (ready_is w (omega (arith, l))))))
        (go s.way)
      where
        go : (way : Way) → added (λ w. owed t.code.rule (ready_by t w (record (ws w) { place = s.place }) way).state.worker) all
            ≤ owed_by ws + words_if (plan t) (workers t) s way
        go On =
            let most = owed_by ws + stretch_words t.code t.bound (workers t) t.enough s.place s.flat in
            let reached = stretches t room (λ w. (ws w).worker) most (omega arith) t.enough s.place s.flat (λ w. (ws w).worker) a.splits
            (omega arith) in
            subst (λ m. m ≤ most)
            (sym (total_within 0 (λ a b. a + b)
            (λ w. owed t.code.rule (ready_at (record (ws w) { place = s.place })
            (stretch t w (record (ws w) { place = s.place }))).state.worker)
            (λ w. owed t.code.rule (came (ws w).worker (stretch t w (record (ws w) { place = s.place })))) (workers t) 0
            (λ w l. ap (owed t.code.rule) (ready_came (record (ws w) { place = s.place })
            (stretch t w (record (ws w) { place = s.place }))))))
            reached
        go (Ending ended) = omega arith
        go (Past key ended) = omega arith
        go (Refused mark) = omega arith
        go Lost = omega arith

    -- ---- the exchange

    abbrev purpose : Purpose
    purpose = (flat_run.ready (plan t) s).purpose

    message_is : (i w : ℕ) → i < workers t → message_of t i (ws i) w ≡ message_for t purpose (ready t i (ws i)).state.worker w
    message_is i w l =
        ap (λ marks. message_with t (ready t i (ws i)) w (mark_now marks)) (a.unrefused i l)
        ∙ ap (λ p. message_for t p (ready t i (ws i)).state.worker w) ((readies t room s ws a).purpose i l)

    sent_is : sent_in (exchange_of t ws) ≡ added (λ i. claims t purpose (ready t i (ws i)).state.worker) all
    sent_is =
        total_map 0 (λ a b. a + b) (λ n. n) (λ i. sum_over t (λ j. words_between t ws i j)) all
        ∙ total_within 0 (λ a b. a + b) (λ i. sum_over t (λ j. words_between t ws i j))
        (λ i. claims t purpose (ready t i (ws i)).state.worker) (workers t) 0
        (λ i l. total_within 0 (λ a b. a + b) (λ j. words_between t ws i j)
        (λ j. length (words t.code.rule (message_for t purpose (ready t i (ws i)).state.worker j))) (workers t) 0
        (λ j k. ap (λ m. length (words t.code.rule m)) (message_is i j (omega (arith, l)))))

    exchange_within : sent_in (exchange_of t ws) + owed_by (phase (bsp t) (workers t) ws)
        ≤ owed_by ws + words_if (plan t) (workers t) s s.way
    exchange_within =
        let r = readies t room s ws a in
        let b = exchanged t purpose (flat_run.ready (plan t) s).state.flat (λ w. ready t w (ws w)) r.purpose r.states.splits
        (column (bsp t) (workers t) ws) in
        let c = sent_is in
        let d = ready_owes in
        omega (arith, b, c, d)

  -- ---- whole runs

  within : (n : ℕ) (s : flat_run.State) (ws : ℕ → State) → Agree t room s ws →
      words_sent (exchanges_from t n ws) ≤ owed_by ws + words_from (plan t) (workers t) n s
  within zero s ws a = omega arith
  within (suc n) s ws a =
      subst (λ (way : Way). words_sent (if is_over way then [] else exchange_of t ws ∷ exchanges_from t n (phase (bsp t) (workers t) ws))
      ≤ owed_by ws + words_from (plan t) (workers t) (suc n) s) (sym (a.way 0 (first t room)))
      (go (is_over s.way) (within n (flat_run.next (plan t) s) (phase (bsp t) (workers t) ws) (phase_agrees t room s ws a)))
    where
      go : (b : Bool) → words_sent (exchanges_from t n (phase (bsp t) (workers t) ws))
          ≤ owed_by (phase (bsp t) (workers t) ws) + words_from (plan t) (workers t) n (flat_run.next (plan t) s) →
          words_sent (if b then [] else exchange_of t ws ∷ exchanges_from t n (phase (bsp t) (workers t) ws))
          ≤ owed_by ws + (if b then 0 else words_if (plan t) (workers t) s s.way + words_from (plan t) (workers t) n
          (flat_run.next (plan t) s))
      go true h = omega arith
      go false h = let e = exchange_within s ws a in omega (arith, h, e)

  pub sent_within : (n : ℕ) (input : List ℤ) →
      words_sent (exchanges_by t n input) ≤ words_from (plan t) (workers t) n (flat_run.opening input)
  sent_within n input =
      let a = within n (flat_run.opening input) (opening t input) (opening_agrees t room input) in
      let b : owed_by (opening t input) ≡ 0 =
      total_within 0 (λ a b. a + b) (λ w. owed t.code.rule (opening t input w).worker) (λ w. 0) (workers t) 0 (λ w l. omega arith)
      ∙ added_nothing (workers t) 0 in
      omega (arith, a, b)
