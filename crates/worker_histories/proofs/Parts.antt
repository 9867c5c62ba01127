-- The workers' parts of the exchanges of a run.
use Rattle.std.proofs.Common.{◌≡◌, ℕ, zero, suc, ◌<◌, List, [], ◌∷◌, length, map, true, ℤ, refl, sym, ap, ◌∙◌, arith}
use Rattle.std.specs.Prelude.{if◌then◌else◌}
use Rattle.std.specs.List.{range_with_len}
use Rattle.superstep_machine.specs.Setting.{Setting, workers}
use Rattle.superstep_machine.specs.Words.{Message, words}
use Rattle.superstep_machine.specs.Machine.{Machine, row, column, phase, phases}
use Rattle.superstep_machine.specs.Run.{Purpose, State, bsp, opening, message_of, is_over}
use Rattle.superstep_machine.specs.Trace.{exchange_of, exchanges_from, exchanges_by, words_between, sum_over}
use Rattle.superstep_machine.proofs.Refused.{map_within}
use Rattle.bsp_verify.specs.Runs.{worker_after}
use Rattle.flat_machine.specs.Flatness.{IsMapFor}
use Rattle.flat_machine.proofs.Laws.{one_exchange}
use Rattle.flat_machine.proofs.Lists.{map_twice, item_at}
use Rattle.worker_histories.specs.Histories.{GoesOn}
use Rattle.worker_histories.specs.Shares.{Share, share_of, shares_by, purpose_of, words_of}
use Rattle.worker_histories.specs.Joined.{HistoriesMakeARun}
use Rattle.worker_histories.proofs.Lists.{rest, range_shift, sum_of_range}
use Rattle.worker_histories.proofs.Joining.{AreJoined, parts, first_column, next_is, less, histories_are_a_run}

-- ---- every machine

module _ {S M O : Type 0} (b : Machine S M O) (purpose : ℕ → S → Purpose) (size : List M → ℕ) (p : ℕ) where
  -- worker w's part of the exchange behind these states
  abbrev pub share_at : ℕ → (ℕ → S) → Share
  share_at w ws = record { purpose = purpose w (ws w); sent = size (row b p w (ws w)); received = size (column b p ws w) }

  -- it is one for states that agree below p
  pub share_within : (w : ℕ) → w < p → (ws vs : ℕ → S) → ((v : ℕ) → v < p → ws v ≡ vs v) → share_at w ws ≡ share_at w vs
  share_within w h ws vs e = λ i. record {
    purpose = purpose w (e w h i);
    sent = size (row b p w (e w h i));
    received = size (map_within (λ v. b.message v (ws v) w) (λ v. b.message v (vs v) w) p 0
        (λ v l. ap (λ (s : S). b.message v s w) (e v (omega (arith, l)))) i);
  }

  none_left : (cs : List (List M)) (w : ℕ) (s : S) → length cs ≡ 0 → shares_by b purpose size p w s cs ≡ []
  none_left [] w s h = refl
  none_left (c ∷ cs) w s h = cc

  pub shares_are : (n : ℕ) (start : ℕ → S) (rows columns : ℕ → List (List M)) → AreJoined b p n start rows columns → (w : ℕ) → w < p →
      shares_by b purpose size p w (start w) (columns w) ≡ map (λ k. share_at w (phases b p k start)) (range_with_len 0 n)
  shares_are zero start rows columns a w h = none_left (columns w) w (start w) (a.exchanged.many w h)
  shares_are (suc n) start rows columns a w h =
      ap (shares_by b purpose size p w (start w)) (parts b p n start rows columns a w h)
      ∙ (λ i. record {
        purpose = purpose w (start w);
        sent = size (row b p w (start w));
        received = size (first_column b p n start rows columns a w h i);
      } ∷ shares_by b purpose size p w (next_is b p n start rows columns a w h i) (rest (columns w)))
      ∙ ap (λ ss. share_at w start ∷ ss)
      (shares_are n (phase b p start) (λ v. rest (rows v)) (λ v. rest (columns v)) (less b p n start rows columns a) w h
      ∙ sym (range_shift (λ k. share_at w (phases b p k start)) n 0))

-- ---- this machine

module _ (t : Setting) where
  pub exchanges_are : (n : ℕ) (ws : ℕ → State) → GoesOn (bsp t) (workers t) n ws →
      is_over (phases (bsp t) (workers t) n ws 0).way ≡ true →
      exchanges_from t (suc n) ws ≡ map (λ k. exchange_of t (phases (bsp t) (workers t) k ws)) (range_with_len 0 n)
  exchanges_are zero ws going over =
      ap (λ o. if o then [] else exchange_of t ws ∷ exchanges_from t zero (phase (bsp t) (workers t) ws)) over
  exchanges_are (suc n) ws going over =
      ap (λ o. if o then [] else exchange_of t ws ∷ exchanges_from t (suc n) (phase (bsp t) (workers t) ws)) (going 0 (omega arith))
      ∙ ap (λ es. exchange_of t ws ∷ es)
      (exchanges_are n (phase (bsp t) (workers t) ws) (λ i l. going (suc i) (omega (arith, l))) over
      ∙ sym (range_shift (λ k. exchange_of t (phases (bsp t) (workers t) k ws)) n 0))

  module _ (room : IsMapFor t.code t.map) (input : List ℤ) where
    module _ (w k : ℕ) (h : w < workers t) where
      abbrev ws : ℕ → State
      ws = worker_after t input k

      abbrev size : Message → ℕ
      size m = length (words t.code.rule m)

      -- a worker's part is its part of the exchange
      pub part_is : share_at (bsp t) (purpose_of t) (words_of t.code.rule) (workers t) w ws ≡ share_of w (exchange_of t ws)
      part_is = λ i. record {
        purpose = (one_exchange t room input k w 0 h (let l = room.lawful.one in omega (arith, l))).0 i;
        sent = (sum_of_range size (message_of t w (ws w)) (workers t) 0
            ∙ sym (item_at (λ v. sum_over t (λ j. words_between t ws v j)) (workers t) w 0 h)) i;
        received = (sum_of_range size (λ v. message_of t v (ws v) w) (workers t) 0
            ∙ sym (item_at (λ v. sum_over t (λ j. words_between t ws j v)) (workers t) w 0 h)) i;
      }

    -- parts of all exchanges
    pub parts_are : (n : ℕ) → GoesOn (bsp t) (workers t) n (opening t input) → is_over (worker_after t input n 0).way ≡ true →
        (w : ℕ) → w < workers t →
        map (λ k. share_at (bsp t) (purpose_of t) (words_of t.code.rule) (workers t) w (worker_after t input k)) (range_with_len 0 n)
        ≡ map (share_of w) (exchanges_by t (suc n) input)
    parts_are n going over w h =
        map_within (λ k. share_at (bsp t) (purpose_of t) (words_of t.code.rule) (workers t) w (worker_after t input k))
        (λ k. share_of w (exchange_of t (worker_after t input k))) n 0 (λ k l. part_is w k h)
        ∙ sym (map_twice (share_of w) (λ k. exchange_of t (worker_after t input k)) (range_with_len 0 n))
        ∙ ap (map (share_of w)) (sym (exchanges_are n (opening t input) going over))

pub histories_make_a_run : HistoriesMakeARun
histories_make_a_run t room input n ends rows columns exchanged played =
    let some : 0 < workers t = (let l = room.lawful.one in omega (arith, l)) in
    let a : AreJoined (bsp t) (workers t) n (opening t input) rows columns =
    record { exchanged = exchanged; sent = λ w h. (played w h).sent } in
    let run = histories_are_a_run (bsp t) (workers t) n (opening t input) ends rows columns some exchanged played in
    let over : is_over (worker_after t input n 0).way ≡ true =
    ap (λ (s : State). is_over s.way) (sym (run.states 0 some)) ∙ (played 0 some).over in
    record {
      run = run;
      parts_are = λ w h. shares_are (bsp t) (purpose_of t) (words_of t.code.rule) (workers t) n (opening t input) rows columns a w h
          ∙ parts_are t room input n run.going over w h;
    }
