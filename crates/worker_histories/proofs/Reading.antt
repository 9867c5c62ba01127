-- What workers read of the words that come to them: the messages of the run, exchange by exchange.
use Rattle.std.proofs.Common.{◌≡◌, ℕ, zero, suc, ◌<◌, ◌≤◌, List, map, length, true, false, Some, ℤ, refl, sym, ap, ◌∙◌, arith}
use Rattle.std.specs.List.{range_with_len}
use Rattle.superstep_machine.specs.declared.header.MessageHeader.{MessageHeader}
use Rattle.superstep_machine.specs.HeaderWords.{read_header}
use Rattle.superstep_machine.specs.WordReading.{read_message}
use Rattle.superstep_machine.specs.Words.{Message, words}
use Rattle.superstep_machine.specs.Setting.{Setting, workers}
use Rattle.superstep_machine.specs.Machine.{column, phase, phases}
use Rattle.superstep_machine.specs.Run.{Purpose, State, ready, message_of, after, bsp, opening, is_over, outcome_of}
use Rattle.superstep_machine.proofs.Refused.{map_within}
use Rattle.bsp_verify.specs.Runs.{worker_after}
use Rattle.flat_machine.specs.Flatness.{IsMapFor}
use Rattle.flat_machine.proofs.Laws.{one_exchange}
use Rattle.flat_machine.proofs.Lists.{map_twice}
use Rattle.worker_exchange.specs.Rows.{WrittenMessage, written, words_in}
use Rattle.worker_exchange.specs.Received.{messages_to}
use Rattle.worker_histories.specs.Histories.{end_by, HaveExchanged}
use Rattle.worker_histories.specs.Shares.{purpose_of, words_of}
use Rattle.worker_histories.specs.Joined.{IsRunSoFar}
use Rattle.worker_histories.specs.InWords.{in_words, AreGivenBack, IsUnderway, HistoriesInWordsMakeARun, HistoriesInWordsAreTheRunSoFar}
use Rattle.worker_histories.proofs.Lists.{sum_of_range}
use Rattle.worker_histories.proofs.Joining.{phase_more, phase_within, run_ends, AreJoined, ends_are, holds_at}
use Rattle.worker_histories.proofs.Parts.{share_at, share_within, shares_are, parts_are}

module _ (t : Setting) where
  -- the words of messages are as many as they have
  as_many : (f : ℕ → Message) → words_in (map (λ i. written t.code.rule (f i)) (range_with_len 0 (workers t)))
      ≡ words_of t.code.rule (map f (range_with_len 0 (workers t)))
  as_many f =
      sum_of_range (λ (x : WrittenMessage). length x.words) (λ i. written t.code.rule (f i)) (workers t) 0
      ∙ sym (sum_of_range (λ (m : Message). length (words t.code.rule m)) f (workers t) 0)

  pub share_in_words : (w : ℕ) (ws : ℕ → State) → share_at (in_words t) (purpose_of t) words_in (workers t) w ws
      ≡ share_at (bsp t) (purpose_of t) (words_of t.code.rule) (workers t) w ws
  share_in_words w ws = λ i. record {
    purpose = purpose_of t w (ws w);
    sent = as_many (message_of t w (ws w)) i;
    received = as_many (λ v. message_of t v (ws v) w) i;
  }

  module _ (room : IsMapFor t.code t.map) (input : List ℤ) where
    -- workers that are those of the run behind k exchanges
    module _ (k : ℕ) (ws : ℕ → State) (here : (w : ℕ) → w < workers t → ws w ≡ worker_after t input k w) where
      one_purpose : (w v : ℕ) → w < workers t → v < workers t → purpose_of t w (ws w) ≡ purpose_of t v (ws v)
      one_purpose w v lw lv = ap (purpose_of t w) (here w lw) ∙ (one_exchange t room input k w v lw lv).0
          ∙ sym (ap (purpose_of t v) (here v lv))

      -- each reads the messages that it is sent
      heard : ((w : ℕ) → w < workers t → AreGivenBack t w (ws w)) → (w : ℕ) → w < workers t →
          messages_to t.code.rule t.map w (purpose_of t w (ws w)) (column (in_words t) (workers t) ws w)
          ≡ column (bsp t) (workers t) ws w
      heard back w lw =
          map_twice (λ (r : MessageHeader × List ℕ). read_message t.code.rule t.map w (purpose_of t w (ws w)) r.0 r.1)
          (λ (x : WrittenMessage). (read_header x.header, x.words)) (column (in_words t) (workers t) ws w)
          ∙ map_twice (λ (x : WrittenMessage). read_message t.code.rule t.map w (purpose_of t w (ws w)) (read_header x.header) x.words)
          (λ v. written t.code.rule (message_of t v (ws v) w)) (range_with_len 0 (workers t))
          ∙ map_within (λ v. read_message t.code.rule t.map w (purpose_of t w (ws w))
          (read_header (written t.code.rule (message_of t v (ws v) w)).header) (written t.code.rule (message_of t v (ws v) w)).words)
          (λ v. message_of t v (ws v) w) (workers t) 0
          (λ v l.
          let lv : v < workers t = omega (arith, l) in
          ap (λ (p : Purpose). read_message t.code.rule t.map w p
          (read_header (written t.code.rule (message_of t v (ws v) w)).header) (written t.code.rule (message_of t v (ws v) w)).words)
          (one_purpose w v lw lv)
          ∙ back v lv w lw)

      phase_is : ((w : ℕ) → w < workers t → AreGivenBack t w (ws w)) → (w : ℕ) → w < workers t →
          phase (in_words t) (workers t) ws w ≡ phase (bsp t) (workers t) ws w
      phase_is back w lw = ap (after t w (ready t w (ws w))) (heard back w lw)

    -- the run in words is the run
    pub phases_are : (n : ℕ) → ((k w : ℕ) → k < n → w < workers t →
        AreGivenBack t w (phases (in_words t) (workers t) k (opening t input) w)) → (w : ℕ) → w < workers t →
        phases (in_words t) (workers t) n (opening t input) w ≡ worker_after t input n w
    phases_are zero back w h = refl
    phases_are (suc n) back w h =
        let ws = phases (in_words t) (workers t) n (opening t input) in
        let same = phases_are n (λ k v l. back k v (omega (arith, l))) in
        ap (λ (f : ℕ → State). f w) (phase_more (in_words t) (workers t) n (opening t input))
        ∙ phase_is n ws same (λ v l. back n v (omega arith) l) w h
        ∙ phase_within (bsp t) (workers t) ws (worker_after t input n) same w h
        ∙ ap (λ (f : ℕ → State). f w) (sym (phase_more (bsp t) (workers t) n (opening t input)))

module _ (t : Setting) (room : IsMapFor t.code t.map) (input : List ℤ) (n : ℕ) (rows columns : ℕ → List (List WrittenMessage))
    (exchanged : HaveExchanged (workers t) n rows columns)
    (underway : (w : ℕ) → w < workers t → IsUnderway t w (opening t input w) (columns w) (rows w)) where
  abbrev start : ℕ → State
  start = opening t input

  some : 0 < workers t
  some = let l = room.lawful.one in omega (arith, l)

  joined : AreJoined (in_words t) (workers t) n start rows columns
  joined = record { exchanged = exchanged; sent = λ w h. (underway w h).sent }

  back : (k w : ℕ) → k < n → w < workers t → AreGivenBack t w (phases (in_words t) (workers t) k start w)
  back k w l h = holds_at (in_words t) (workers t) (AreGivenBack t w) w h n start rows columns joined (underway w h).given_back k l

  same : (k : ℕ) → k ≤ n → (w : ℕ) → w < workers t → phases (in_words t) (workers t) k start w ≡ worker_after t input k w
  same k few = phases_are t room input k (λ j w l h. back j w (omega (arith, l, few)) h)

  so_far : IsRunSoFar t input n (λ w. end_by (in_words t) w (start w) (columns w))
  so_far = record {
    states_are = λ w h. ends_are (in_words t) (workers t) n start rows columns joined w h ∙ same n (omega arith) w h;
    going = λ k l. ap (λ (s : State). is_over s.way) (sym (same k (omega (arith, l)) 0 some))
        ∙ holds_at (in_words t) (workers t) (λ (s : State). is_over s.way ≡ false) 0 some n start rows columns joined
        (underway 0 some).going k l;
  }

pub histories_in_words_are_the_run_so_far : HistoriesInWordsAreTheRunSoFar
histories_in_words_are_the_run_so_far t room input n rows columns exchanged underway =
    so_far t room input n rows columns exchanged underway

pub histories_in_words_make_a_run : HistoriesInWordsMakeARun
histories_in_words_make_a_run t room input n ends rows columns exchanged played =
    let underway : (w : ℕ) → w < workers t → IsUnderway t w (opening t input w) (columns w) (rows w) = λ w h. (played w h).underway in
    let some = some t room input n rows columns exchanged underway in
    let start = opening t input in
    let a = joined t room input n rows columns exchanged underway in
    let same = same t room input n rows columns exchanged underway in
    let so_far = so_far t room input n rows columns exchanged underway in
    let states : (w : ℕ) → w < workers t → ends w ≡ worker_after t input n w =
    λ w h. (played w h).end ∙ so_far.states_are w h in
    let over : is_over (worker_after t input n 0).way ≡ true =
    ap (λ (s : State). is_over s.way) (sym (states 0 some)) ∙ (played 0 some).over in
    record {
      run = record {
        states = states;
        going = so_far.going;
        outcome = run_ends (bsp t) (workers t) n start so_far.going over
            ∙ ap (λ l. Some (outcome_of t l))
            (map_within (worker_after t input n) ends (workers t) 0 (λ i l. sym (states i (omega (arith, l)))));
      };
      parts_are = λ w h.
          shares_are (in_words t) (purpose_of t) words_in (workers t) n start rows columns a w h
          ∙ map_within (λ k. share_at (in_words t) (purpose_of t) words_in (workers t) w (phases (in_words t) (workers t) k start))
          (λ k. share_at (bsp t) (purpose_of t) (words_of t.code.rule) (workers t) w (worker_after t input k)) n 0
          (λ k l.
          share_within (in_words t) (purpose_of t) words_in (workers t) w h (phases (in_words t) (workers t) k start)
          (worker_after t input k) (same k (omega (arith, l)))
          ∙ share_in_words t w (worker_after t input k))
          ∙ parts_are t room input n so_far.going over w h;
    }
