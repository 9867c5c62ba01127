-- The runs of the workers and of the flat machine have the same exchanges and the same outcome.
use Rattle.std.proofs.Common.{◌≡◌, ℕ, zero, suc, ◌<◌, List, [], ◌∷◌, map, Bool, true, false, Some, None, ℤ, pos, refl, sym, ap, ◌∙◌, arith}
use Rattle.std.specs.Prelude.{if◌then◌else◌, slice_index_or}
use Rattle.std.specs.List.{range_with_len}
use Rattle.std.proofs.lemmas.List.FromFn.{get_or-map-range_with_len}
use Rattle.pram_model.specs.Layout.{total_size}
use Rattle.pram_values.proofs.Totals.{total_map, total_same}
use Rattle.superstep_machine.specs.Keys.{least}
use Rattle.superstep_machine.specs.Setting.{Setting, workers, all_cells}
use Rattle.superstep_machine.specs.Parts.{UniformPart}
use Rattle.superstep_machine.specs.Words.{Message}
use Rattle.superstep_machine.specs.Machine.{phase, phases, column, run}
use Rattle.superstep_machine.specs.Run.{Purpose, Sends, Replies, Votes, Closes, Way, State, Ready, ready, message_for, message_of, key_of}
use Rattle.superstep_machine.specs.Run.{decided, mark_now, marks_later, message_with, after_with, after_exchange, after, is_over}
use Rattle.superstep_machine.specs.Run.{verdict_by, state_of, cell_in, no_state, outcome_of, bsp, opening}
use Rattle.superstep_machine.specs.Trace.{Exchange, exchange_of, exchanges_from}
use Rattle.superstep_machine.proofs.Refused.{map_within, for_clear}
use Rattle.flat_machine.specs.ByExchanges as flat_run
use Rattle.flat_machine.specs.Flatness.{IsMapFor, plan}
use Rattle.flat_machine.proofs.Relation.{Splits}
use Rattle.flat_machine.proofs.Lists.{map_twice}
use Rattle.flat_machine.proofs.Opening.{splits_same, splits_opening}
use Rattle.flat_machine.proofs.Replies.{splits_vote, splits_reply}
use Rattle.flat_machine.proofs.SendSplits.{splits_send}
use Rattle.flat_machine.proofs.Lockstep.{numbers, own_key, none_marked, Agree, ReadyAs, readies}

module _ (t : Setting) (room : IsMapFor t.code t.map) where
  -- there is a worker
  pub first : 0 < workers t
  first = let h = room.lawful.one in omega (arith, h)

  -- ---- an exchange

  module _ (r : flat_run.Ready) (rs : ℕ → Ready) (h : ReadyAs t room r rs) where
    abbrev column_to : ℕ → List Message
    column_to w = map (λ i. message_for t r.purpose (rs i).state.worker w) (numbers t)

    keys_are : (w : ℕ) → key_of (column_to w) ≡ r.state.flat.key
    keys_are w =
        total_map None least (λ (m : Message). m.key) (λ i. message_for t r.purpose (rs i).state.worker w) (numbers t)
        ∙ total_same None least (λ i. (message_for t r.purpose (rs i).state.worker w).key) (λ i. (rs i).state.worker.key)
        (λ i. own_key t r.purpose (rs i).state.worker w) (numbers t)
        ∙ h.states.splits.key

    -- what a worker comes to
    abbrev came_to : ℕ → State
    came_to w = record {
      worker = after_exchange t w r.purpose (rs w).state.worker (column_to w);
      place = r.state.place;
      way = decided r.purpose r.state.flat.uniform r.state.flat.key r.state.way;
      refusals = [];
    }

    after_is : (w : ℕ) → w < workers t → after t w (rs w) (column_to w) ≡ came_to w
    after_is w l =
        ap (after_with t w (rs w) (column_to w))
        (none_marked (λ i. message_for t r.purpose (rs i).state.worker w) (λ i. for_clear t r.purpose (rs i).state.worker w) (numbers t))
        ∙ ap gone (h.purpose w l)
        ∙ (λ i. record {
          worker = after_exchange t w r.purpose (rs w).state.worker (column_to w);
          place = h.states.place w l i;
          way = decided r.purpose (h.states.splits.uniform w l i) (keys_are w i) (h.states.way w l i);
          refusals = ap marks_later (h.states.unrefused w l) i;
        })
      where
        gone : Purpose → State
        gone p = record {
          worker = after_exchange t w p (rs w).state.worker (column_to w);
          place = (rs w).state.place;
          way = decided p (rs w).state.worker.uniform (key_of (column_to w)) (rs w).state.way;
          refusals = marks_later (rs w).state.refusals;
        }

    exchange_splits : (p : Purpose) → Splits t (flat_run.after_exchange t.code p r.state.flat)
        (λ w. after_exchange t w p (rs w).state.worker (map (λ i. message_for t p (rs i).state.worker w) (numbers t)))
    exchange_splits Sends = splits_send t room r.state.flat (λ w. (rs w).state.worker) h.states.splits
    exchange_splits Replies = splits_reply t room r.state.flat (λ w. (rs w).state.worker) h.states.splits
    exchange_splits (Votes d) = splits_vote t room d r.state.flat (λ w. (rs w).state.worker) h.states.splits
    exchange_splits Closes = h.states.splits

    exchanged : Agree t room (flat_run.after t.code r) came_to
    exchanged = record { splits = exchange_splits r.purpose; place = λ w l. refl; way = λ w l. refl; unrefused = λ w l. refl }

  agree_same : (s : flat_run.State) (ws vs : ℕ → State) → ((w : ℕ) → w < workers t → ws w ≡ vs w) → Agree t room s ws → Agree t room s vs
  agree_same s ws vs e a = record {
    splits = splits_same t room s.flat (λ w. (ws w).worker) (λ w. (vs w).worker) (λ w l. ap (λ (x : State). x.worker) (e w l)) a.splits;
    place = λ w l. ap (λ (x : State). x.place) (sym (e w l)) ∙ a.place w l;
    way = λ w l. ap (λ (x : State). x.way) (sym (e w l)) ∙ a.way w l;
    unrefused = λ w l. ap (λ (x : State). x.refusals) (sym (e w l)) ∙ a.unrefused w l;
  }

  module _ (s : flat_run.State) (ws : ℕ → State) (a : Agree t room s ws) where
    abbrev at : ReadyAs t room (flat_run.ready (plan t) s) (λ w. ready t w (ws w))
    at = readies t room s ws a

    -- the messages are those of one kind of exchange
    message_is : (i w : ℕ) → i < workers t →
        message_of t i (ws i) w ≡ message_for t (flat_run.ready (plan t) s).purpose (ready t i (ws i)).state.worker w
    message_is i w l =
        ap (λ marks. message_with t (ready t i (ws i)) w (mark_now marks)) (a.unrefused i l)
        ∙ ap (λ p. message_for t p (ready t i (ws i)).state.worker w) (at.purpose i l)

    column_is : (w : ℕ) → column (bsp t)
        (workers t) ws w ≡ map (λ i. message_for t (flat_run.ready (plan t) s).purpose (ready t i (ws i)).state.worker w) (numbers t)
    column_is w =
        map_within (λ i. message_of t i (ws i) w) (λ i. message_for t (flat_run.ready (plan t) s).purpose (ready t i (ws i)).state.worker w)
        (workers t) 0
        (λ i l. message_is i w (let k : i < workers t = omega (arith, l) in k))

    pub phase_agrees : Agree t room (flat_run.next (plan t) s) (phase (bsp t) (workers t) ws)
    phase_agrees =
        agree_same (flat_run.next (plan t) s) (came_to (flat_run.ready (plan t) s) (λ w. ready t w (ws w)) at)
        (phase (bsp t) (workers t) ws)
        (λ w l. sym (ap (after t w (ready t w (ws w))) (column_is w) ∙ after_is (flat_run.ready (plan t) s) (λ v. ready t v (ws v)) at w l))
        (exchanged (flat_run.ready (plan t) s) (λ w. ready t w (ws w)) at)

    -- ---- the outcome

    state_is : (w : ℕ) → w < workers t → state_of (map ws (numbers t)) w ≡ ws w
    state_is w l = get_or-map-range_with_len ws 0 (workers t) w w no_state l (omega arith)

    cell_is : (c : ℕ) → c < total_size t.code.layout → cell_in t (map ws (numbers t)) c ≡ s.flat.memory c
    cell_is c l =
        let k : c < t.map.count = (let r = room.room in omega (arith, l, r)) in
        let j = t.map.part c in
        let below = room.lawful.part_below c k in
        ap (λ (x : State). slice_index_or x.worker.cells (t.map.offset c) (pos 0)) (state_is j below)
        ∙ ap (λ (xs : List ℤ). slice_index_or xs (t.map.offset c) (pos 0)) (a.splits.cells j below)
        ∙ ap (λ (xs : List ℤ). slice_index_or xs (t.map.offset c) (pos 0))
        (map_twice s.flat.memory (t.map.cell j) (range_with_len 0 (t.map.width j)))
        ∙ get_or-map-range_with_len (λ o. s.flat.memory (t.map.cell j o)) 0 (t.map.width j) (t.map.offset c) (t.map.offset c) (pos 0)
        (room.lawful.offset_below c k) (omega arith)
        ∙ ap s.flat.memory (room.lawful.back c k)

    pub outcome_is : outcome_of t (map ws (numbers t)) ≡ flat_run.outcome_of t.code s
    outcome_is =
        ap (λ (x : State). verdict_by x.way x.worker.uniform.output (map (cell_in t (map ws (numbers t))) (all_cells t))) (state_is 0 first)
        ∙ ap (λ (way : Way). verdict_by way (ws 0).worker.uniform.output (map (cell_in t (map ws (numbers t))) (all_cells t)))
        (a.way 0 first)
        ∙ ap (λ (u : UniformPart). verdict_by s.way u.output (map (cell_in t (map ws (numbers t))) (all_cells t)))
        (a.splits.uniform 0 first)
        ∙ ap (verdict_by s.way s.flat.uniform.output) (map_within (cell_in t (map ws (numbers t))) s.flat.memory (total_size t.code.layout)
        0 (λ c l. cell_is c (let k : c < total_size t.code.layout = omega (arith, l) in k)))

  -- ---- whole runs

  pub run_same : (n : ℕ) (s : flat_run.State) (ws : ℕ → State) → Agree t room s ws →
      run (bsp t) (workers t) n ws ≡ flat_run.run (plan t) n s
  run_same zero s ws a = refl
  run_same (suc n) s ws a =
      ap (λ (way : Way). if is_over way then Some (outcome_of t (map ws (numbers t))) else run (bsp t) (workers t) n
      (phase (bsp t) (workers t) ws)) (a.way 0 first)
      ∙ ap (λ o. if is_over s.way then Some o else run (bsp t) (workers t) n (phase (bsp t) (workers t) ws)) (outcome_is s ws a)
      ∙ ap (λ o. if is_over s.way then Some (flat_run.outcome_of t.code s) else o)
      (run_same n (flat_run.next (plan t) s) (phase (bsp t) (workers t) ws) (phase_agrees s ws a))

  pub purposes_same : (n : ℕ) (s : flat_run.State) (ws : ℕ → State) → Agree t room s ws → map (λ (e : Exchange). e.purpose)
      (exchanges_from t n ws) ≡ flat_run.purposes_from (plan t) n s
  purposes_same zero s ws a = refl
  purposes_same (suc n) s ws a =
      ap (λ (way : Way). map (λ (e : Exchange). e.purpose) (if is_over way then [] else exchange_of t ws
      ∷ exchanges_from t n (phase (bsp t) (workers t) ws))) (a.way 0 first)
      ∙ go (is_over s.way) (purposes_same n (flat_run.next (plan t) s) (phase (bsp t) (workers t) ws) (phase_agrees s ws a))
    where
      go : (b : Bool) → map (λ (e : Exchange). e.purpose)
          (exchanges_from t n (phase (bsp t) (workers t) ws)) ≡ flat_run.purposes_from (plan t) n (flat_run.next (plan t) s) →
          map (λ (e : Exchange). e.purpose) (if b then [] else exchange_of t ws
          ∷ exchanges_from t n (phase (bsp t) (workers t) ws)) ≡ (if b then [] else (flat_run.ready (plan t) s).purpose
          ∷ flat_run.purposes_from (plan t) n (flat_run.next (plan t) s))
      go true rest = refl
      go false rest = (λ i. ((at s ws a).purpose 0 first i) ∷ rest i)

  pub phases_agree : (n : ℕ) (s : flat_run.State) (ws : ℕ → State) → Agree t room s ws →
      (x : flat_run.State) × Agree t room x (phases (bsp t) (workers t) n ws)
  phases_agree zero s ws a = (s, a)
  phases_agree (suc n) s ws a = phases_agree n (flat_run.next (plan t) s) (phase (bsp t) (workers t) ws) (phase_agrees s ws a)

  pub opening_agrees : (input : List ℤ) → Agree t room (flat_run.opening input) (opening t input)
  opening_agrees input = record { splits = splits_opening t room input; place = λ w l. refl; way = λ w l. refl; unrefused = λ w l. refl }
