-- Runs of renamed code are runs of the code.
use Rattle.std.proofs.Common.{◌≡◌, ℕ, zero, suc, List, [], ◌∷◌, map, Bool, true, false, Option, Some, ℤ, pos, refl, ap, ◌∙◌}
use Rattle.std.specs.Prelude.{if◌then◌else◌, slice_index_or}
use Rattle.std.specs.List.{range_with_len}
use Rattle.flat_machine.proofs.Lists.{map_same}
use Rattle.superstep_machine.specs.declared.key.Key.{Key}
use Rattle.superstep_machine.specs.declared.mark.HeaderMark.{HeaderMark}
use Rattle.superstep_machine.specs.declared.mark.HeaderMark.TheVariants.{Clear, OutOfMemory, OutOfReserve}
use Rattle.superstep_machine.specs.Setting.{Setting, workers, all_cells}
use Rattle.superstep_machine.specs.Parts.{UniformPart}
use Rattle.superstep_machine.specs.Words.{Message}
use Rattle.superstep_machine.specs.Worker.{Worker}
use Rattle.superstep_machine.specs.Stretch.{ToSend, ToReply, ToVote, ToClose, Arrival, Nowhere, At}
use Rattle.superstep_machine.specs.Machine.{column, phase, phases, run}
use Rattle.superstep_machine.specs.Run.{Purpose, Sends, Replies, Votes, Closes, Way, On, Ending, Past, Refused, Lost, State, Ready}
use Rattle.superstep_machine.specs.Run.{mark_now, stretch, ready_at, ready_by, ready_with, ready, is_held, message_for, message_with}
use Rattle.superstep_machine.specs.Run.{message_of}
use Rattle.superstep_machine.specs.Run.{key_of, decided, after_exchange, mark_of, after_with, after, is_over, state_of, cell_in}
use Rattle.superstep_machine.specs.Run.{verdict_by, outcome_of, bsp, opening, outcome_by}
use Rattle.bsp_verify.specs.Runs.{worker_after}
use Rattle.renaming.specs.Renamed.{IsOneToOne}
use Rattle.renaming.proofs.Parts.{uniform_moved}
use Rattle.renaming.proofs.Workers.{t', worker_moved, arrival_moved, until_moved, sent_moved, voted_moved, after_send_moved}
use Rattle.renaming.proofs.Workers.{after_reply_moved}
use Rattle.renaming.proofs.Workers.{after_vote_moved}

module _ (p l : ℕ → ℕ) (one : IsOneToOne p l) (uniform private : ℕ) (t : Setting) where
  abbrev u' : Setting
  u' = t' p l one uniform private t

  abbrev pub state_moved : State → State
  state_moved s = record s { worker = worker_moved p l one uniform private t s.worker }

  abbrev pub purpose_moved : Purpose → Purpose
  purpose_moved Sends = Sends
  purpose_moved Replies = Replies
  purpose_moved (Votes d) = Votes (p d)
  purpose_moved Closes = Closes

  abbrev pub ready_moved : Ready → Ready
  ready_moved r = record { purpose = purpose_moved r.purpose; state = state_moved r.state }

  -- ---- up to the exchange

  close_moved : (b : Bool) → (if b then Sends else Closes) ≡ purpose_moved (if b then Sends else Closes)
  close_moved true = refl
  close_moved false = refl

  at_moved : (s : State) (a : Arrival Worker) →
      ready_at (state_moved s) (arrival_moved p l one uniform private t a) ≡ ready_moved (ready_at s a)
  at_moved s Nowhere = refl
  at_moved s (At ToSend place x) = refl
  at_moved s (At ToReply place x) = refl
  at_moved s (At (ToVote d) place x) = refl
  at_moved s (At (ToClose ended) place x) = λ i. record {
    purpose = close_moved (is_held x.uniform.put) i;
    state = record (state_moved s) { worker = worker_moved p l one uniform private t x; place = place; way = Ending ended };
  }

  by_moved : (w : ℕ) (s : State) (way : Way) → ready_by u' w (state_moved s) way ≡ ready_moved (ready_by t w s way)
  by_moved w s On = ap (ready_at (state_moved s)) (until_moved p l one uniform private t w t.enough s.place s.worker)
      ∙ at_moved s (stretch t w s)
  by_moved w s (Ending ended) = refl
  by_moved w s (Past key ended) = refl
  by_moved w s (Refused mark) = refl
  by_moved w s Lost = refl

  with_moved : (w : ℕ) (s : State) (mark : HeaderMark) → ready_with u' w (state_moved s) mark ≡ ready_moved (ready_with t w s mark)
  with_moved w s Clear = by_moved w s s.way
  with_moved w s OutOfMemory = refl
  with_moved w s OutOfReserve = refl

  pub ready_is : (w : ℕ) (s : State) → ready u' w (state_moved s) ≡ ready_moved (ready t w s)
  ready_is w s = with_moved w s (mark_now s.refusals)

  -- ---- messages

  for_moved : (purpose : Purpose) (s : Worker) (j : ℕ) →
      message_for u' (purpose_moved purpose) (worker_moved p l one uniform private t s) j ≡ message_for t purpose s j
  for_moved Sends s j = sent_moved p l one uniform private t s j
  for_moved Replies s j = refl
  for_moved (Votes d) s j = voted_moved p l one uniform private t s
  for_moved Closes s j = refl

  message_with_moved : (r : Ready) (j : ℕ) (mark : HeaderMark) → message_with u' (ready_moved r) j mark ≡ message_with t r j mark
  message_with_moved r j Clear = for_moved r.purpose r.state.worker j
  message_with_moved r j OutOfMemory = refl
  message_with_moved r j OutOfReserve = refl

  pub message_is : (w : ℕ) (s : State) (j : ℕ) → message_of u' w (state_moved s) j ≡ message_of t w s j
  message_is w s j =
      ap (λ r. message_with u' r j (mark_now s.refusals)) (ready_is w s) ∙ message_with_moved (ready t w s) j (mark_now s.refusals)

  -- ---- behind the exchange

  decided_moved : (purpose : Purpose) (u : UniformPart) (key : Option Key) (way : Way) →
      decided (purpose_moved purpose) (uniform_moved p l one u) key way ≡ decided purpose u key way
  decided_moved Sends u key way = refl
  decided_moved Replies u key way = refl
  decided_moved (Votes d) u key way = refl
  decided_moved Closes u key way = refl

  exchange_moved : (w : ℕ) (purpose : Purpose) (s : Worker) (came : List Message) →
      after_exchange u' w (purpose_moved purpose) (worker_moved p l one uniform private t s) came
      ≡ worker_moved p l one uniform private t (after_exchange t w purpose s came)
  exchange_moved w Sends s came = after_send_moved p l one uniform private t w s came
  exchange_moved w Replies s came = after_reply_moved p l one uniform private t s came
  exchange_moved w (Votes d) s came = after_vote_moved p l one uniform private t d s came
  exchange_moved w Closes s came = refl

  after_with_moved : (w : ℕ) (r : Ready) (came : List Message) (mark : HeaderMark) →
      after_with u' w (ready_moved r) came mark ≡ state_moved (after_with t w r came mark)
  after_with_moved w r came Clear = λ i. record (state_moved (after_with t w r came Clear)) {
    worker = exchange_moved w r.purpose r.state.worker came i;
    way = decided_moved r.purpose r.state.worker.uniform (key_of came) r.state.way i;
  }
  after_with_moved w r came OutOfMemory = refl
  after_with_moved w r came OutOfReserve = refl

  after_moved : (w : ℕ) (s : State) (came : List Message) →
      after u' w (ready u' w (state_moved s)) came ≡ state_moved (after t w (ready t w s) came)
  after_moved w s came = ap (λ r. after u' w r came) (ready_is w s) ∙ after_with_moved w (ready t w s) came (mark_of came)

  -- ---- all workers

  abbrev all_moved : (ℕ → State) → ℕ → State
  all_moved ws w = state_moved (ws w)

  phase_moved : (n : ℕ) (ws : ℕ → State) → phase (bsp u') n (all_moved ws) ≡ all_moved (phase (bsp t) n ws)
  phase_moved n ws = λ i w. (ap (after u' w (ready u' w (state_moved (ws w))))
      (map_same (λ v. message_of u' v (state_moved (ws v)) w) (λ v. message_of t v (ws v) w) (λ v. message_is v (ws v) w)
      (range_with_len 0 n))
      ∙ after_moved w (ws w) (column (bsp t) n ws w)) i

  phases_moved : (n k : ℕ) (ws : ℕ → State) → phases (bsp u') n k (all_moved ws) ≡ all_moved (phases (bsp t) n k ws)
  phases_moved n zero ws = refl
  phases_moved n (suc k) ws = ap (phases (bsp u') n k) (phase_moved n ws) ∙ phases_moved n k (phase (bsp t) n ws)

  pub worker_is : (input : List ℤ) (k w : ℕ) → worker_after u' input k w ≡ state_moved (worker_after t input k w)
  worker_is input k w = ap (λ ws. ws w) (phases_moved (workers t) k (opening t input))

  -- ---- the outcome

  one_state : (ws : ℕ → State) (ns : List ℕ) (w : ℕ) → state_of (map (all_moved ws) ns) w ≡ state_moved (state_of (map ws ns) w)
  one_state ws [] w = refl
  one_state ws (n ∷ ns) zero = refl
  one_state ws (n ∷ ns) (suc w) = one_state ws ns w

  outcome_moved : (ws : ℕ → State) (ns : List ℕ) → outcome_of u' (map (all_moved ws) ns) ≡ outcome_of t (map ws ns)
  outcome_moved ws ns =
      (λ i. verdict_by (one_state ws ns 0 i).way (one_state ws ns 0 i).worker.uniform.output
      (map_same (cell_in u' (map (all_moved ws) ns)) (cell_in t (map ws ns))
      (λ c. ap (λ (s : State). slice_index_or s.worker.cells (t.map.offset c) (pos 0)) (one_state ws ns (t.map.part c)))
      (all_cells t) i))

  run_moved : (n k : ℕ) (ws : ℕ → State) → run (bsp u') n k (all_moved ws) ≡ run (bsp t) n k ws
  run_moved n zero ws = refl
  run_moved n (suc k) ws = go (is_over (ws 0).way) (ap (run (bsp u') n k) (phase_moved n ws) ∙ run_moved n k (phase (bsp t) n ws))
    where
      go : (b : Bool) → run (bsp u') n k (phase (bsp u') n (all_moved ws)) ≡ run (bsp t) n k (phase (bsp t) n ws) →
          (if b then Some (outcome_of u' (map (all_moved ws) (range_with_len 0 n))) else
          run (bsp u') n k (phase (bsp u') n (all_moved ws)))
          ≡ (if b then Some (outcome_of t (map ws (range_with_len 0 n))) else run (bsp t) n k (phase (bsp t) n ws))
      go true rest = ap (λ o. Some o) (outcome_moved ws (range_with_len 0 n))
      go false rest = rest

  pub outcome_is : (input : List ℤ) (k : ℕ) → outcome_by u' k input ≡ outcome_by t k input
  outcome_is input k = run_moved (workers t) k (opening t input)
