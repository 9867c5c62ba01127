-- The run of the workers goes exchange by exchange with that of the flat machine.
use Rattle.std.proofs.Common.{◌≡◌, ℕ, ◌<◌, List, [], ◌∷◌, map, refl, sym, ap, ◌∙◌}
use Rattle.std.specs.Prelude.{if◌then◌else◌}
use Rattle.std.specs.List.{range_with_len}
use Rattle.superstep_machine.specs.declared.mark.HeaderMark.TheVariants.{Clear}
use Rattle.superstep_machine.specs.Marks.{worse}
use Rattle.superstep_machine.specs.Setting.{Setting, workers}
use Rattle.superstep_machine.specs.Parts.{UniformPart}
use Rattle.superstep_machine.specs.Words.{Message}
use Rattle.superstep_machine.specs.Worker.{Worker}
use Rattle.superstep_machine.specs.Stretch.{Stop, ToSend, ToReply, ToVote, ToClose, Arrival, Nowhere, At}
use Rattle.superstep_machine.specs.Run.{Purpose, Sends, Replies, Votes, Closes, Way, On, Ending, Past, Refused, Lost, Ready, mark_now}
use Rattle.superstep_machine.specs.Run.{mark_of, ready, ready_at, ready_by, ready_with, is_held, message_for, message_of, key_of, decided}
use Rattle.superstep_machine.specs.Run.{after_exchange, after, is_over, verdict_by, state_of, cell_in, no_state, outcome_of, bsp, opening}
use Rattle.superstep_machine.specs.Run.{opening_worker}
use Rattle.superstep_machine.specs.Run as workers_run
use Rattle.flat_machine.specs.Flat.{Flat}
use Rattle.flat_machine.specs.ByExchanges as flat_run
use Rattle.flat_machine.specs.Flatness.{IsMapFor, plan}
use Rattle.flat_machine.proofs.Relation.{Splits}
use Rattle.flat_machine.proofs.Opening.{splits_same}
use Rattle.flat_machine.proofs.Instructions.{splits_instr}
use Rattle.flat_machine.proofs.Control.{ArrivedAs, until_splits}

abbrev pub numbers : Setting → List ℕ
numbers t = range_with_len 0 (workers t)

-- ---- messages

pub own_key : (t : Setting) (p : Purpose) (x : Worker) (j : ℕ) → (message_for t p x j).key ≡ x.key
own_key t Sends x j = refl
own_key t Replies x j = refl
own_key t (Votes d) x j = refl
own_key t Closes x j = refl

-- no mark is in them
pub none_marked : (f : ℕ → Message) → ((i : ℕ) → (f i).mark ≡ Clear) → (xs : List ℕ) → mark_of (map f xs) ≡ Clear
none_marked f h [] = refl
none_marked f h (x ∷ xs) = ap (λ m. worse m (mark_of (map f xs))) (h x) ∙ none_marked f h xs

module _ (t : Setting) (room : IsMapFor t.code t.map) where
  -- all workers stand where the flat machine does
  pub record Agree (s : flat_run.State) (ws : ℕ → workers_run.State) : Type 0 where
    pub splits : Splits t s.flat (λ w. (ws w).worker)
    pub place : (w : ℕ) → w < workers t → (ws w).place ≡ s.place
    pub way : (w : ℕ) → w < workers t → (ws w).way ≡ s.way
    pub unrefused : (w : ℕ) → w < workers t → (ws w).refusals ≡ []

  -- and come to one exchange
  pub record ReadyAs (r : flat_run.Ready) (rs : ℕ → Ready) : Type 0 where
    pub purpose : (w : ℕ) → w < workers t → (rs w).purpose ≡ r.purpose
    pub states : Agree r.state (λ w. (rs w).state)

  -- ---- up to the exchange

  module _ (s : flat_run.State) (ws : ℕ → workers_run.State) (a : Agree s ws) where
    ready_same : (r : flat_run.Ready) (rs qs : ℕ → Ready) → ((w : ℕ) → w < workers t → rs w ≡ qs w) → ReadyAs r rs → ReadyAs r qs
    ready_same r rs qs e h = record {
      purpose = λ w l. ap (λ (x : Ready). x.purpose) (sym (e w l)) ∙ h.purpose w l;
      states = record {
        splits = splits_same t room r.state.flat (λ w. (rs w).state.worker) (λ w. (qs w).state.worker)
            (λ w l. ap (λ (x : Ready). x.state.worker) (e w l)) h.states.splits;
        place = λ w l. ap (λ (x : Ready). x.state.place) (sym (e w l)) ∙ h.states.place w l;
        way = λ w l. ap (λ (x : Ready). x.state.way) (sym (e w l)) ∙ h.states.way w l;
        unrefused = λ w l. ap (λ (x : Ready). x.state.refusals) (sym (e w l)) ∙ h.states.unrefused w l;
      };
    }

    -- all stop in the same way
    stops : (stop : Stop) (place : ℕ) (f : Flat) (xs : ℕ → Worker) → Splits t f xs → ReadyAs (flat_run.ready_at s (At stop place f))
        (λ w. ready_at (ws w) (At stop place (xs w)))
    stops ToSend place f xs x = record {
      purpose = λ w l. refl;
      states = record {
        splits = x;
        place = λ w l. refl;
        way = a.way;
        unrefused =
            a.unrefused;
      };
    }
    stops ToReply place f xs x = record {
      purpose = λ w l. refl;
      states = record {
        splits = x;
        place = λ w l. refl;
        way = a.way;
        unrefused =
            a.unrefused;
      };
    }
    stops (ToVote d) place f xs x =
        record { purpose = λ w l. refl; states = record { splits = x; place = λ w l. refl; way = a.way; unrefused = a.unrefused } }
    stops (ToClose ended) place f xs x = record {
      purpose = λ w l. ap (λ (u : UniformPart). if is_held u.put then Sends else Closes) (x.uniform w l);
      states = record { splits = x; place = λ w l. refl; way = λ w l. refl; unrefused = a.unrefused };
    }

    arrives : (b : Arrival Flat) (each : ℕ → Arrival Worker) → ArrivedAs t (splits_instr t room) b each → ReadyAs (flat_run.ready_at s b)
        (λ w. ready_at (ws w) (each w))
    arrives Nowhere each h =
        ready_same _ (λ w. ready_at (ws w) Nowhere) _ (λ w l. ap (ready_at (ws w)) (sym (h w l)))
        (record {
          purpose = λ w l. refl;
          states = record {
            splits = a.splits;
            place = a.place;
            way = λ w l. refl;
            unrefused =
                a.unrefused;
          };
        })
    arrives (At stop place f) each h =
        ready_same _ (λ w. ready_at (ws w) (At stop place (h.0 w))) _ (λ w l. ap (ready_at (ws w)) (sym (h.1 w l)))
        (stops stop place f h.0 h.2)

    -- workers that are not on their way close
    closes : ReadyAs (record { purpose = Closes; state = s }) (λ w. record { purpose = Closes; state = ws w })
    closes = record { purpose = λ w l. refl; states = a }

    on_its_way : ReadyAs (flat_run.ready_by (plan t) s On) (λ w. ready_by t w (ws w) On)
    on_its_way =
        ready_same _ (λ w. ready_at (ws w) (workers_run.stretch t w (record (ws w) { place = s.place }))) _
        (λ w l. ap (λ k. ready_at (ws w) (workers_run.stretch t w (record (ws w) { place = k }))) (sym (a.place w l)))
        (arrives (flat_run.stretch (plan t) s) (λ w. workers_run.stretch t w (record (ws w) { place = s.place }))
        (until_splits t (splits_instr t room) t.code.instructions t.enough s.place s.flat (λ w. (ws w).worker) a.splits))

    pub readies : ReadyAs (flat_run.ready (plan t) s) (λ w. ready t w (ws w))
    readies = ready_same _ (λ w. ready_by t w (ws w) s.way) _ (λ w l. ap (ready_by t w (ws w)) (sym (a.way w l))
        ∙ ap (λ marks. ready_with t w (ws w) (mark_now marks)) (sym (a.unrefused w l))) (go s.way)
      where
        go : (way : Way) → ReadyAs (flat_run.ready_by (plan t) s way) (λ w. ready_by t w (ws w) way)
        go On = on_its_way
        go (Ending ended) = closes
        go (Past key ended) = closes
        go (Refused mark) = closes
        go Lost = closes
