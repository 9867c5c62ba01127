-- What is so of every state that a worker may come to.
use Rattle.std.proofs.Common.{◌≡◌, ℕ, zero, suc, List, [], ℤ, refl, sym, subst}
use Rattle.superstep_instructions.specs.Limits.{IsCode}
use Rattle.superstep_machine.specs.declared.mark.HeaderMark.{HeaderMark}
use Rattle.superstep_machine.specs.declared.mark.HeaderMark.TheVariants.{Clear, OutOfMemory, OutOfReserve}
use Rattle.superstep_machine.specs.Setting.{Setting}
use Rattle.superstep_machine.specs.Worker.{Worker}
use Rattle.superstep_machine.specs.Stretch.{Stop, ToSend, ToReply, ToVote, ToClose, Arrival, Nowhere, At}
use Rattle.superstep_machine.specs.Run as machine
use Rattle.bsp_verify.specs.declared.state.State as states
use Rattle.bsp_verify.specs.WellFormed.{IsWellFormed}
use Rattle.bsp_verify.specs.Paths.{IsWithin}
use Rattle.bsp_verify.specs.Moments.{DescribesWorker}
use Rattle.bsp_verify.proofs.PathLemmas.{paths_sound}
use Rattle.bsp_verify.proofs.RunLemmas.{Stops, Arrives, follow, Agrees, next_agrees, begins}
use Rattle.flat_machine.specs.Flatness.{IsMapFor}
use Rattle.machine_limits.specs.Within.{AreValues}
use Rattle.machine_limits.proofs.Keeping.{IsKept}
use Rattle.machine_limits.proofs.Runs.{KeptAt, until_kept, keeps, readies_kept, after_kept, none_kept}
use Rattle.worker_exchange.specs.Reached.{IsReached}

-- a worker that fits in words, with a path to its place
pub record IsPathed (t : Setting) (w : ℕ) (y : Worker) : Type 0 where
  pub kept : IsKept t w y
  pub state : states.State
  pub describes : DescribesWorker t w state y
  pub within : IsWithin state

module _ (t : Setting) (code : IsCode t.code) (room : IsMapFor t.code t.map) (formed : IsWellFormed t.code) (w : ℕ) where
  on_path : (stop : Stop) (place : ℕ) (y : Worker) → Stops t formed w stop place y → IsKept t w y → IsPathed t w y
  on_path stop place y p k =
      let q = p.there in record {
        kept = k;
        state = q.point.state;
        describes = q.describes;
        within = (paths_sound t.code formed q.steps q.point q.comes).within;
      }

  begins_kept : (input : List ℤ) → AreValues (machine.opening t input w).worker.cells → IsKept t w (machine.opening t input w).worker
  begins_kept input values =
      let none = none_kept t w in record {
        uniform = none.uniform;
        own = tt;
        cells = values;
        writes = tt;
        few_own = none.few_own;
        few_held = none.few_held;
      }

  pub reached_kept : (n : ℕ) (s : machine.State) → IsReached t w n s → IsKept t w s.worker
  reached_kept zero s (input, values, e) = subst (λ (q : machine.State). IsKept t w q.worker) (sym e) (begins_kept input values)
  reached_kept (suc n) s (before, column, r, values, e) =
      subst (λ (q : machine.State). IsKept t w q.worker) (sym e)
      (after_kept t code room w (machine.ready t w before) column (readies_kept t code room w before (reached_kept n before r)) values)

  pub reached_agrees : (n : ℕ) (s : machine.State) → IsReached t w n s → Agrees t formed w s
  reached_agrees zero s (input, values, e) = subst (Agrees t formed w) (sym e) (begins t formed w input)
  reached_agrees (suc n) s (before, column, r, values, e) =
      subst (Agrees t formed w) (sym e) (next_agrees t formed w column before (reached_agrees n before r))

  -- where an exchange doesn't end its run it fits in words
  pathed_at : (s : machine.State) (a : Arrival Worker) → Arrives t formed w a → KeptAt t code w (IsKept t w) (keeps t code room w) a →
      ((machine.ready_at s a).purpose ≡ machine.Closes → ⊥) → IsPathed t w (machine.ready_at s a).state.worker
  pathed_at s Nowhere p k h = absurd (h refl)
  pathed_at s (At ToSend place y) p k h = on_path ToSend place y p k
  pathed_at s (At ToReply place y) p k h = on_path ToReply place y p k
  pathed_at s (At (ToVote d) place y) p k h = on_path (ToVote d) place y p k
  pathed_at s (At (ToClose ended) place y) p k h = on_path (ToClose ended) place y p k

  pub ready_pathed : (n : ℕ) (s : machine.State) → IsReached t w n s → ((machine.ready t w s).purpose ≡ machine.Closes → ⊥) →
      IsPathed t w (machine.ready t w s).state.worker
  ready_pathed n s r = marks (machine.mark_now s.refusals)
    where
      go : (way : machine.Way) → s.way ≡ way → ((machine.ready_by t w s way).purpose ≡ machine.Closes → ⊥) →
          IsPathed t w (machine.ready_by t w s way).state.worker
      go machine.On e =
          pathed_at s (machine.stretch t w s) (follow t formed w t.enough s.place s.worker (reached_agrees n s r e))
          (until_kept t code w (IsKept t w) (keeps t code room w) t.enough s.place s.worker (reached_kept n s r))
      go (machine.Ending ended) e = λ h. absurd (h refl)
      go (machine.Past key ended) e = λ h. absurd (h refl)
      go (machine.Refused mark) e = λ h. absurd (h refl)
      go machine.Lost e = λ h. absurd (h refl)

      marks : (mark : HeaderMark) → ((machine.ready_with t w s mark).purpose ≡ machine.Closes → ⊥) →
          IsPathed t w (machine.ready_with t w s mark).state.worker
      marks Clear = go s.way refl
      marks OutOfMemory = λ h. absurd (h refl)
      marks OutOfReserve = λ h. absurd (h refl)

  pub exchange_pathed : (n : ℕ) (s : machine.State) → IsReached t w n s → s.refusals ≡ [] →
      ((machine.ready t w s).purpose ≡ machine.Closes → ⊥) → IsPathed t w (machine.ready t w s).state.worker
  exchange_pathed n s r clear = ready_pathed n s r
