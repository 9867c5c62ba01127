-- One exchange more at the end of a run, and the marks of messages.
use Rattle.std.proofs.Common.{◌≡◌, ℕ, suc, List, ℤ, refl, ap}
use Rattle.superstep_machine.specs.declared.mark.HeaderMark.{HeaderMark}
use Rattle.superstep_machine.specs.declared.mark.HeaderMark.TheVariants.{Clear, OutOfMemory, OutOfReserve}
use Rattle.superstep_machine.specs.Setting.{Setting, workers}
use Rattle.superstep_machine.specs.Machine.{column}
use Rattle.superstep_machine.specs.Run.{State, Ready, bsp, opening, after, ready, mark_now, message_with, message_of}
use Rattle.bsp_verify.specs.Runs.{worker_after}
use Rattle.superstep_machine.proofs.Refused.{with_mark}
use Rattle.worker_histories.proofs.Joining.{phase_more}

module _ (t : Setting) where
  -- the mark of a message is the one of the stretch before
  pub mark_sent : (w : ℕ) (s : State) (j : ℕ) → (message_of t w s j).mark ≡ mark_now s.refusals
  mark_sent w s j = with_mark t (ready t w s) j (mark_now s.refusals)

  -- the next state of a worker of the run
  pub state_more : (input : List ℤ) (k w : ℕ) → worker_after t input (suc k) w
      ≡ after t w (ready t w (worker_after t input k w)) (column (bsp t) (workers t) (worker_after t input k) w)
  state_more input k w = ap (λ ws. ws w) (phase_more (bsp t) (workers t) k (opening t input))
