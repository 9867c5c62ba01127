-- The histories of workers that exchanged are one run of the machine.
use Rattle.std.specs.Prelude.{◌≡◌, ℕ, suc, ◌<◌, List, map, ℤ}
use Rattle.superstep_machine.specs.Setting.{Setting, workers}
use Rattle.superstep_machine.specs.Words.{Message}
use Rattle.superstep_machine.specs.Run.{State, bsp, opening}
use Rattle.superstep_machine.specs.Trace.{exchanges_by}
use Rattle.bsp_verify.specs.Runs.{worker_after}
use Rattle.flat_machine.specs.Flatness.{IsMapFor}
use Rattle.worker_histories.specs.Histories.{IsPlayed, HaveExchanged, GoesOn, IsRun}
use Rattle.worker_histories.specs.Shares.{Share, share_of, shares}

-- The workers of the run from an input come to these ends by n exchanges, and have these parts of the exchanges.
pub record IsRunFrom (t : Setting) (input : List ℤ) (n : ℕ) (ends : ℕ → State) (parts : ℕ → List Share) : Type 0 where
  pub run : IsRun (bsp t) (workers t) n (opening t input) ends
  pub parts_are : (w : ℕ) → w < workers t → parts w ≡ map (share_of w) (exchanges_by t (suc n) input)

-- The workers of the run from an input are in these states behind n exchanges, before each of which it went on.
pub record IsRunSoFar (t : Setting) (input : List ℤ) (n : ℕ) (states : ℕ → State) : Type 0 where
  pub states_are : (w : ℕ) → w < workers t → states w ≡ worker_after t input n w
  pub going : GoesOn (bsp t) (workers t) n (opening t input)

-- Whatever the code, the bound, the input and the map: p histories, each of a worker's own steps from the opening, which exchanged, are the
-- run from that input.
abbrev pub HistoriesMakeARun : Type 0
HistoriesMakeARun = (t : Setting) → IsMapFor t.code t.map → (input : List ℤ) (n : ℕ) (ends : ℕ → State)
    (rows columns : ℕ → List (List Message)) → HaveExchanged (workers t) n rows columns →
    ((w : ℕ) → w < workers t → IsPlayed (bsp t) (workers t) w (opening t input w) (columns w) (rows w) (ends w)) →
    IsRunFrom t input n ends (λ w. shares t w (opening t input w) (columns w))
