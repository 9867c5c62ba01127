-- All workers of a run are under one control.
use Rattle.std.specs.Prelude.{◌≡◌, ℕ, ◌<◌, List, length, Option, Some, None, ℤ, slice_get}
use Rattle.superstep_machine.specs.Setting.{Setting, workers}
use Rattle.superstep_machine.specs.Parts.{PrivatePart}
use Rattle.superstep_machine.specs.Worker.{Worker}
use Rattle.superstep_machine.specs.Run.{State, ready}
use Rattle.bsp_verify.specs.Runs.{worker_after}
use Rattle.bsp_verify.specs.Moments.{moment}
use Rattle.flat_machine.specs.Flatness.{IsMapFor}

-- Two workers have the same uniform part: count, line, registers, range, what is held and awaited, and output; and all their processors
-- are under so many masks.
pub record AreAlike (x y : Worker) : Type 0 where
  pub uniform : x.uniform ≡ y.uniform
  pub depth : (i j : ℕ) (a b : PrivatePart) → slice_get x.own i ≡ Some a → slice_get y.own j ≡ Some b → length a.masks ≡ length b.masks

-- both have no such moment, or they are at one place in it
abbrev pub AreTogether : Option (ℕ × Worker) → Option (ℕ × Worker) → Type 0
AreTogether None None = Unit {0}
AreTogether (Some (place, x)) (Some (other, y)) = (place ≡ other) × AreAlike x y
AreTogether _ _ = ⊥

-- so are two workers between two exchanges, and what has ended has ended for both
pub record AreAtOne (s r : State) : Type 0 where
  pub place : s.place ≡ r.place
  pub way : s.way ≡ r.way
  pub alike : AreAlike s.worker r.worker

-- whatever the code: at every moment of a stretch ..
abbrev pub OneControlBetween : Type 0
OneControlBetween = (t : Setting) → IsMapFor t.code t.map → (input : List ℤ) (n m w v : ℕ) → w < workers t → v < workers t →
    AreTogether (moment t input n m w) (moment t input n m v)

-- .. at the next exchange, which is for the same ..
abbrev pub OneExchange : Type 0
OneExchange = (t : Setting) → IsMapFor t.code t.map → (input : List ℤ) (n w v : ℕ) → w < workers t → v < workers t →
    ((ready t w (worker_after t input n w)).purpose ≡ (ready t v (worker_after t input n v)).purpose)
    × AreAtOne (ready t w (worker_after t input n w)).state (ready t v (worker_after t input n v)).state

-- .. and behind it
abbrev pub OneControlAfter : Type 0
OneControlAfter = (t : Setting) → IsMapFor t.code t.map → (input : List ℤ) (n w v : ℕ) → w < workers t → v < workers t →
    AreAtOne (worker_after t input n w) (worker_after t input n v)
