-- What is known of the seats that were taken in.
use Rattle.std.specs.Prelude.{◌≡◌, ℕ, List, map, Some, slice_get}
use Rattle.turnstile.specs.declared.views.Worker.{Worker}
use Rattle.turnstile.specs.declared.work.Work.{Work}
use Rattle.turnstile.specs.Seats.{RowState}
use Rattle.turnstile.specs.Turns.{departed}
use Rattle.turnstile.specs.Works.{done, Rested, row_state}

-- what the seats were made of
pub record AreWorksOf (seats : List RowState) (works : List Work) : Type 0 where
  pub shown : map row_state works ≡ seats
  pub rested : (k : ℕ) (w : Work) → slice_get works k ≡ Some w → Rested w

-- the worker of a seat that was taken in
abbrev pub gone : Work → Worker
gone w = departed (done w)
