-- How many exchanges a program's run takes, at most: the bound on its supersteps.
-- The cost of a run by its supersteps: Valiant, A bridging model for parallel computation (1990). What is counted here is their number
-- alone.
use Rattle.std.specs.Prelude.{ℕ, zero, suc, ◌+◌, ◌*◌, List, [], ◌∷◌, Bool, true, false, ◌&&◌, ℤ}
use Rattle.pram_check.specs.Checked.{Checked}
use Rattle.exchange_bound.specs.Events.{Event, Runs, Cut, Votes, events_of}

-- A write before these goes alone: the next statement of its stretch that touches shared memory has no shared read, or there is none. A
-- stretch ends at a cut.
abbrev pub alone : List Event → Bool
alone [] = true
alone (Runs zero true set reads ∷ es) = true
alone (Runs zero false set reads ∷ es) = alone es
alone (Runs (suc k) writes set reads ∷ es) = false
alone (Cut ∷ es) = true
alone (Votes ∷ es) = alone es

-- one exchange, if so
abbrev pub one_if : Bool → ℕ
one_if true = 1
one_if false = 0

-- Two exchanges for each level of reads of a statement, one that asks and one that answers; one for a write that goes alone; and one for
-- each vote.
abbrev pub shares : List Event → ℕ
shares [] = 0
shares (Runs levels writes set reads ∷ es) = 2 * levels + one_if (writes && alone es) + shares es
shares (Cut ∷ es) = shares es
shares (Votes ∷ es) = 1 + shares es

-- and one for the close of the run
abbrev pub exchange_bound : Checked → List ℤ → ℕ → ℕ
exchange_bound p input n = 1 + shares (events_of p input n)
