-- What a run spends that holds each write back up to the next exchange of reads, or a cut: it is within the bound.
use Rattle.std.specs.Prelude.{◌≡◌, ℕ, zero, suc, ◌+◌, ◌*◌, List, [], ◌∷◌, ◌++◌, Bool, true, false, not, ◌&&◌, ◌||◌}
use Rattle.exchange_bound.specs.Events.{Event, Runs, Cut, Votes}
use Rattle.exchange_bound.specs.Bound.{alone, one_if, shares}

-- whether there is a level of reads
abbrev pub any_level : ℕ → Bool
any_level zero = false
any_level (suc k) = true

-- Whether a write is held behind an event, by whether one was before. A statement that writes holds its own; the reads of a
-- statement send what was held.
abbrev pub held_after : Event → Bool → Bool
held_after (Runs levels writes set reads) held = writes || (held && not (any_level levels))
held_after Cut held = false
held_after Votes held = held

-- What an event exchanges. A write that must go before the next one, and has no reads to go with, is sent by itself; so it is at a cut.
abbrev pub spent_by : Event → Bool → ℕ
spent_by (Runs levels writes set reads) held = 2 * levels + one_if (held && writes && not (any_level levels))
spent_by Cut held = one_if held
spent_by Votes held = 1

-- behind some events
abbrev pub held_behind : List Event → Bool → Bool
held_behind [] held = held
held_behind (e ∷ es) held = held_behind es (held_after e held)

-- and what they exchange together
abbrev pub spent : List Event → Bool → ℕ
spent [] held = 0
spent (e ∷ es) held = spent_by e held + spent es (held_after e held)

-- ---- laws

-- both go through a list that is put together of two
abbrev pub HeldJoins : Type 0
HeldJoins = (xs ys : List Event) (held : Bool) → held_behind (xs ++ ys) held ≡ held_behind ys (held_behind xs held)

abbrev pub SpentJoins : Type 0
SpentJoins = (xs ys : List Event) (held : Bool) → spent (xs ++ ys) held ≡ spent xs held + spent ys (held_behind xs held)

-- With one exchange for a write that is still held at the end, all that is spent is the sum of the shares, and one for a write held at
-- the beginning if that goes alone.
abbrev pub SpentIsShared : Type 0
SpentIsShared = (es : List Event) (held : Bool) →
    spent es held + one_if (held_behind es held) ≡ shares es + one_if (held && alone es)
