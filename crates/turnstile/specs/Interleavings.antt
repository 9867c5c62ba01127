-- Every order in which the workers can make their steps, by the definitions of the table's rule.
-- A list has the newest event first.
use Rattle.std.specs.Prelude.{◌≡◌, ℕ, All, ◌+◌, ◌*◌, ◌<◌, Bool, true, false, List, [], ◌∷◌, map, length, replicate, Option, Some}
use Rattle.std.specs.Prelude.{slice_index, slice_set, nat_eq, nat_le, cond}
use mathlib.Core.Option.{none, some}
use mathlib.Core.Option as maybe
use lib.ListN.{get_elem?}
use Rattle.atomic_table.specs.Table.{State, Act, step, stepped, Valid, carried_after}
use Rattle.exchange_arena.specs.Piece.{PieceState}
use Rattle.turnstile.specs.declared.views.Message.{Message}
use Rattle.turnstile.specs.declared.views.Worker.{Worker}
use Rattle.turnstile.specs.declared.views.View.{View}
use Rattle.turnstile.specs.Blocks.{TwoBlocks}
use Rattle.turnstile.specs.Turns.{message, message_of, blank, entry, slot, saw, phase, HasTaken, Homes, Carried, Sound, seated, looked}
use Rattle.turnstile.specs.Turns.{finished}
use Rattle.turnstile.specs.Turns.{looks_at, finishes}
use Rattle.turnstile.specs.Loads.{RowPlaced, ColumnPlaced, loaded, homes_with}

-- a worker adds 1 to its own word, hands over a row and gives back a column; or it loads a worker's word
pub data Event : Type 0 where
  finish : ℕ → List PieceState → List PieceState → Event
  look : ℕ → ℕ → Event

pub record Core : Type 0 where
  pub words : List ℕ
  pub homes : Homes
  pub team : ℕ → Worker

abbrev pub changed : (ℕ → Worker) → ℕ → Worker → ℕ → Worker
changed team w x j = cond (nat_eq j w) x (team j)

abbrev pub piece_in : maybe.Option (maybe.Option (Option PieceState)) → Message
piece_in (some (some x)) = message_of x
piece_in _ = blank

module _ (blocks : TwoBlocks) where
  abbrev p : ℕ
  p = blocks.side

  -- the seats are parted, and each holds its first row and an empty column
  abbrev pub start : Core
  start = record {
    words = replicate p 0;
    homes = replicate (2 * p * p) none;
    team = λ k. record {
      at = k;
      workers = p;
      blocks = blocks;
      sent = [];
      received = [];
      seen = replicate p true;
      left = false;
    };
  }

  -- what w finds at i, where it finds a parcel
  abbrev pub seen_by : Core → ℕ → ℕ → Core
  seen_by c w i =
      let f : ℕ = phase (c.team w) in
      record {
        words = c.words;
        homes = slice_set (slice_set c.homes (slot p f i w) none) (slot p (f + 1) w i) none;
        team = changed c.team w (looked (c.team w) i (piece_in (get_elem? c.homes (slot p f i w))));
      }

  abbrev pub if_new : Bool → Bool → Core → Core → Core
  if_new true false new old = new
  if_new true true new old = old
  if_new false b new old = old

  -- the barrier after one act of a worker
  abbrev pub after : Core → Event → Core
  after c (finish w row back) =
      record {
        words = slice_set c.words w (slice_index c.words w + 1);
        homes = homes_with c.homes (loaded p w (phase (c.team w) + 1) 0 row back);
        team = changed c.team w (finished (c.team w) (map message row));
      }
  after c (look w i) = if_new (nat_le (phase (c.team w)) (slice_index c.words i)) (saw (c.team w) i) (seen_by c w i) c

  -- a worker finishes once it has seen every worker. A Look at one that it has seen tells nothing new
  abbrev pub May : Core → Event → Type 0
  May c (finish w row back) = (w < p) × ((i : ℕ) → i < p → saw (c.team w) i ≡ true) × (length row ≡ p)
      × (length back ≡ p)
      × RowPlaced blocks p w (phase (c.team w) + 1) 0 row × ColumnPlaced blocks p w (phase (c.team w) + 1 + 1) 0 back
  May c (look w i) = (w < p) × (i < p)

  abbrev pub run : List Event → Core
  run [] = start
  run (e ∷ es) = after (run es) e

  abbrev pub IsInterleaving : List Event → Type 0
  IsInterleaving [] = Unit {0}
  IsInterleaving (e ∷ es) = IsInterleaving es × May (run es) e

-- ---- the steps of the table

-- no slot of those is k
abbrev pub IsElsewhere : ℕ → Carried → Type 0
IsElsewhere k [] = Unit {0}
IsElsewhere k (x ∷ xs) = (k ≡ x.0 → ⊥) × IsElsewhere k xs

-- what a seat carries is out: no two of its slots are one, and none of them is at home
abbrev pub AreOut : Homes → Carried → Type 0
AreOut homes [] = Unit {0}
AreOut homes (x ∷ xs) = (get_elem? homes x.0 ≡ some none) × IsElsewhere x.0 xs × AreOut homes xs

-- a table with these workers, as the steps above see it
abbrev pub core_of : State (Option PieceState) View → (ℕ → Worker) → Core
core_of s team = record { words = s.words; homes = s.homes; team = team }

-- Whatever a seat gives and takes at the table when it adds 1 to its word, if it leaves as the table's rule says of a Finish,
-- then the table that it leaves is the one after the Finish above.
abbrev pub FinishesAreTheTables : Type 0
FinishesAreTheTables = (b : TwoBlocks) (s : State (Option PieceState) View) (team : ℕ →
    Worker) (slots w id : ℕ) (row back : List PieceState) (v : View)
    (a : Act (Option PieceState)) → let carried = loaded b.side w (phase (team w) + 1) 0 row back in let n = slice_index s.words w in
    length row ≡ length back → AreOut s.homes carried → Valid s.homes carried a
    → finishes (step slots w 1 0 none) (seated (team w), carried) n (v, carried_after carried a)
    → core_of (stepped s w (n + 1) id carried v a) (changed team w v.mine) ≡ after b (core_of s team) (finish w row back)

-- The same of a Look at a worker that wasn't seen in the phase.
abbrev pub LooksAreTheTables : Type 0
LooksAreTheTables = (b : TwoBlocks) (s : State (Option PieceState) View) (team : ℕ →
    Worker) (slots w i id : ℕ) (carried : Carried) (v : View)
    (a : Act (Option PieceState)) → let n = slice_index s.words i in
    (team w).at ≡ w → (team w).workers ≡ b.side → saw (team w) i ≡ false → AreOut s.homes carried → Valid s.homes carried a
    → looks_at (step slots i 0 0 none) (seated (team w), carried) n (v, carried_after carried a)
    → core_of (stepped s i n id carried v a) (changed team w v.mine) ≡ after b (core_of s team) (look w i)

-- ---- the law

-- the barrier's rule holds between two steps
abbrev pub KeepsRule : TwoBlocks → Core → Type 0
KeepsRule b c = Sound b b.side c.words c.homes c.team

-- The rule holds at the start, and behind every list of steps.
abbrev pub StepsKeepTheRule : Type 0
StepsKeepTheRule = (b : TwoBlocks) (es : List Event) → 0 < b.side → IsInterleaving b es → KeepsRule b (run b es)

-- And a Finish behind which the rule holds is one that the steps allow, whoever makes it, with whatever pieces for all workers.
abbrev pub FinishesByTheRuleAreAllowed : Type 0
FinishesByTheRuleAreAllowed = (b : TwoBlocks) (es : List Event) → 0 < b.side → IsInterleaving b es
    → (w : ℕ) (row back : List PieceState) → w < b.side → length row ≡ b.side → length back ≡ b.side
    → KeepsRule b (after b (run b es) (finish w row back)) → May b (run b es) (finish w row back)

-- what j has received from i in a phase is what i has sent to j in it, so where i has not come as far j has nothing
abbrev pub ReceivesWhatWasSent : Type 0
ReceivesWhatWasSent = (b : TwoBlocks) (es : List Event) → 0 < b.side → IsInterleaving b es
    → (j i s : ℕ) (m : Message) → j < b.side → i < b.side
    → entry ((run b es).team j).received s i ≡ some (Some m) → entry ((run b es).team i).sent s j ≡ some m

-- where j has taken what i gave to it in a phase, it has received a message from i
abbrev pub ReceivesFromEach : Type 0
ReceivesFromEach = (b : TwoBlocks) (es : List Event) → 0 < b.side → IsInterleaving b es → (j i s : ℕ) → j < b.side
    → i < b.side
    → HasTaken ((run b es).team j) i s → (m : Message) × (entry ((run b es).team j).received s i ≡ some (Some m))

-- a worker has one column for each of its phases, and each has one entry for each worker
abbrev pub HasWholeColumns : Type 0
HasWholeColumns = (b : TwoBlocks) (es : List Event) → 0 < b.side → IsInterleaving b es → (j : ℕ) → j < b.side
    → (length ((run b es).team j).received ≡ phase ((run b es).team j))
    × All (λ column. length column ≡ b.side) ((run b es).team j).received
