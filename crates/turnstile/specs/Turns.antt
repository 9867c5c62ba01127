-- The rule of the turnstile, and what each of its steps does and tells.
-- Phase s uses block s % 2, and `slot` says where its piece (i, j) lies. A parcel (i, j, s) is what i gives to j by its
-- Finish of phase s: its piece (i, j) of phase s, and j's piece (j, i) of the other block.
-- Phase 0 stands for the start: each worker finds the pieces of its first row, and an empty column, as parcels of phase 0.
use Rattle.std.specs.Prelude.{◌≡◌, ℕ, All, zero, suc, ◌+◌, ◌-◌, ◌*◌, ◌%◌, ◌<◌, ◌≤◌, Bool, true, false, List, [], ◌∷◌, ◌++◌, length}
use Rattle.std.specs.Prelude.{replicate, Option, Some, None, slice_index, slice_index_or, slice_set}
use mathlib.Core.Option.{none, some}
use mathlib.Core.Option as maybe
use lib.ListN.{get_elem?}
use Rattle.atomic_table.specs.Table.{State, Me, Step}
use Rattle.exchange_arena.specs.Piece.{PieceState, zero_header}
use Rattle.turnstile.specs.Blocks.{TwoBlocks, nowhere, BelongsIn}
use Rattle.turnstile.specs.declared.views.Message.{Message}
use Rattle.turnstile.specs.declared.views.Worker.{Worker}
use Rattle.turnstile.specs.declared.views.Kind.{Kind}
use Rattle.turnstile.specs.declared.views.Kind.TheVariants.{Spent, Keeper, Seated}
use Rattle.turnstile.specs.declared.views.View.{View}

abbrev pub message : PieceState → Message
message x = record { header = x.header; words = x.words }

abbrev pub blank : Message
blank = record { header = zero_header; words = [] }

abbrev pub message_of : Option PieceState → Message
message_of (Some x) = message x
message_of None = blank

module _ {A : Type 0} where
  -- entry i of row s
  abbrev pub entry : List (List A) → ℕ → ℕ → maybe.Option A
  entry [] s i = none
  entry (r ∷ rs) zero i = get_elem? r i
  entry (r ∷ rs) (suc s) i = entry rs s i

  abbrev pub with_entry : List (List A) → ℕ → ℕ → A → List (List A)
  with_entry [] s i a = []
  with_entry (r ∷ rs) zero i a = slice_set r i a ∷ rs
  with_entry (r ∷ rs) (suc s) i a = r ∷ with_entry rs s i a

abbrev pub weight : Bool → ℕ
weight true = 1
weight false = 0

abbrev pub slot : ℕ → ℕ → ℕ → ℕ → ℕ
slot p s i j = (s % 2 * p + i) * p + j

abbrev pub saw : Worker → ℕ → Bool
saw x i = slice_index_or x.seen i false

abbrev pub phase : Worker → ℕ
phase x = length x.sent

-- how many parcels of i the worker has taken
abbrev pub taken : Worker → ℕ → ℕ
taken x i = phase x + weight (saw x i)

-- the worker has taken what i gave to it in the phase that its histories have at s
abbrev pub HasTaken : Worker → ℕ → ℕ → Type 0
HasTaken x i s = s + 1 < taken x i

-- how many parcels the worker has given to each
abbrev pub given : Worker → ℕ
given x = phase x + 1 + weight x.left

abbrev pub Homes : Type 0
Homes = List (maybe.Option (Option PieceState))

abbrev pub Carried : Type 0
Carried = List (ℕ × Option PieceState)

pub record Parcel (blocks : TwoBlocks) (p : ℕ) (homes : Homes) (giver : Worker) (i j s : ℕ) : Type 0 where
  pub piece : PieceState
  pub back : PieceState
  pub piece_home : get_elem? homes (slot p s i j) ≡ some (some (Some piece))
  pub back_home : get_elem? homes (slot p (s + 1) j i) ≡ some (some (Some back))
  pub piece_place : BelongsIn blocks (slot p s i j) piece
  pub back_place : BelongsIn blocks (slot p (s + 1) j i) back
  pub carries : 1 ≤ s → s ≤ phase giver → entry giver.sent (s - 1) j ≡ some (message piece)

-- What holds of the words, the slots at home and the workers between any two steps
pub record Sound (blocks : TwoBlocks) (p : ℕ) (words : List ℕ) (homes : Homes) (team : ℕ → Worker) : Type 0 where
  pub wide : length words ≡ p
  pub room : length homes ≡ 2 * p * p
  pub counts : (w : ℕ) → w < p → slice_index words w ≡ phase (team w)
  pub rows : (w : ℕ) → w < p → length (team w).received ≡ phase (team w)
  pub looks : (w : ℕ) → w < p → length (team w).seen ≡ p
  pub near : (j i : ℕ) → j < p → i < p → taken (team j) i ≤ phase (team i) + 1
  pub leaves : (w i : ℕ) → w < p → i < p → (team w).left ≡ true → saw (team w) i ≡ true
  pub parcels : (i j s : ℕ) → i < p → j < p → taken (team j) i ≤ s → s < given (team i)
      → Parcel blocks p homes (team i) i j s
  pub told : (j i s : ℕ) (m : Message) → j < p → i < p → entry (team j).received s i ≡ some (Some m)
      → entry (team i).sent s j ≡ some m
  pub columns : (w : ℕ) → w < p → All (λ column. length column ≡ p) (team w).received
  pub filled : (j i s : ℕ) → j < p → i < p → HasTaken (team j) i s → (m : Message)
      × (entry (team j).received s i ≡ some (Some m))

abbrev pub newcomer : TwoBlocks → ℕ → ℕ → Worker
newcomer blocks p k = record {
  at = k;
  workers = p;
  blocks = blocks;
  sent = [];
  received = [];
  seen = replicate p false;
  left = false;
}

abbrev pub keeper : TwoBlocks → ℕ → ℕ → List Worker → View
keeper blocks p k xs = record { kind = Keeper; mine = newcomer blocks p k; team = xs }

abbrev pub seated : Worker → View
seated x = record { kind = Seated; mine = x; team = [] }

abbrev pub spent_view : View
spent_view = record { kind = Spent; mine = newcomer nowhere 0 0; team = [] }

module _ (blocks : TwoBlocks) (p : ℕ) (team : ℕ → Worker) (seats : ℕ → ℕ) (id : ℕ) where
  abbrev pub Has : ℕ → Worker → Type 0
  Has k x = (seats k ≡ id) × (team k ≡ x)

  abbrev pub FitsAs : Kind → Worker → List Worker → Type 0
  FitsAs Spent x xs = Unit {0}
  FitsAs Seated x xs = (x.at < p) × (x.workers ≡ p) × Has x.at x × (x.blocks ≡ blocks)
  FitsAs Keeper x xs = (x.workers ≡ p) × (x.at ≤ p) × (length xs ≤ x.at) × ((k : ℕ) → x.at ≤ k → k < p
      → Has k (newcomer blocks p k)) × ((k : ℕ) (y : Worker) → get_elem? xs k ≡ some y
      → Has (x.at - length xs + k) y) × (x.blocks ≡ blocks)

pub record Holds (blocks : TwoBlocks) (p : ℕ) (s : State (Option PieceState) View) : Type 0 where
  pub team : ℕ → Worker
  pub seats : ℕ → ℕ
  pub some_worker : 0 < p
  pub sound : Sound blocks p s.words s.homes team
  pub fits : (id : ℕ) (v : View) → get_elem? s.views id ≡ some v → FitsAs blocks p team seats id v.kind v.mine v.team

-- what a Look at i leaves of a worker, where it found the message m
abbrev pub looked : Worker → ℕ → Message → Worker
looked x i m = record {
  at = x.at;
  workers = x.workers;
  blocks = x.blocks;
  sent = x.sent;
  received = with_entry x.received (phase x - 1) i (Some m);
  seen = slice_set x.seen i true;
  left = x.left;
}

-- what a Finish leaves of a worker, where its row is ms
abbrev pub finished : Worker → List Message → Worker
finished x ms = record {
  at = x.at;
  workers = x.workers;
  blocks = x.blocks;
  sent = x.sent ++ ms
      ∷ [];
  received = x.received ++ replicate x.workers None ∷ [];
  seen = replicate x.workers false;
  left = x.left;
}

abbrev pub departed : Worker → Worker
departed x = record {
  at = x.at;
  workers = x.workers;
  blocks = x.blocks;
  sent = x.sent;
  received = x.received;
  seen = x.seen;
  left = true;
}

-- A seat that is about to finish holds, for each worker, a slot of its row and one of its column
abbrev pub letters : Carried → List Message
letters [] = []
letters (a ∷ []) = []
letters (a ∷ b ∷ c) = message_of a.1 ∷ letters c

abbrev Seat' : Type 0
Seat' = Me (Option PieceState) View

abbrev pub Got : Seat' → ℕ → Seat' → Type 0
Got m i m' =
    let x : Worker = m.0.mine in
    (a : PieceState) × (b : PieceState)
    × (m' ≡ (
      seated (looked x i (message a)),
      (slot x.workers (phase x + 1) x.at i, Some b)
          ∷ (slot x.workers (phase x) i x.at, Some a) ∷ m.1,
    ))
    × BelongsIn x.blocks (slot x.workers (phase x) i x.at) a
    × BelongsIn x.blocks (slot x.workers (phase x + 1) x.at i) b

abbrev pub looks_at : Step (Option PieceState) → Seat' → ℕ → Seat' → Type 0
looks_at st m r m' = (r < phase m.0.mine → m' ≡ m) × (phase m.0.mine ≤ r → Got m st.word m')

abbrev pub finishes : Step (Option PieceState) → Seat' → ℕ → Seat' → Type 0
finishes st m r m' = m' ≡ (seated (finished m.0.mine (letters m.1)), [])

abbrev pub departs : Step (Option PieceState) → Seat' → ℕ → Seat' → Type 0
departs st m r m' = m' ≡ (seated (departed m.0.mine), [])

abbrev pub next_keeper : View → View
next_keeper v = keeper v.mine.blocks v.mine.workers (v.mine.at + 1) v.team

abbrev pub next_worker : View → View
next_worker v = seated (newcomer v.mine.blocks v.mine.workers v.mine.at)

abbrev pub taken_in : View → View → View
taken_in v w = keeper v.mine.blocks v.mine.workers v.mine.at (w.mine ∷ v.team)

-- who takes in the seats at the end
abbrev pub collects : Step (Option PieceState) → Seat' → ℕ → Seat' → Type 0
collects st m r m' = m' ≡ (keeper m.0.mine.blocks m.0.mine.workers m.0.mine.workers [], [])
