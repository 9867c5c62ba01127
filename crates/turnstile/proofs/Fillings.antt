-- A worker at rest that writes one piece of its row stays at rest.
use Rattle.std.proofs.Common.{◌≡◌, ℕ, zero, suc, ◌+◌, ◌-◌, ◌*◌, ◌<◌, ◌≤◌, Bool, true, false, List, [], ◌∷◌, map, length, get_or, set}
use Rattle.std.proofs.Common.{replicate, sym, refl, ap, ◌∙◌, subst, deque_capacity, get_or-set_other, ◌≢◌, arith}
use mathlib.Core.Logic.{dite}
use native.Mathlib.Decide.{ℕ_discrete}
use lib.ListN.{length-map, length-replicate, get_or-replicate}
use lib.Seq.{ext_get_or, map-set}
use Rattle.exchange_arena.specs.Piece.{PieceState, emptied_piece}
use Rattle.exchange_arena.specs.Block.{piece_at}
use Rattle.std.specs.Bool.{OnTrue}
use Rattle.std.specs.Prelude.{nat_lt, if◌then◌else◌}
use Rattle.turnstile.specs.declared.views.Message.{Message}
use Rattle.turnstile.specs.declared.work.Work.{Work}
use Rattle.turnstile.specs.Blocks.{TwoBlocks, piece_of, even_block, odd_block}
use Rattle.turnstile.specs.Turns.{message, blank, slot}
use Rattle.turnstile.specs.Loads.{RowPlaced, ColumnPlaced}
use Rattle.turnstile.specs.Works.{Rested, done}

pub row_set : (blocks : TwoBlocks) (p w s k : ℕ) (xs : List PieceState) (i : ℕ) (x y : PieceState) → RowPlaced blocks p w s k xs →
    i < length xs → y ≡ get_or xs i y → emptied_piece x ≡ emptied_piece y → RowPlaced blocks p w s k (set xs i x)
row_set blocks p w s k [] i x y h lt e f = absurd (omega arith)
row_set blocks p w s k (z ∷ zs) zero x y h lt e f = (f ∙ ap emptied_piece e ∙ h.0, h.1)
row_set blocks p w s k (z ∷ zs) (suc i) x y h lt e f = (h.0, row_set blocks p w s (suc k) zs i x y h.1 (omega arith) e f)

pub still_rests : (k l : Work) → Rested k → l.chair ≡ k.chair → l.column ≡ k.column → l.worker ≡ k.worker → l.workers ≡ k.workers →
    l.round ≡ k.round → length l.row.items ≡ length k.row.items → deque_capacity l.row ≡ deque_capacity k.row
    → RowPlaced (done k).blocks k.workers k.worker (k.round + 1) 0 l.row.items → Rested l
still_rests k l h chair column wk ws rd len cap placed =
    let r : Rested record { chair = k.chair; row = l.row; column = k.column; worker = k.worker; workers = k.workers; round = k.round } =
    record {
      is_seated = h.is_seated;
      at = h.at;
      of = h.of;
      below = h.below;
      few = h.few;
      words = h.words;
      bound = h.bound;
      made = h.made;
      stays = h.stays;
      saw_all = h.saw_all;
      row = len ∙ h.row;
      column = h.column;
      row_room = subst (λ (z : ℕ). k.workers ≤ z) (sym cap) h.row_room;
      column_room = h.column_room;
      row_placed = placed;
      column_placed = h.column_placed;
      carries = h.carries;
      long = h.long;
      whole = h.whole;
      rows = h.rows;
      columns = h.columns;
    } in
    subst Rested (λ q. record {
      chair = sym chair q;
      row = l.row;
      column = sym column q;
      worker = sym wk q;
      workers = sym ws q;
      round =
          sym rd q;
    }) r

pub all_blank : (n : ℕ) (xs : List PieceState) → length xs ≡ n → ((k : ℕ) → k < n → get_or (map message xs) k blank ≡ blank) →
    map message xs ≡ replicate n blank
all_blank n xs len h = let a = length-map xs message ∙ len in let b = length-replicate n blank in
    ext_get_or blank (map message xs) (replicate n blank) (a ∙ sym b) (λ i lt. let lt' : i < n = subst (λ (z : ℕ). i < z) a lt in
    h i lt' ∙ sym (get_or-replicate n i blank blank lt'))

pub one_blank_more : (xs : List PieceState) (j : ℕ) (x : PieceState) → message x ≡ blank →
    ((k : ℕ) → k < j → get_or (map message xs) k blank ≡ blank) → (k : ℕ) → k < j + 1 → get_or (map message (set xs j x)) k blank ≡ blank
one_blank_more xs j x e h k lt =
    subst (λ (l : List Message). get_or l k blank ≡ blank) (sym (map-set message xs j x)) (dite (ℕ_discrete k j)
    (λ (s : k ≡ j). subst (λ (z : ℕ). get_or (set (map message xs) j (message x)) z blank ≡ blank) (sym s) (here (map message xs) j))
    (λ n. get_or-set_other (map message xs) j k (message x) blank n ∙ h k (let m : k ≢ j = n in omega arith)))
  where
    here : (l : List Message) (i : ℕ) → get_or (set l i (message x)) i blank ≡ blank
    here [] i = refl
    here (m ∷ ms) zero = e
    here (m ∷ ms) (suc i) = here ms i

pub piece_has_room : (blocks : TwoBlocks) (k : ℕ) → (piece_of blocks k).room ≡ blocks.room
piece_has_room blocks k = go (nat_lt k (blocks.side * blocks.side))
  where
    go : (b : Bool) → (if b then piece_at (even_block blocks) k else piece_at (odd_block blocks)
        (k - blocks.side * blocks.side)).room ≡ blocks.room
    go true = refl
    go false = refl

pub row_has_room : (blocks : TwoBlocks) (p w s k : ℕ) (xs : List PieceState) (i : ℕ) (y : PieceState) → RowPlaced blocks p w s k xs →
    i < length xs → y ≡ get_or xs i y → y.room ≡ blocks.room
row_has_room blocks p w s k [] i y h lt e = absurd (omega arith)
row_has_room blocks p w s k (z ∷ zs) zero y h lt e = ap (λ (q : PieceState). q.room) e ∙ ap (λ (q : PieceState). q.room) h.0
    ∙ piece_has_room blocks (slot p s w k)
row_has_room blocks p w s k (z ∷ zs) (suc i) y h lt e = row_has_room blocks p w s (suc k) zs i y h.1 (omega arith) e

pub column_has_room : (blocks : TwoBlocks) (p w s k : ℕ) (xs : List PieceState) (i : ℕ) (y : PieceState) → ColumnPlaced blocks p w s k xs →
    i < length xs → y ≡ get_or xs i y → y.room ≡ blocks.room
column_has_room blocks p w s k [] i y h lt e = absurd (omega arith)
column_has_room blocks p w s k (z ∷ zs) zero y h lt e = ap (λ (q : PieceState). q.room) e ∙ ap (λ (q : PieceState). q.room) h.0
    ∙ piece_has_room blocks (slot p s k w)
column_has_room blocks p w s k (z ∷ zs) (suc i) y h lt e = column_has_room blocks p w s (suc k) zs i y h.1 (omega arith) e

pub on_true : (b : Bool) (P Q : Type 0) → (P → Q) → OnTrue b P → OnTrue b Q
on_true true P Q f p = f p
on_true false P Q f p = p
