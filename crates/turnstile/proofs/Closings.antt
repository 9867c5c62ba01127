-- What is known once all seats were taken in.
use Rattle.std.proofs.Common.{◌≡◌, ℕ, zero, suc, ◌*◌, ◌<◌, ◌≤◌, ◌≢◌, true, List, [], ◌∷◌, map, length, Option, Some, slice_get, sym, refl}
use Rattle.std.proofs.Common.{ap, ◌∙◌, subst, arith}
use mathlib.Core.Logic.{dite}
use mathlib.Core.Option.{none, some, some-injective, some-ne-none}
use mathlib.Core.Option as maybe
use native.Mathlib.Decide.{dec_le}
use lib.ListN.{get_elem?, length-map}
use Rattle.std.specs.Prelude.{All}
use Rattle.atomic_table.specs.Table.{Final, Seen}
use Rattle.atomic_table.proofs.Lists.{at_map}
use Rattle.exchange_arena.specs.Piece.{PieceState}
use Rattle.turnstile.specs.declared.work.Work.{Work}
use Rattle.turnstile.specs.declared.views.Message.{Message}
use Rattle.turnstile.specs.declared.views.Worker.{Worker}
use Rattle.turnstile.specs.declared.views.View.{View}
use Rattle.turnstile.specs.Blocks.{TwoBlocks, Laid}
use Rattle.turnstile.specs.Turns.{entry, keeper, Holds}
use Rattle.turnstile.specs.Loads.{told_all, value}
use Rattle.turnstile.specs.Seats.{RowState, SamePhases, ReceivedAsSent, AreWhole}
use Rattle.turnstile.specs.Works.{rows_of, columns_of, row_state, Rested}
use Rattle.turnstile.specs.Closings.{AreWorksOf, gone}
use Rattle.turnstile.proofs.Comings.{received_is_sent, same_phases, all_laid}
use Rattle.turnstile.proofs.Rosters.{elem_of_get, works_count, work_of}
use Rattle.std.proofs.lemmas.Option.{slice_get_within}

from_map : {A B : Type 0} (f : A → B) (l : List A) (k : ℕ) (y : B) → get_elem? (map f l) k ≡ some y → (x : A) × (f x ≡ y)
from_map f [] k y e = absurd (some-ne-none y (sym e))
from_map f (x ∷ xs) zero y e = (x, some-injective (f x) y e)
from_map f (x ∷ xs) (suc k) y e = from_map f xs k y e

entry_told : (rs : List (List Message)) (s i : ℕ) (m : Message) → entry rs s i ≡ some m → entry (told_all rs) s i ≡ some (Some m)
entry_told [] s i m e = absurd (some-ne-none m (sym e))
entry_told (r ∷ rs) zero i m e = at_map Some r i m e
entry_told (r ∷ rs) (suc s) i m e = entry_told rs s i m e

entry_beyond : (rs : List (List Message)) (s i : ℕ) → length rs ≤ s → entry rs s i ≡ none
entry_beyond [] s i h = refl
entry_beyond (r ∷ rs) zero i h = absurd (omega arith)
entry_beyond (r ∷ rs) (suc s) i h = entry_beyond rs s i (omega arith)

got_some : {A : Type 0} (l : List A) (i : ℕ) → i < length l → get_elem? l i ≢ none
got_some [] i lt e = absurd (omega arith)
got_some (x ∷ xs) zero lt e = some-ne-none x e
got_some (x ∷ xs) (suc i) lt e = got_some xs i (omega arith) e

entry_there : (p : ℕ) (rs : List (List Message)) (s i : ℕ) → All (λ r. length r ≡ p) rs → s < length rs → i < p → entry rs s i ≢ none
entry_there p [] s i wide ls li = absurd (omega arith)
entry_there p (r ∷ rs) zero i wide ls li = got_some r i (subst (λ (z : ℕ). i < z) (sym (wide zero [] (omega arith))) li)
entry_there p (r ∷ rs) (suc s) i wide ls li = entry_there p rs s i (λ k d lt. wide (suc k) d (omega arith)) (omega arith) li

module _ (blocks : TwoBlocks) (p : ℕ) (ws : List ℕ) (ys : List (Option PieceState)) (id : ℕ) (v : View) (seats : List RowState)
    (works : List Work) (of : AreWorksOf seats works) (v_is : v ≡ keeper blocks p p (map gone works)) (len : length seats ≡ p)
    (end : Final (Seen (Holds blocks p) id v) ws ys) where
  all : length v.team ≡ p
  all = ap (λ (z : View). length z.team) v_is ∙ length-map works gone ∙ works_count seats works of ∙ len

  team_of : (k : ℕ) (w : Work) → slice_get works k ≡ Some w → get_elem? v.team k ≡ some (gone w)
  team_of k w e = ap (λ (z : View). get_elem? z.team k) v_is ∙ at_map gone works k w (elem_of_get works k w e)

  left : (k : ℕ) (x : Worker) → get_elem? v.team k ≡ some x → x.left ≡ true
  left k x e = let q = from_map gone works k x (ap (λ (z : View). get_elem? z.team k) (sym v_is) ∙ e) in
      ap (λ (z : Worker). z.left) (sym q.1)

  behind : (k : ℕ) (r : RowState) → slice_get seats k ≡ Some r → (w : Work) × (slice_get works k ≡ Some w) × (row_state w ≡ r)
  behind k r e = work_of works k r (ap (λ (l : List RowState). slice_get l k) of.shown ∙ e)

  pub laid_out : Laid blocks (2 * p * p) ys
  laid_out = all_laid blocks p ws ys id v (ap (λ (z : View). z.kind) v_is) all (ap (λ (z : View). z.mine.at) v_is) end left

  phases_of : (i j : ℕ) (a b : Work) → slice_get works i ≡ Some a → slice_get works j ≡ Some b → length (rows_of a) ≡ length (rows_of b)
  phases_of i j a b ea eb = same_phases blocks p ws ys id v (ap (λ (z : View). z.kind) v_is) all (ap (λ (z : View). z.mine.at) v_is) end
      left i j (gone a) (gone b) (team_of i a ea) (team_of j b eb)

  pub phases_same : SamePhases seats
  phases_same i j a b ea eb = let x = behind i a ea in let y = behind j b eb in
      ap (λ (r : RowState). length r.sent) (sym x.2) ∙ phases_of i j x.0 y.0 x.1 y.1 ∙ ap (λ (r : RowState). length r.sent) y.2

  exchanged : ((k : ℕ) (w : Work) → slice_get works k ≡ Some w → w.workers ≡ p) → (i j : ℕ) (a b : Work) → slice_get works i ≡ Some a →
      slice_get works j ≡ Some b → (s : ℕ) → entry (columns_of b) s i ≡ entry (rows_of a) s j
  exchanged wide i j a b ea eb s =
      let same = phases_of i j a b ea eb in let h : Rested b = of.rested j b eb in
      dite (dec_le (suc s) b.round)
      (λ near. by_cases h near (entry (columns_of b) s i) refl)
      (λ far. let f : ℕ = b.round in let c : ℕ = length (columns_of b) in let l : ℕ = length (rows_of a) in let l' : ℕ =
      length (rows_of b) in
      let c' : c ≡ f = length-map _ (map value) ∙ h.long in let m : l' ≡ f = h.made in let e : l ≡ l' = same in
      entry_beyond (columns_of b) s i (let r : c ≤ s = omega arith in r)
      ∙ sym (entry_beyond (rows_of a) s j (let r : l ≤ s = omega arith in r)))
    where
      i_below : i < p
      i_below = let lt = slice_get_within works i a ea in let c = works_count seats works of ∙ len in subst (λ (z : ℕ). i < z) c lt

      by_cases : Rested b → s < b.round → (o : maybe.Option Message) → entry (columns_of b) s i ≡ o →
          entry (columns_of b) s i ≡ entry (rows_of a) s j
      by_cases h near none e = absurd (entry_there b.workers (columns_of b) s i h.columns
          (let c = length-map _ (map value) ∙ h.long in subst (λ (z : ℕ). s < z) (sym c) near)
          (subst (λ (z : ℕ). i < z) (sym (wide j b eb)) i_below) e)
      by_cases h near (some m) e = e
          ∙ sym (received_is_sent blocks p ws ys id v (ap (λ (z : View). z.kind) v_is) all (ap (λ (z : View). z.mine.at) v_is) end i j s
          (gone a) (gone b) m (team_of i a ea) (team_of j b eb)
          (ap (λ z. entry z s i) h.whole ∙ entry_told (columns_of b) s i m e))

  pub received_as_sent : ((k : ℕ) (w : Work) → slice_get works k ≡ Some w → w.workers ≡ p) → ReceivedAsSent seats
  received_as_sent wide i j a b ea eb s = let x = behind i a ea in let y = behind j b eb in
      ap (λ (r : RowState). entry r.received s i) (sym y.2) ∙ exchanged wide i j x.0 y.0 x.1 y.1 s
      ∙ ap (λ (r : RowState). entry r.sent s j) x.2

  pub all_whole : AreWhole seats
  all_whole k r e = let x = behind k r e in let h : Rested x.0 = of.rested k x.0 x.1 in
      subst Rattle.turnstile.specs.Seats.IsWhole x.2 (record {
        phases = length-map _ (map value) ∙ h.long ∙ sym h.made;
        rows = h.rows;
        columns = h.columns;
      })

  -- each work has the table's number of workers
  pub workers_of : (id' : Rattle.atomic_table.specs.Seated.TableId) → id'.words ≡ p →
      ((k : ℕ) (r : RowState) → slice_get seats k ≡ Some r → r.table ≡ id') → (k : ℕ) (w : Work) → slice_get works k ≡ Some w →
      w.workers ≡ p
  workers_of id' words tables k w e = let h : Rested w = of.rested k w e in
      sym h.words ∙ ap (λ z. z.words) (tables k (row_state w) (seat_of works k w e)) ∙ words
    where
      shown_at : (vs : List Work) (n : ℕ) (u : Work) → slice_get vs n ≡ Some u → slice_get (map row_state vs) n ≡ Some (row_state u)
      shown_at [] n u q = absurd (cc)
      shown_at (x ∷ xs) zero u q = let g : Option.Some x ≡ Some u = q in let t : x ≡ u = cc in ap (λ (z : Work). Some (row_state z)) t
      shown_at (x ∷ xs) (suc n) u q = shown_at xs n u q

      seat_of : (vs : List Work) (n : ℕ) (u : Work) → slice_get works n ≡ Some u → slice_get seats n ≡ Some (row_state u)
      seat_of vs n u q = ap (λ (l : List RowState). slice_get l n) (sym of.shown) ∙ shown_at works n u q
