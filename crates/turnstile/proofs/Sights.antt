-- What a worker knows once it has seen one more.
use Rattle.std.proofs.Common.{◌≡◌, ℕ, zero, suc, ◌+◌, ◌-◌, ◌*◌, ◌%◌, ◌^◌, ◌<◌, ◌≤◌, true, false, Option, Some, None, List, [], ◌∷◌, ◌++◌}
use Rattle.std.proofs.Common.{map, length, get_or, set, take, replicate, sym, refl, ap, ◌∙◌, subst, length-append, length-set}
use Rattle.std.proofs.Common.{get_or-set_same, get_or-set_other, append_assoc, arith}
use mathlib.Core.Logic.{dite}
use mathlib.Core.List.{map-append}
use native.Mathlib.Decide.{ℕ_discrete}
use lib.ListN.{length-map}
use lib.Seq.{set-append_seam}
use Rattle.atomic_table.specs.Table.{Me, rest}
use Rattle.exchange_arena.specs.Piece.{PieceState, emptied_piece}
use Rattle.turnstile.specs.declared.views.Message.{Message}
use Rattle.turnstile.specs.declared.views.Worker.{Worker}
use Rattle.turnstile.specs.declared.views.View.{View}
use Rattle.turnstile.specs.declared.work.Work.{Work}
use Rattle.turnstile.specs.Blocks.{TwoBlocks, BelongsIn, piece_of}
use Rattle.turnstile.specs.Turns.{message, with_entry, slot, saw, phase, seated, looked, Got, Carried}
use Rattle.turnstile.specs.Loads.{RowPlaced, ColumnPlaced, emptied, opened}
use Rattle.turnstile.specs.Works.{done, before, rows_of, Seeing, IsSame}
use Rattle.turnstile.proofs.Grids.{length-with_entry}
use Rattle.turnstile.proofs.Gives.{emptied_end}

-- a slot is used again two phases later
pub slot_again : (p s i j : ℕ) → slot p s i j ≡ slot p (s + 1 + 1) i j
slot_again p s i j = let e : s % 2 ≡ (s + 1 + 1) % 2 = omega arith in ap (λ (z : ℕ). (z * p + i) * p + j) e

pub row_end : (blocks : TwoBlocks) (p w s k : ℕ) (xs : List PieceState) (x : PieceState) → RowPlaced blocks p w s k xs →
    BelongsIn blocks (slot p s w (k + length xs)) x → RowPlaced blocks p w s k (xs ++ x ∷ [])
row_end blocks p w s k [] x h e = (e ∙ (let z : k + 0 ≡ k = omega arith in ap (λ (n : ℕ). piece_of blocks (slot p s w n)) z), tt)
row_end blocks p w s k (y ∷ ys) x h e = (
  h.0,
  row_end blocks p w s (suc k) ys x h.1 (e ∙ (let z : k + suc (length ys) ≡ suc k + length ys = omega arith in
      ap (λ (n : ℕ). piece_of blocks (slot p s w n)) z)),
)

pub column_end : (blocks : TwoBlocks) (p w s k : ℕ) (xs : List PieceState) (x : PieceState) → ColumnPlaced blocks p w s k xs →
    BelongsIn blocks (slot p s (k + length xs) w) x → ColumnPlaced blocks p w s k (xs ++ x ∷ [])
column_end blocks p w s k [] x h e = (e ∙ (let z : k + 0 ≡ k = omega arith in ap (λ (n : ℕ). piece_of blocks (slot p s n w)) z), tt)
column_end blocks p w s k (y ∷ ys) x h e = (
  h.0,
  column_end blocks p w s (suc k) ys x h.1 (e ∙ (let z : k + suc (length ys) ≡ suc k + length ys = omega arith in
      ap (λ (n : ℕ). piece_of blocks (slot p s n w)) z)),
)

module _ {A : Type 0} where
  pub take-with_entry : (l : List (List A)) (n s i : ℕ) (a : A) → n ≤ s → take n (with_entry l s i a) ≡ take n l
  take-with_entry l zero s i a h = refl
  take-with_entry [] (suc n) s i a h = refl
  take-with_entry (r ∷ rs) (suc n) zero i a h = absurd (omega arith)
  take-with_entry (r ∷ rs) (suc n) (suc s) i a h = ap (λ (z : List (List A)). r ∷ z) (take-with_entry rs n s i a (omega arith))

  pub with_entry_end : (l : List (List A)) (r : List A) (n i : ℕ) (a : A) → length l ≡ n → with_entry (l ++ r ∷ []) n i a ≡ l ++ set r i a
      ∷ []
  with_entry_end [] r zero i a e = refl
  with_entry_end [] r (suc n) i a e = absurd (omega arith)
  with_entry_end (x ∷ xs) r zero i a e = absurd (omega arith)
  with_entry_end (x ∷ xs) r (suc n) i a e = ap (λ (z : List (List A)). x ∷ z) (with_entry_end xs r n i a (omega arith))

module _ (i p : ℕ) (m : Message) where
  fills : (ms : List (Option Message)) (n : ℕ) → length ms ≡ n → n < p → set (ms ++ replicate (p - n) None) n (Some m) ≡ (ms ++ Some m ∷ [])
      ++ replicate (p - (n + 1)) None
  fills ms n e lt = let z : p - n ≡ suc (p - (n + 1)) = omega arith in
      subst (λ (q : ℕ). set (ms ++ replicate q None) n (Some m) ≡ (ms ++ Some m ∷ []) ++ replicate (p - (n + 1)) None) (sym z)
      (subst (λ (q : ℕ). set (ms ++ None ∷ replicate (p - (n + 1)) None) q (Some m) ≡ (ms ++ Some m ∷ []) ++ replicate (p - (n + 1)) None) e
      (set-append_seam ms None (replicate (p - (n + 1)) None) (Some m)
      ∙ sym (append_assoc ms (Some m ∷ []) (replicate (p - (n + 1)) None))))

  opens_more : (f : ℕ) (past : List (List (Option Message))) (cs cs' : List (Option Message)) → set cs i (Some m) ≡ cs' →
      length (opened f past cs) ≡ f → with_entry (opened f past cs) (f - 1) i (Some m) ≡ opened f past cs'
  opens_more zero [] cs cs' e long = refl
  opens_more zero (x ∷ past) cs cs' e long = absurd (omega arith)
  opens_more (suc f) past cs cs' e long =
      let l = length-append past (cs ∷ []) in let n : ℕ = length past in let len : length past ≡ f =
      (let q : ℕ = length (past ++ cs ∷ []) in let l' : q ≡ n + 1 = l in omega arith) in let z : suc f - 1 ≡ f = omega arith in
      subst (λ (q : ℕ). with_entry (past ++ cs ∷ []) q i (Some m) ≡ past ++ cs' ∷ []) (sym z) (with_entry_end past cs f i (Some m) len
      ∙ ap (λ (r : List (Option Message)). past ++ r ∷ []) e)

-- The worker l is k after it has seen i, and taken x and y
pub sees_more : (k l : Work) (i : ℕ) (me : Me (Option PieceState) View) (x y : PieceState) → Seeing i k → i < k.workers →
    Got k.chair.me i me
    → me.1 ≡ (slot k.workers (k.round + 1) k.worker i, Some x) ∷ (slot k.workers k.round i k.worker, Some y) ∷ rest (rest me.1)
    → l.chair.me ≡ (
      me.0,
      rest (rest me.1) ++ (slot k.workers (k.round + 1) k.worker i, None) ∷ (slot k.workers k.round i k.worker, None)
          ∷ [],
    )
    → IsSame k l → l.row.items ≡ k.row.items ++ x ∷ [] → l.column.items ≡ k.column.items ++ y ∷ []
    → k.workers ≤ Rattle.std.specs.VecDeque.deque_capacity l.row → k.workers ≤ Rattle.std.specs.VecDeque.deque_capacity l.column
    → Seeing (i + 1) l × (before l ≡ before k) × (rows_of l ≡ rows_of k) × ((done l).blocks ≡ (done k).blocks)
sees_more k l i me x y h li got had now same row column row_room column_room =
    let p : ℕ = k.workers in let w : ℕ = k.worker in let f : ℕ = k.round in let v : Worker = done k in
    let a : PieceState = got.0 in let b : PieceState = got.1 in let e = got.2 in
    let same_y : Option.Some a ≡ Some y = ap second_of (sym (ap (λ z. z.1) e)) ∙ ap second_of had in
    let same_x : Option.Some b ≡ Some x = ap first_of (sym (ap (λ z. z.1) e)) ∙ ap first_of had in
    let ay : a ≡ y = cc in let bx : b ≡ x = cc in
    let u : Worker = looked v i (message y) in
    let me₀ : me.0 ≡ seated u = ap (λ z. z.0) e ∙ ap (λ (z : PieceState). seated (looked v i (message z))) ay in
    let l₀ : l.chair.me.0 ≡ seated u = ap (λ z. z.0) now ∙ me₀ in
    let D : done l ≡ u = ap (λ (z : View). z.mine) l₀ in
    let carried : rest (rest me.1) ≡ k.chair.me.1 = ap (λ (z : Carried). rest (rest z)) (ap (λ z. z.1) e) in
    let made : phase v ≡ f = h.made in
    let wk = same.2 in let ws = same.3 in let rd = same.4 in
    let slots : slot v.workers (phase v + 1) v.at i ≡ slot p (f + 1) w i = (λ q. slot (h.of q) (made q + 1) (h.at q) i) in
    let slots' : slot v.workers (phase v) i v.at ≡ slot p (f + 1 + 1) i w = (λ q. slot (h.of q) (made q) i (h.at q)) ∙ slot_again p f i w in
    let cs = map Some (map message k.column.items) in
    let len : length cs ≡ i = length-map (map message k.column.items) Some ∙ length-map k.column.items message ∙ h.column in
    let filled : set (cs ++ replicate (p - i) None) i (Some (message y)) ≡ (cs ++ Some (message y) ∷ []) ++ replicate (p - (i + 1)) None =
    fills i p (message y) cs i len li in
    let grown : map Some (map message l.column.items) ≡ cs ++ Some (message y) ∷ [] =
    ap (λ (z : List PieceState). map Some (map message z)) column ∙ ap (map Some) (map-append message k.column.items (y ∷ []))
    ∙ map-append Some (map message k.column.items) (message y ∷ []) in
    let long : length v.received ≡ f = h.long in
    let received : u.received ≡ opened f (before k) ((cs ++ Some (message y) ∷ []) ++ replicate (p - (i + 1)) None) =
    ap (λ (z : ℕ). with_entry v.received (z - 1) i (Some (message y))) made
    ∙ ap (λ (z : List (List (Option Message))). with_entry z (f - 1) i (Some (message y))) h.so_far
    ∙ opens_more i p (message y) f (before k) (cs ++ replicate (p - i) None) ((cs ++ Some (message y) ∷ [])
    ++ replicate (p - (i + 1)) None) filled (sym (ap length h.so_far) ∙ long) in
    let earlier : before l ≡ before k = (λ q. take (rd q - 1) (D q).received)
    ∙ ap (λ (z : ℕ). take (f - 1) (with_entry v.received (z - 1) i (Some (message y)))) made
    ∙ take-with_entry v.received (f - 1) (f - 1) i (Some (message y)) (omega arith) in (
      record {
        is_seated = l₀ ∙ sym (ap seated D);
        at = ap (λ (z : Worker). z.at) D ∙ h.at ∙ sym wk;
        of = ap (λ (z : Worker). z.workers) D ∙ h.of ∙ sym ws;
        below = (let q = h.below in let a₁ : ℕ = l.worker in let a₂ : ℕ = l.workers in let e₁ : a₁ ≡ w = wk in let e₂ : a₂ ≡ p = ws in
            let r : a₁ < a₂ = omega arith in r);
        few = subst (λ (z : ℕ). z ≤ 32) (sym ws) h.few;
        words = ap (λ z. z.words) same.0 ∙ h.words ∙ sym ws;
        bound = subst (λ (z : ℕ). z ≤ 2 ^ 63) (sym rd) h.bound;
        made = ap phase D ∙ made ∙ sym rd;
        stays = ap (λ (z : Worker). z.left) D ∙ h.stays;
        wide = ap (λ (z : Worker). length z.seen) D ∙ length-set v.seen i true ∙ h.wide ∙ sym ws;
        saw_these = λ j lj. ap (λ (z : Worker). saw z j) D ∙ dite (ℕ_discrete j i)
            (λ (q : j ≡ i). subst (λ (z : ℕ). get_or (set v.seen i true) z false ≡ true) (sym q)
            (get_or-set_same v.seen i true false (subst (λ (z : ℕ). i < z) (sym h.wide) li)))
            (λ q. get_or-set_other v.seen i j true false q ∙ h.saw_these j (omega arith));
        not_those = λ j lj. ap (λ (z : Worker). saw z j) D ∙ get_or-set_other v.seen i j true false (λ q. omega arith)
            ∙ h.not_those j (omega arith);
        row = ap length row ∙ length-append k.row.items (x ∷ []) ∙ ap (λ (z : ℕ). z + 1) h.row;
        column = ap length column ∙ length-append k.column.items (y ∷ []) ∙ ap (λ (z : ℕ). z + 1) h.column;
        row_room = subst (λ (z : ℕ). z ≤ Rattle.std.specs.VecDeque.deque_capacity l.row) (sym ws) row_room;
        column_room = subst (λ (z : ℕ). z ≤ Rattle.std.specs.VecDeque.deque_capacity l.column) (sym ws) column_room;
        row_placed = placed_row (done l).blocks l.workers l.worker l.round l.row.items (ap (λ (z : Worker). z.blocks) D) ws wk rd row
            (row_end v.blocks p w (f + 1) 0 k.row.items x h.row_placed
            (ap emptied_piece (sym bx) ∙ got.4 ∙ ap (piece_of v.blocks) slots
            ∙ (let z : i ≡ 0 + length k.row.items = (let q = h.row in omega arith) in
            ap (λ (n : ℕ). piece_of v.blocks (slot p (f + 1) w n)) z)));
        column_placed = placed_column (done l).blocks l.workers l.worker l.round l.column.items (ap (λ (z : Worker). z.blocks) D) ws wk rd
            column (column_end v.blocks p w (f + 1 + 1) 0 k.column.items y h.column_placed
            (ap emptied_piece (sym ay) ∙ got.3 ∙ ap (piece_of v.blocks) slots'
            ∙ (let z : i ≡ 0 + length k.column.items = (let q = h.column in omega arith) in
            ap (λ (n : ℕ). piece_of v.blocks (slot p (f + 1 + 1) n w)) z)));
        carries = ap (λ z. z.1) now ∙ ap (λ (z : Carried). z ++ (slot p (f + 1) w i, None) ∷ (slot p f i w, None) ∷ []) (carried
            ∙ h.carries)
            ∙ ap (λ (z : ℕ). emptied p w (f + 1) 0 i ++ (slot p (f + 1) w i, None) ∷ (z, None) ∷ []) (slot_again p f i w)
            ∙ ends p w (f + 1) i ∙ (λ q. emptied (sym ws q) (sym wk q) (sym rd q + 1) 0 (i + 1));
        so_far = ap (λ (z : Worker). z.received) D ∙ received
            ∙ (λ q. opened (sym rd q) (sym earlier q) (sym grown q ++ replicate (sym ws q - (i + 1)) None));
        long = ap (λ (z : Worker). length z.received) D ∙ length-with_entry v.received (phase v - 1) i (Some (message y)) ∙ long ∙ sym rd;
      },
      earlier,
      ap (λ (z : Worker). z.sent) D,
      ap (λ (z : Worker). z.blocks) D,
    )
  where
    first_of : Carried → Option PieceState
    first_of [] = None
    first_of (z ∷ zs) = z.1

    second_of : Carried → Option PieceState
    second_of [] = None
    second_of (z ∷ zs) = first_of zs

    ends : (p w s i : ℕ) → emptied p w s 0 i ++ (slot p s w i, None) ∷ (slot p (s + 1) i w, None) ∷ [] ≡ emptied p w s 0 (i + 1)
    ends p w s i = let z : 0 + i ≡ i = omega arith in let s' : i + 1 ≡ suc i = omega arith in
        sym (ap (emptied p w s 0) s' ∙ emptied_end p w s 0 i
        ∙ ap (λ (n : ℕ). emptied p w s 0 i ++ (slot p s w n, None) ∷ (slot p (s + 1) n w, None) ∷ []) z)

    placed_row : (at : TwoBlocks) (p' w' f' : ℕ) (xs : List PieceState) → at ≡ (done k).blocks → p' ≡ k.workers → w' ≡ k.worker →
        f' ≡ k.round → xs ≡ k.row.items ++ x ∷ [] → RowPlaced (done k).blocks k.workers k.worker (k.round + 1) 0 (k.row.items ++ x ∷ []) →
        RowPlaced at p' w' (f' + 1) 0 xs
    placed_row at p' w' f' xs o a b c d r =
        subst (λ (z : TwoBlocks × ℕ × ℕ × ℕ × List PieceState). RowPlaced z.0 z.1 z.2 (z.3 + 1) 0 z.4)
        (λ q. (sym o q, sym a q, sym b q, sym c q, sym d q)) r

    placed_column : (at : TwoBlocks) (p' w' f' : ℕ) (xs : List PieceState) → at ≡ (done k).blocks → p' ≡ k.workers → w' ≡ k.worker →
        f' ≡ k.round → xs ≡ k.column.items ++ y ∷ [] →
        ColumnPlaced (done k).blocks k.workers k.worker (k.round + 1 + 1) 0 (k.column.items ++ y ∷ []) →
        ColumnPlaced at p' w' (f' + 1 + 1) 0 xs
    placed_column at p' w' f' xs o a b c d r =
        subst (λ (z : TwoBlocks × ℕ × ℕ × ℕ × List PieceState). ColumnPlaced z.0 z.1 z.2 (z.3 + 1 + 1) 0 z.4)
        (λ q. (sym o q, sym a q, sym b q, sym c q, sym d q)) r

-- what a Look that has found a parcel holds first
pub offers : (k : Work) (i : ℕ) (me : Me (Option PieceState) View) → Seeing i k → Got k.chair.me i me
    → (x : PieceState) × (y : PieceState)
    × (me.1 ≡ (slot k.workers (k.round + 1) k.worker i, Some x) ∷ (slot k.workers k.round i k.worker, Some y) ∷ rest (rest me.1))
offers k i me h got =
    let e = ap (λ z. z.1) got.2 in let v : Worker = done k in
    let a : slot v.workers (phase v + 1) v.at i ≡ slot k.workers (k.round + 1) k.worker i =
    (λ q. slot (h.of q) (h.made q + 1) (h.at q) i) in
    let b : slot v.workers (phase v) i v.at ≡ slot k.workers k.round i k.worker = (λ q. slot (h.of q) (h.made q) i (h.at q)) in
    (got.1, got.0, e ∙ (λ q. (a q, Some got.1) ∷ (b q, Some got.0) ∷ rest (rest (sym e q))))
