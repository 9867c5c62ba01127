-- A crossing from one rest to the next.
use Rattle.std.proofs.Common.{◌≡◌, ℕ, suc, ◌+◌, ◌-◌, ◌^◌, ◌<◌, ◌≤◌, false, Option, Some, None, List, [], ◌∷◌, ◌++◌, map, length, take}
use Rattle.std.proofs.Common.{replicate, sym, refl, ap, ◌∙◌, subst, append-nil, length-append, deque_capacity, arith}
use lib.ListN.{length-replicate, length-map}
use lib.Seq.{take_at}
use Rattle.std.proofs.lemmas.List.{nil_from_length}
use Rattle.std.proofs.lemmas.List.Elements.{All-nil, All-push}
use Rattle.std.specs.Prelude.{All}
use Rattle.atomic_table.specs.Table.{Me}
use Rattle.exchange_arena.specs.Piece.{PieceState}
use Rattle.turnstile.specs.declared.views.Message.{Message}
use Rattle.turnstile.specs.declared.views.Worker.{Worker}
use Rattle.turnstile.specs.declared.views.View.{View}
use Rattle.turnstile.specs.declared.work.Work.{Work}
use Rattle.turnstile.specs.Blocks.{TwoBlocks}
use Rattle.turnstile.specs.Turns.{message, saw, phase, seated, letters, finished}
use Rattle.turnstile.specs.Loads.{RowPlaced, ColumnPlaced, Ready, loaded, opened, value, known, told_all}
use Rattle.turnstile.specs.Works.{done, before, rows_of, columns_of, Rested, Seeing, IsSame}
use Rattle.turnstile.proofs.Gives.{letters_of}
use Rattle.turnstile.proofs.Moves.{fresh_saw}

known_column : (ms : List Message) → map value (map Some ms) ≡ ms
known_column [] = refl
known_column (m ∷ ms) = ap (λ (z : List Message). m ∷ z) (known_column ms)

pub known_told : (rs : List (List Message)) → known (told_all rs) ≡ rs
known_told [] = refl
known_told (r ∷ rs) = (λ q. known_column r q ∷ known_told rs q)

told_end : (rs : List (List Message)) (r : List Message) → told_all rs ++ map Some r ∷ [] ≡ told_all (rs ++ r ∷ [])
told_end [] r = refl
told_end (x ∷ rs) r = ap (λ (z : List (List (Option Message))). map Some x ∷ z) (told_end rs r)

-- a worker whose pieces lie in its slots may finish
pub readies : (k : Work) (p : ℕ) (me : Me (Option PieceState) View) → Rested k → p ≡ k.workers →
    me ≡ (k.chair.me.0, loaded k.workers k.worker (k.round + 1) 0 k.row.items k.column.items) → Ready p me k.row.items k.column.items
readies k p me h is e =
    let v₀ : me.0 ≡ k.chair.me.0 = ap (λ z. z.0) e in let v : me.0.mine ≡ done k = ap (λ (z : View). z.mine) v₀ in
    let at : me.0.mine.at ≡ k.worker = ap (λ (z : Worker). z.at) v ∙ h.at in let made : phase me.0.mine ≡ k.round = ap phase v ∙ h.made in
    record {
      is_seated = ap (λ (z : View). z.kind) (v₀ ∙ h.is_seated);
      stays = ap (λ (z : Worker). z.left) v ∙ h.stays;
      saw_all = λ i li. ap (λ (z : Worker). saw z i) v ∙ h.saw_all i (subst (λ (z : ℕ). i < z) is li);
      row = h.row ∙ sym is;
      column = h.column ∙ sym is;
      row_placed = subst (λ (z : TwoBlocks × ℕ × ℕ × ℕ). RowPlaced z.0 z.1 z.2 (z.3 + 1) 0 k.row.items)
          (λ q. (sym (ap (λ (w : Worker). w.blocks) v) q, sym is q, sym at q, sym made q)) h.row_placed;
      column_placed = subst (λ (z : TwoBlocks × ℕ × ℕ × ℕ). ColumnPlaced z.0 z.1 z.2 (z.3 + 1 + 1) 0 k.column.items)
          (λ q. (sym (ap (λ (w : Worker). w.blocks) v) q, sym is q, sym at q, sym made q)) h.column_placed;
      carries = ap (λ z. z.1) e ∙ (λ q. loaded (sym is q) (sym at q) (sym made q + 1) 0 k.row.items k.column.items);
    }

-- l is k after its Finish
pub sets_out : (k l : Work) (m : Me (Option PieceState) View) → k.round < 2 ^ 63 → Rested k →
    m ≡ (k.chair.me.0, loaded k.workers k.worker (k.round + 1) 0 k.row.items k.column.items) →
    l.chair.me ≡ (seated (finished m.0.mine (letters m.1)), []) → l.chair.table_id ≡ k.chair.table_id
    → l.worker ≡ k.worker → l.workers ≡ k.workers → l.round ≡ k.round + 1 → l.row.items ≡ [] → l.column.items ≡ [] →
    deque_capacity l.row ≡ deque_capacity k.row → deque_capacity l.column ≡ deque_capacity k.column
    → Seeing 0 l × (before l ≡ told_all (columns_of k)) × (rows_of l ≡ rows_of k ++ map message k.row.items ∷ [])
    × ((done l).blocks ≡ (done k).blocks)
sets_out k l m early' h laid now table wk ws rd row column row_room column_room =
    let v : Worker = done k in let f : ℕ = k.round in let p : ℕ = k.workers in let ms : List Message = map message k.row.items in
    let said : letters m.1 ≡ ms = ap letters (ap (λ z. z.1) laid) ∙ letters_of p k.worker (f + 1) 0 k.row.items k.column.items (h.row
    ∙ sym h.column) in
    let u : Worker = finished v ms in
    let l₀ : l.chair.me.0 ≡ seated u = ap (λ z. z.0) now ∙ (λ q. seated (finished (ap (λ z. z.0.mine) laid q) (said q))) in
    let D : done l ≡ u = ap (λ (z : View). z.mine) l₀ in
    let next : l.round ≡ suc f = rd ∙ (let z : f + 1 ≡ suc f = omega arith in z) in
    let len : length v.received ≡ f = h.long in
    let nones : List (Option Message) = replicate v.workers None in
    let early : before l ≡ v.received = (λ q. take (next q - 1) (D q).received) ∙ (let z : suc f - 1 ≡ f = omega arith in
    ap (λ (n : ℕ). take n (v.received ++ nones ∷ [])) z) ∙ take_at v.received (nones ∷ []) f len in (
      record {
        is_seated = l₀ ∙ sym (ap seated D);
        at = ap (λ (z : Worker). z.at) D ∙ h.at ∙ sym wk;
        of = ap (λ (z : Worker). z.workers) D ∙ h.of ∙ sym ws;
        below = (let q = h.below in let a₁ : ℕ = l.worker in let a₂ : ℕ = l.workers in let w : ℕ = k.worker in let e₁ : a₁ ≡ w = wk in
            let e₂ : a₂ ≡ p = ws in let r : a₁ < a₂ = omega arith in r);
        few = subst (λ (z : ℕ). z ≤ 32) (sym ws) h.few;
        words = ap (λ z. z.words) table ∙ h.words ∙ sym ws;
        bound = (let a : ℕ = l.round in let e : a ≡ f + 1 = rd in let q : f < 2 ^ 63 = early' in let r : a ≤ 2 ^ 63 = omega arith in r);
        made = ap phase D ∙ length-append v.sent (ms ∷ []) ∙ ap (λ (z : ℕ). z + 1) h.made ∙ sym rd;
        stays = ap (λ (z : Worker). z.left) D ∙ h.stays;
        wide = ap (λ (z : Worker). length z.seen) D ∙ length-replicate v.workers false ∙ h.of ∙ sym ws;
        saw_these = λ j lj. absurd (omega arith);
        not_those = λ j lj. ap (λ (z : Worker). saw z j) D ∙ fresh_saw v.workers j;
        row = ap length row;
        column = ap length column;
        row_room = (let a : ℕ = deque_capacity l.row in let b : ℕ = deque_capacity k.row in let e : a ≡ b = row_room in let q =
            h.row_room in let n : ℕ = l.workers in let e₂ : n ≡ p = ws in let r : n ≤ a = omega arith in r);
        column_room = (let a : ℕ = deque_capacity l.column in let b : ℕ = deque_capacity k.column in let e : a ≡ b = column_room in let q =
            h.column_room in let n : ℕ = l.workers in let e₂ : n ≡ p = ws in let r : n ≤ a = omega arith in r);
        row_placed = subst (RowPlaced (done l).blocks l.workers l.worker (l.round + 1) 0) (sym row) tt;
        column_placed = subst (ColumnPlaced (done l).blocks l.workers l.worker (l.round + 1 + 1) 0) (sym column) tt;
        carries = ap (λ z. z.1) now;
        so_far = ap (λ (z : Worker). z.received) D
            ∙ (λ q. sym early q ++ replicate ((h.of ∙ sym ws ∙ (let n : ℕ = l.workers in let z : n ≡ n - 0 = omega arith in z)) q) None
            ∷ [])
            ∙ (λ q. opened (sym next q) (before l) (map Some (map message (sym column q)) ++ replicate (l.workers - 0) None));
        long = ap (λ (z : Worker). length z.received) D ∙ length-append v.received (nones ∷ []) ∙ ap (λ (z : ℕ). z + 1) len ∙ sym rd;
      },
      early ∙ h.whole,
      ap (λ (z : Worker). z.sent) D,
      ap (λ (z : Worker). z.blocks) D,
    )

-- each of the rows has n entries
abbrev Wide : ℕ → List (List Message) → Type 0
Wide n rs = All (λ r. length r ≡ n) rs

module _ (k : Work) (h : Seeing k.workers k) where
  rests_with : (done k).received ≡ told_all (columns_of k) → Wide k.workers (rows_of k) → Wide k.workers (columns_of k) → Rested k
  rests_with whole rows columns = record {
    bound = h.bound;
    rows = rows;
    columns = columns;
    is_seated = h.is_seated;
    at = h.at;
    of = h.of;
    below = h.below;
    few = h.few;
    words = h.words;
    made = h.made;
    stays = h.stays;
    saw_all = h.saw_these;
    row = h.row;
    column = h.column;
    row_room = h.row_room;
    column_room = h.column_room;
    row_placed = h.row_placed;
    column_placed = h.column_placed;
    carries = h.carries;
    long = h.long;
    whole = whole;
  }

  pub rests : (f : ℕ) (rs : List (List Message)) → k.round ≡ suc f → before k ≡ told_all rs → Wide k.workers (rows_of k) →
      Wide k.workers rs → length rs ≡ f → Rested k × (columns_of k ≡ rs ++ map message k.column.items ∷ [])
  rests f rs next past rows old len =
      let p : ℕ = k.workers in let z : p - p ≡ 0 = omega arith in let ms : List Message = map message k.column.items in
      let all : (done k).received ≡ told_all (rs ++ ms ∷ []) =
      h.so_far ∙ (λ q. opened (next q) (past q) (map Some ms ++ replicate (z q) None))
      ∙ ap (λ (r : List (Option Message)). told_all rs ++ r ∷ []) (append-nil (map Some ms)) ∙ told_end rs ms in
      let columns : columns_of k ≡ rs ++ ms ∷ [] = ap known all ∙ known_told (rs ++ ms ∷ []) in (
        rests_with (all ∙ ap told_all (sym columns)) rows
            (subst (Wide p) (sym columns) (All-push (λ r. length r ≡ p) rs ms old (length-map k.column.items message ∙ h.column))),
        columns,
      )

  pub rests_first : k.round ≡ 0 → Rested k × (columns_of k ≡ [])
  rests_first first = let none_yet : (done k).received ≡ [] = nil_from_length (done k).received (h.long
      ∙ first) in let none_sent : rows_of k ≡ [] =
      nil_from_length (rows_of k) (h.made ∙ first) in (
        rests_with (none_yet ∙ ap (λ z. told_all (known z)) (sym none_yet))
            (subst (Wide k.workers) (sym none_sent) (All-nil (λ r. length r ≡ k.workers)))
            (subst (Wide k.workers) (sym (ap known none_yet)) (All-nil (λ r. length r ≡ k.workers))),
        ap known none_yet,
      )

-- The whole of a crossing: a is k with its pieces laid, l has finished, and n has seen all
pub passes : (k a l n : Work) → k.round < 2 ^ 63 → Rested k → IsSame k a →
    a.chair.me ≡ (k.chair.me.0, loaded k.workers k.worker (k.round + 1) 0 k.row.items k.column.items) → a.row.items ≡ [] →
    a.column.items ≡ []
    → deque_capacity a.row ≡ deque_capacity k.row → deque_capacity a.column ≡ deque_capacity k.column
    → l.chair.me ≡ (seated (finished a.chair.me.0.mine (letters a.chair.me.1)), []) → l.chair.table_id ≡ a.chair.table_id →
    l.worker ≡ a.worker → l.workers ≡ a.workers → l.round ≡ a.round + 1 → l.row ≡ a.row → l.column ≡ a.column
    → IsSame l n → before n ≡ before l → rows_of n ≡ rows_of l → (done n).blocks ≡ (done l).blocks → Seeing l.workers n
    → Rested n × (rows_of n ≡ rows_of k ++ map message k.row.items ∷ []) × (columns_of n ≡ columns_of k ++ map message n.column.items ∷ [])
    × ((done n).blocks ≡ (done k).blocks)
passes k a l n early h same laid row column row_room column_room now table wk ws rd same_row same_column same' before' rows' blocks' seen =
    let s = sets_out k l a.chair.me early h laid now (table ∙ same.0) (wk ∙ same.2) (ws ∙ same.3) (rd
    ∙ ap (λ (z : ℕ). z + 1) same.4) (ap (λ z. z.items) same_row ∙ row) (ap (λ z. z.items) same_column
    ∙ column) (ap deque_capacity same_row ∙ row_room) (ap deque_capacity same_column ∙ column_room) in
    let of : n.workers ≡ k.workers = same'.3 ∙ ws ∙ same.3 in
    let next : n.round ≡ suc k.round = same'.4 ∙ rd ∙ ap (λ (z : ℕ). z + 1) same.4 ∙ (let f : ℕ = k.round in let z : f + 1 ≡ suc f =
    omega arith in z) in
    let r = rests n (subst (λ (z : ℕ). Seeing z n) (sym same'.3) seen) k.round (columns_of k) next (before' ∙ s.1)
    (subst (λ (z : ℕ × List (List Message)). Wide z.0 z.1) (λ q. (sym of q, sym (rows' ∙ s.2) q))
    (All-push (λ r. length r ≡ k.workers) (rows_of k) (map message k.row.items) h.rows (length-map k.row.items message ∙ h.row)))
    (subst (λ (z : ℕ). Wide z (columns_of k)) (sym of) h.columns) (length-map (done k).received (map value) ∙ h.long) in
    (r.0, rows' ∙ s.2, r.1, blocks' ∙ s.3)
