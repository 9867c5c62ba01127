-- Which slots have the pieces of which block.
use Rattle.std.proofs.Common.{◌≡◌, ℕ, zero, suc, ◌+◌, ◌-◌, ◌*◌, ◌/◌, ◌<◌, Bool, List, [], ◌∷◌, ◌++◌, map, length, drop, Option, Some, sym}
use Rattle.std.proofs.Common.{ap, ◌∙◌, subst, length-append, arith}
use mathlib.Core.Logic.{dite}
use mathlib.Core.Option.{some}
use native.Mathlib.Decide.{dec_le}
use lib.ListN.{get_elem?, length-map}
use Rattle.std.specs.Prelude.{if◌then◌else◌}
use Rattle.std.proofs.lemmas.Bool.{lt-ltb, le-ltb}
use Rattle.atomic_table.proofs.Lists.{at_map}
use Rattle.exchange_arena.specs.Piece.{PieceState}
use Rattle.exchange_arena.specs.Block.{BlockShape, piece_at, pieces_of, first_pieces}
use Rattle.exchange_arena.proofs.PieceLists.{length-first_pieces, drop_at}
use Rattle.turnstile.specs.Blocks.{TwoBlocks, even_block, odd_block, piece_of, BelongsIn, Laid}
use Rattle.turnstile.specs.Shelves.{Offers}

-- the two blocks, from what is seen of them together
pub apart : (b : TwoBlocks) (e o : BlockShape) → ◌≡◌ {A = TwoBlocks}
    (record { even = e.block; odd = o.block; side = e.side; room = e.room }) b → o.side ≡ e.side → o.room ≡ e.room →
    (even_block b ≡ e) × (odd_block b ≡ o)
apart b e o seen side room = (
  ap even_block (sym seen),
  ap odd_block (sym seen)
      ∙ (λ q. record { block = o.block; side = sym side q; room = sym room q }),
)

pub in_even : (b : TwoBlocks) (k : ℕ) → k < b.side * b.side → piece_of b k ≡ piece_at (even_block b) k
in_even b k lt = ap (λ (c : Bool). if c then piece_at (even_block b) k else piece_at (odd_block b) (k - b.side * b.side))
    (lt-ltb k (b.side * b.side) lt)

pub in_odd : (b : TwoBlocks) (k : ℕ) → piece_of b (b.side * b.side + k) ≡ piece_at (odd_block b) k
in_odd b k = let n : ℕ = b.side * b.side in
    ap (λ (c : Bool). if c then piece_at (even_block b) (n + k) else piece_at (odd_block b) (n + k - n)) (le-ltb (n + k) n (omega arith))
    ∙ ap (piece_at (odd_block b)) (let e : n + k - n ≡ k = omega arith in e)

twice : (s : ℕ) → 2 * s * s ≡ s * s + s * s
twice s = let e : 2 * s ≡ s + s = omega arith in ap (λ (n : ℕ). n * s) e ∙ Rattle.std.proofs.Math.Nat.add-mul s s s

pub even_offered : (b : TwoBlocks) (xs : List (Option PieceState)) → Laid b (2 * b.side * b.side) xs → Offers (even_block b) 0 xs
even_offered b xs laid k lt = let n : ℕ = b.side * b.side in let e = twice b.side in let q =
    laid.1 k (let t : ℕ = 2 * b.side * b.side in let e' : t ≡ n + n = e in let l : k < n = lt in omega arith) in
    let z : 0 + k ≡ k = omega arith in (q.0, ap (get_elem? xs) z ∙ q.1, q.2 ∙ in_even b k lt)

pub odd_offered : (b : TwoBlocks) (first : ℕ) (xs : List (Option PieceState)) → first ≡ b.side * b.side → Laid b (2 * b.side * b.side) xs →
    Offers (odd_block b) first xs
odd_offered b first xs at laid k lt = let n : ℕ = b.side * b.side in let e = twice b.side in let q =
    laid.1 (n + k) (let t : ℕ = 2 * b.side * b.side in let e' : t ≡ n + n = e in let l : k < n = lt in omega arith) in
    (q.0, ap (λ (z : ℕ). get_elem? xs (z + k)) at ∙ q.1, q.2 ∙ in_odd b k)

pub half_of : (s n : ℕ) → n ≡ 2 * s * s → n / 2 ≡ s * s
half_of s n e = let t = twice s in let m : ℕ = s * s in let d : ℕ = 2 * s * s in let t' : d ≡ m + m = t in let e' : n ≡ d = e in omega arith

pub twice_fits : (s : ℕ) → s * s + s * s ≡ 2 * s * s
twice_fits s = sym (twice s)

pub pieces_count : (b : BlockShape) → length (map (λ (x : PieceState). Some x) (pieces_of b)) ≡ b.side * b.side
pieces_count b = length-map (pieces_of b) (λ x. Some x) ∙ length-first_pieces b (b.side * b.side)

-- what is left once the pieces of the first block are gone
pub second_left : (b c : BlockShape) (xs : List (Option PieceState)) → xs ≡ map Some (pieces_of b) ++ map Some (pieces_of c) →
    drop (b.side * b.side) xs ≡ map Some (pieces_of c)
second_left b c xs e = ap (drop (b.side * b.side)) e
    ∙ drop_at (map Some (pieces_of b)) (map Some (pieces_of c)) (b.side * b.side) (pieces_count b)

get_or_at : (b : BlockShape) (n k : ℕ) → k < n → get_elem? (first_pieces b n) k ≡ some (piece_at b k)
get_or_at b zero k lt = absurd (omega arith)
get_or_at b (suc n) k lt = dite (dec_le (suc k) n)
    (λ old. Rattle.atomic_table.proofs.Lists.at_longer (first_pieces b n) (piece_at b n ∷ []) k (piece_at b k) (get_or_at b n k old))
    (λ new. let e : k ≡ n = omega arith in
    subst (λ (z : ℕ). get_elem? (first_pieces b n ++ piece_at b n ∷ []) z ≡ some (piece_at b z)) (sym e)
    (Rattle.atomic_table.proofs.Lists.at_last (first_pieces b n) (piece_at b n) n (length-first_pieces b n)))

after : {A : Type 0} (xs ys : List A) (n k : ℕ) (a : A) → length xs ≡ n → get_elem? ys k ≡ some a → get_elem? (xs ++ ys) (n + k) ≡ some a
after [] ys zero k a e h = let z : 0 + k ≡ k = omega arith in ap (get_elem? ys) z ∙ h
after [] ys (suc n) k a e h = absurd (omega arith)
after (x ∷ xs) ys zero k a e h = absurd (omega arith)
after (x ∷ xs) ys (suc n) k a e h = let z : suc n + k ≡ suc (n + k) = omega arith in ap (get_elem? (x ∷ (xs ++ ys))) z
    ∙ after xs ys n k a (omega arith) h

-- the slots of new blocks
pub new_laid : (b : TwoBlocks) (xs : List (Option PieceState)) → xs ≡ map Some (pieces_of (even_block b))
    ++ map Some (pieces_of (odd_block b)) → Laid b (2 * b.side * b.side) xs
new_laid b xs e =
    let n : ℕ = b.side * b.side in let es : List (Option PieceState) = map Some (pieces_of (even_block b)) in
    let os : List (Option PieceState) = map Some (pieces_of (odd_block b)) in
    let ec : length es ≡ n = pieces_count (even_block b) in let oc : length os ≡ n = pieces_count (odd_block b) in let t = twice b.side in (
      ap length e ∙ length-append es os ∙ (λ q. ec q + oc q) ∙ sym t,
      λ k lt. dite (dec_le (suc k) n)
          (λ low. let x : PieceState = piece_at (even_block b) k in (
            x,
            ap (λ l. get_elem? l k) e ∙ Rattle.atomic_table.proofs.Lists.at_longer es os k (Some x)
                (at_map Some (pieces_of (even_block b)) k x (get_or_at (even_block b) n k low)),
            sym (in_even b k low),
          ))
          (λ high. let j : ℕ = k - n in let x : PieceState = piece_at (odd_block b) j in let s : n + j ≡ k = omega arith in let d : ℕ =
          2 * b.side * b.side in let t' : d ≡ n + n = t in let l : k < d = lt in let lj : j < n = omega arith in
          subst (λ (z : ℕ). (y : PieceState) × (get_elem? xs z ≡ some (Some y)) × BelongsIn b z y) s (
            x,
            ap (λ l. get_elem? l (n + j)) e
                ∙ after es os n j (Some x) ec (at_map Some (pieces_of (odd_block b)) j x (get_or_at (odd_block b) n j lj)),
            sym (in_odd b j),
          )),
    )
