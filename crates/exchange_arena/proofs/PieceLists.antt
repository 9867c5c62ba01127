-- The list of a block's pieces, one longer and one shorter, and at each index.
use Rattle.std.proofs.Common.{◌≡◌, ℕ, zero, suc, ◌+◌, ◌-◌, ◌*◌, ◌/◌, ◌<◌, ◌≤◌, List, [], ◌∷◌, ◌++◌, length, take, drop, map, get_or}
use Rattle.std.proofs.Common.{slice_set, subst, sym, ap, ◌∙◌, arith, length-append, suc-mul, refl, slice_get, Some, inl, inr, reverse}
use Rattle.std.proofs.Math.Seq.{drop-append_seam}
use Rattle.std.proofs.Math.Nat.{mul-le-mul, mul-le-mul_right, mul-div_cancel}
use Rattle.std.proofs.lemmas.List.{take_at, length-map, map-append, get_or_append_left, get_or-append_right, same_lists, reverse-append}
use Rattle.std.proofs.lemmas.List.{reverse-reverse}
use Rattle.std.proofs.lemmas.Bool.{cases_lt}
use Rattle.std.proofs.lemmas.Option.{slice_get-get_or, slice_get-map, slice_get_within, same_Some, get_or_from_slice_get}
use Rattle.std.specs.Option.{option_map}
use Rattle.exchange_arena.specs.Piece.{PieceState, emptied_piece, stride}
use Rattle.exchange_arena.specs.Block.{BlockShape, piece_at, first_pieces, pieces_of, Covers, StandInOrder}

pub drop_at : {A : Type 0} (p q : List A) (n : ℕ) → length p ≡ n → drop n (p ++ q) ≡ q
drop_at p q n e = subst (λ (k : ℕ). drop k (p ++ q) ≡ q) e (drop-append_seam p q)

-- two lists that end in one item, of one length
pub shorter : {A : Type 0} (p q : List A) (x y : A) → length p ≡ length q → p ++ x ∷ [] ≡ q ++ y ∷ [] → (p ≡ q) × (x ≡ y)
shorter p q x y long e = (
  sym (take_at p (x ∷ []) (length q) long) ∙ ap (take (length q)) e ∙ take_at q (y ∷ []) (length q) refl,
  ap (λ l. get_or l 0 x) (sym (drop_at p (x ∷ []) (length q) long) ∙ ap (drop (length q)) e ∙ drop_at q (y ∷ []) (length q) refl),
)

-- the piece that begins k strides into its block is the one of place k
pub place_of : (k room : ℕ) → k * stride room / stride room ≡ k
place_of k room = mul-div_cancel k (omega arith)

pub place_at : (k room start : ℕ) → start ≡ k * stride room → start / stride room ≡ k
place_at k room start e = ap (λ (j : ℕ). j / stride room) e ∙ place_of k room

pub place-mul : (k room start : ℕ) → start ≡ k * stride room → start ≡ start / stride room * stride room
place-mul k room start e = e ∙ sym (ap (λ (j : ℕ). j * stride room) (place_at k room start e))

pub length-first_pieces : (b : BlockShape) (n : ℕ) → length (first_pieces b n) ≡ n
length-first_pieces b zero = refl
length-first_pieces b (suc n) = length-append (first_pieces b n) (piece_at b n ∷ []) ∙ omega (arith, length-first_pieces b n)

-- the pieces of a new block are empty already
pub still_empty : (b : BlockShape) (n : ℕ) → map emptied_piece (first_pieces b n) ≡ first_pieces b n
still_empty b zero = refl
still_empty b (suc n) = map-append emptied_piece (first_pieces b n) (piece_at b n ∷ []) ∙ ap (λ l. l ++ piece_at b n ∷ []) (still_empty b n)

-- what is known of the last of the first n pieces, and of the others
pub record IsLast (b : BlockShape) (n : ℕ) (xs : List PieceState) (x : PieceState) : Type 0 where
  pub count : n ≡ suc (length xs)
  pub others : map emptied_piece xs ≡ first_pieces b (length xs)
  pub block : x.block ≡ b.block
  pub start : x.place * stride x.room ≡ length xs * stride b.room
  pub room : stride x.room ≡ stride b.room
  pub end : n * stride b.room ≡ length xs * stride b.room + stride b.room

pub last_of : (b : BlockShape) (n : ℕ) (ys xs : List PieceState) (x : PieceState) → ys ≡ xs ++ x ∷ [] →
    map emptied_piece ys ≡ first_pieces b n → IsLast b n xs x
last_of b n ys xs x split all =
    let m = length xs in
    let seen : map emptied_piece (xs ++ x ∷ []) ≡ first_pieces b n = ap (map emptied_piece) (sym split) ∙ all in
    let count : n ≡ suc m = sym (length-first_pieces b n) ∙ ap length (sym seen) ∙ length-map (xs ++ x ∷ []) emptied_piece
    ∙ length-append xs (x ∷ []) ∙ omega arith in
    let both : map emptied_piece xs ++ emptied_piece x ∷ [] ≡ first_pieces b m ++ piece_at b m ∷ [] =
    sym (map-append emptied_piece xs (x ∷ [])) ∙ seen ∙ ap (first_pieces b) count in
    let two = shorter (map emptied_piece xs) (first_pieces b m) (emptied_piece x) (piece_at b m) (length-map xs emptied_piece
    ∙ sym (length-first_pieces b m)) both in
    record {
      count = count;
      others = two.0;
      block = ap (λ (y : PieceState). y.block) two.1;
      start = ap (λ (y : PieceState). y.place * stride y.room) two.1;
      room = ap (λ (y : PieceState). stride y.room) two.1;
      end = ap (λ (k : ℕ). k * stride b.room) count ∙ suc-mul m (stride b.room);
    }

-- what begins after n of more pieces, and ends with the last, has room for one
pub room_for_one : (n count s start room : ℕ) → n < count → start ≡ n * s → start + room ≡ count * s → s ≤ room
room_for_one n count s start room more e end = let fits : suc n * s ≤ count * s = mul-le-mul_right s more in
    omega (arith, e, end, fits, suc-mul n s)

-- the words of a whole block, of at most 32 by 32 pieces with room for at most 2 ^ 20 words each
pub words_within : (side room : ℕ) → side ≤ 32 → room ≤ 1048576 → side * side * stride room ≤ 1073745920
words_within side room s r = let square : side * side ≤ 1024 = mul-le-mul s s in let row : stride room ≤ 1048580 = omega arith in
    mul-le-mul square row

-- a list in which one item changed, where f does not see it
pub map-slice_set_same : {X Y : Type 0} (f : X → Y) (xs : List X) (i : ℕ) (x y : X) → x ≡ get_or xs i x → f y ≡ f x →
    map f (slice_set xs i y) ≡ map f xs
map-slice_set_same f [] i x y e h = refl
map-slice_set_same f (z ∷ xs) zero x y e h = ap (λ w. w ∷ map f xs) (h ∙ ap f e)
map-slice_set_same f (z ∷ xs) (suc i) x y e h = ap (λ l. f z ∷ l) (map-slice_set_same f xs i x y e h)

get_or-first_pieces : (b : BlockShape) (n k : ℕ) (d : PieceState) → k < n → get_or (first_pieces b n) k d ≡ piece_at b k
get_or-first_pieces b zero k d within = absurd (omega (arith, within))
get_or-first_pieces b (suc n) k d within = let long = length-first_pieces b n in elim (cases_lt k n) [
  | inl before ↦ get_or_append_left (first_pieces b n) (piece_at b n ∷ []) d k (omega (arith, before, long))
      ∙ get_or-first_pieces b n k d before
  | inr last ↦
      let at : k ≡ n = omega (arith, within, last) in let first : k - n ≡ 0 = omega (arith, at) in
      get_or-append_right (first_pieces b n) (piece_at b n ∷ []) n k d long last
      ∙ ap (λ (j : ℕ). get_or (piece_at b n ∷ []) j d) first ∙ ap (piece_at b) (sym at)
]

pub slice_get-pieces_of : (b : BlockShape) (k : ℕ) → k < b.side * b.side → slice_get (pieces_of b) k ≡ Some (piece_at b k)
slice_get-pieces_of b k within =
    let n = b.side * b.side in let d = piece_at b k in
    slice_get-get_or (pieces_of b) k d (omega (arith, within, length-first_pieces b n)) ∙ ap Some (get_or-first_pieces b n k d within)

-- row i and column j is a place of the block
pub row_within : (i j side : ℕ) → i < side → j < side → i * side + j < side * side
row_within i j side row column = let next : suc i * side ≤ side * side = mul-le-mul_right side row in
    omega (arith, column, next, suc-mul i side)

pub covering_stand_in_order : (b : BlockShape) (xs : List PieceState) → Covers b xs → StandInOrder b xs
covering_stand_in_order b xs covered =
    let count : length xs ≡ b.side * b.side = sym (length-map xs emptied_piece) ∙ ap length covered
    ∙ length-first_pieces b (b.side * b.side) in
    record {
      count = count;
      places = λ k x found.
          let within : k < b.side * b.side = omega (arith, slice_get_within xs k x found, count) in
          let seen : slice_get (map emptied_piece xs) k ≡ Some (emptied_piece x) = slice_get-map emptied_piece xs k
          ∙ ap (option_map emptied_piece) found in
          same_Some (emptied_piece x) (piece_at b k) (sym seen ∙ ap (λ l. slice_get l k) covered ∙ slice_get-pieces_of b k within);
    }

pub in_order_cover : (b : BlockShape) (xs : List PieceState) → StandInOrder b xs → Covers b xs
in_order_cover b xs order =
    let n = b.side * b.side in let long = length-map xs emptied_piece in
    same_lists (map emptied_piece xs) (pieces_of b) (long ∙ order.count ∙ sym (length-first_pieces b n)) (λ k d within.
    let inside : k < length xs = omega (arith, within, long) in
    let found = slice_get-get_or xs k d inside in
    let seen : slice_get (map emptied_piece xs) k ≡ Some (piece_at b k) =
    slice_get-map emptied_piece xs k ∙ ap (option_map emptied_piece) found ∙ ap Some (order.places k (get_or xs k d) found) in
    get_or_from_slice_get (map emptied_piece xs) k (piece_at b k) d seen
    ∙ sym (get_or-first_pieces b n k d (omega (arith, inside, order.count))))

map-reverse : {X Y : Type 0} (f : X → Y) (xs : List X) → map f (reverse xs) ≡ reverse (map f xs)
map-reverse f [] = refl
map-reverse f (x ∷ xs) =
    ap (map f) (reverse-append (x ∷ []) xs) ∙ map-append f (reverse xs) (x ∷ []) ∙ ap (λ l. l ++ f x ∷ []) (map-reverse f xs)
    ∙ sym (reverse-append (f x ∷ []) (map f xs))

-- a list that was turned round, changed where f does not see it, and turned back
pub map-turned_twice : {X Y : Type 0} (f : X → Y) (xs ys : List X) → map f ys ≡ map f (reverse xs) → map f (reverse ys) ≡ map f xs
map-turned_twice f xs ys e = map-reverse f ys ∙ ap reverse e ∙ sym (map-reverse f (reverse xs)) ∙ ap (map f) (reverse-reverse xs)
