use Rattle.std.proofs.Common.{ℕ, ◌≡◌, ◌<◌, ◌*◌, ◌++◌, Option, Some, ◌∙◌, ap, sym, map, length, get_or, arith}
use Rattle.exchange_arena.specs.Piece.{PieceState}
use Rattle.exchange_arena.specs.Block.{BlockShape, pieces_of}
use Rattle.exchange_arena.proofs.PieceLists.{length-first_pieces}
use Rattle.turnstile.proofs.Shelvings.{is_some_of, some_left, all_moved, cover_themselves}
use Rattle.turnstile.proofs.shelf.Shelf.take_back.Goals as goal

pub unwrap-requires : goal.unwrap-requires
unwrap-requires c =
    let b = c.self.inside.block in let now = c.loop.invariant in let given = c.requires.pieces in let side = c.self.invariant.2 in
    let all = now.moved ∙ given.1 ∙ ap (λ (z : BlockShape). map Some (pieces_of z) ++ given.0) (sym c.self.view_is) in
    let same : b.side * b.side ≡ c.self.inside.side * c.self.inside.side = ap (λ (m : ℕ). m * m) side in
    let more : length c.loop.list.items < length (pieces_of b) =
    (let t = c.loop-test.true in let n = now.count in let l = length-first_pieces b (b.side * b.side) in omega arith) in
    let left = some_left c.loop.list.items (pieces_of b) c.loop.slots.items given.0 all more in
    is_some_of c.pop_front.result (Some left.0) (c.pop_front.ensures.value (Some left.0) (let f = c.loop.slots.ok in let l =
    ap length left.2 in omega (arith, f.0, l)) ∙ ap (λ l. Some (get_or l 0 (Some left.0))) left.2)

pub unwrap-letter-requires : goal.unwrap-letter-requires
unwrap-letter-requires c =
    let b = c.self.inside.block in let now = c.loop.invariant in let given = c.requires.pieces in let side = c.self.invariant.2 in
    let all = now.moved ∙ given.1 ∙ ap (λ (z : BlockShape). map Some (pieces_of z) ++ given.0) (sym c.self.view_is) in
    let same : b.side * b.side ≡ c.self.inside.side * c.self.inside.side = ap (λ (m : ℕ). m * m) side in
    let more : length c.loop.list.items < length (pieces_of b) =
    (let t = c.loop-test.true in let n = now.count in let l = length-first_pieces b (b.side * b.side) in omega arith) in
    let left = some_left c.loop.list.items (pieces_of b) c.loop.slots.items given.0 all more in
    let first = c.pop_front.ensures.value (Some left.0) (let f = c.loop.slots.ok in let l = ap length left.2 in omega (arith, f.0, l))
    ∙ ap (λ l. Some (get_or l 0 (Some left.0))) left.2 in
    let o : Option PieceState = c.unwrap.result in let e : Option.Some o ≡ Some (Some left.0) = sym c.unwrap.ensures ∙ first in
    let same : o ≡ Some left.0 = cc in
    is_some_of o left.0 same

pub join-requires : goal.join-requires
join-requires c =
    let b = c.self.inside.block in let now = c.loop.invariant in let given = c.requires.pieces in let side = c.self.invariant.2 in
    let all = now.moved ∙ given.1 ∙ ap (λ (z : BlockShape). map Some (pieces_of z) ++ given.0) (sym c.self.view_is) in
    let same : b.side * b.side ≡ c.self.inside.side * c.self.inside.side = ap (λ (m : ℕ). m * m) side in
    let count : length c.loop.list.items ≡ length (pieces_of b) = (let t = c.loop-test.false in let m = c.loop.auto.counter-end in let n =
    now.count in let l = length-first_pieces b (b.side * b.side) in omega arith) in
    record {
      covered = cover_themselves b c.loop.list.items (all_moved c.loop.list.items (pieces_of b) c.loop.slots.items given.0 all
          count).0;
    }
