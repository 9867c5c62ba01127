use Rattle.std.proofs.Common.{rules, map, ◌≡◌, ℕ, suc, ◌+◌, ◌*◌, ◌<◌, ◌≤◌, [], ◌∷◌, ◌++◌, length, length-append, ap, sym, ◌∙◌, arith}
use Rattle.std.proofs.Common.{suc-mul}
use Rattle.exchange_arena.proofs.PieceLists.{still_empty, place_at, place-mul, room_for_one}
use Rattle.exchange_arena.specs.Piece.{emptied_piece, zero_header, stride}
use Rattle.exchange_arena.specs.Block.{BlockShape, piece_at, first_pieces}
use Rattle.exchange_arena.proofs.block.Block.new.Goals as goal

-- another piece fits before the last one
pub cut-low-requires : goal.cut-low-requires
cut-low-requires g c =
    let now = c.loop.invariant in let count = c.args.side * c.args.side in
    let more : length c.loop.pieces.items < count = omega (arith, now.counter, c.loop-test.true) in (
      now.unwritten,
      room_for_one (length c.loop.pieces.items) count (stride c.args.room) c.loop.rest.start c.loop.rest.room more now.start
          now.end,
    )

pub new-requires-clause-place : goal.new-requires-clause-place
new-requires-clause-place g c =
    place-mul (length c.loop.pieces.items) c.args.room c.cut-low.result.0.start (c.cut-low.ensures.0.start ∙ c.loop.invariant.start)

pub loop-preserved : goal.loop-preserved
loop-preserved g c =
    let now = c.loop.invariant in let n = length c.loop.pieces.items in let room = c.args.room in let s = stride room in
    let low = c.cut-low.ensures.0 in let high = c.cut-low.ensures.1 in let pushed = c.push_reserved.ensures in
    let b : BlockShape = record { block = c.in_ok-run.deed.base; side = c.args.side; room = room } in
    let count : length c.push_reserved.new.self.items ≡ suc n = ap length pushed.items
    ∙ length-append c.loop.pieces.items (c.new.result ∷ []) ∙ omega arith in
    let next : length c.push_reserved.new.self.items * s ≡ n * s + s = ap (λ (k : ℕ). k * s) count ∙ suc-mul n s in
    let more : n < c.args.side * c.args.side = omega (arith, now.counter, c.loop-test.true) in
    let fits = room_for_one n (c.args.side * c.args.side) s c.loop.rest.start c.loop.rest.room more now.start now.end in
    let place = place_at n room c.cut-low.result.0.start (low.start ∙ now.start) in
    let piece : c.new.result ≡ piece_at b n = c.new.ensures.value
    ∙ (λ i. record { header = zero_header; words = []; block = (low.base ∙ now.base) i; place = place i; room = room }) in record {
      counter = omega (arith, now.counter, count);
      capacity = pushed.capacity ∙ now.capacity;
      base = high.base ∙ now.base;
      start = omega (arith, high.start, now.start, next);
      end = omega (arith, high.start, high.room, now.end, fits);
      unwritten = high.items;
      pieces = pushed.items ∙ (λ i. now.pieces i ++ piece i ∷ []) ∙ ap (first_pieces b) (sym count);
    }

-- the rest is one piece long
pub new-requires-2-clause-room : goal.new-requires-2-clause-room
new-requires-2-clause-room g c =
    let now = c.loop.invariant in let n = length c.loop.pieces.items in let s = stride c.args.room in let count =
    c.args.side * c.args.side in
    let most : c.loop.counter ≤ count = search rules in let end : count ≡ suc n = omega (arith, now.counter, c.loop-test.false, most) in
    let all : count * s ≡ n * s + s = ap (λ (k : ℕ). k * s) end ∙ suc-mul n s in
    (omega (arith, now.start, now.end, all), c.requires.room)

pub new-requires-2-clause-place : goal.new-requires-2-clause-place
new-requires-2-clause-place g c = place-mul (length c.loop.pieces.items) c.args.room c.loop.rest.start c.loop.invariant.start

pub returns-clause-pieces : goal.returns-clause-pieces
returns-clause-pieces g c =
    let now = c.loop.invariant in let n = length c.loop.pieces.items in let count = c.args.side * c.args.side in
    let b : BlockShape = record { block = c.in_ok-run.deed.base; side = c.args.side; room = c.args.room } in
    let most : c.loop.counter ≤ count = search rules in let end : count ≡ suc n = omega (arith, now.counter, c.loop-test.false, most) in
    let place = place_at n c.args.room c.loop.rest.start now.start in
    let piece : c.new-2.result ≡ piece_at b n = c.new-2.ensures.value
    ∙ (λ i. record { header = zero_header; words = []; block = now.base i; place = place i; room = c.args.room }) in
    c.push_reserved-2.ensures.items ∙ (λ i. now.pieces i ++ piece i ∷ []) ∙ ap (first_pieces b) (sym end)

pub returns-clause-covered : goal.returns-clause-covered
returns-clause-covered g c =
    let b : BlockShape = record { block = c.in_ok-run.deed.base; side = c.args.side; room = c.args.room } in
    ap (map emptied_piece) (returns-clause-pieces g c) ∙ still_empty b (c.args.side * c.args.side)
