use Rattle.std.proofs.Common.{◌+◌, ◌*◌, ◌≤◌, length, ap, sym, ◌∙◌, arith}
use Rattle.exchange_arena.specs.Block.{BlockShape}
use Rattle.exchange_arena.specs.Piece.{stride}
use Rattle.exchange_arena.proofs.PieceLists.{last_of, words_within}
use Rattle.exchange_arena.proofs.block.Block.join.Goals as goal

pub loop-pieces-init : goal.loop-pieces-init
loop-pieces-init g c =
    let b = c.args.self in let taken = c.take_last in let run = c.into_run-run.ensures in
    let last = last_of b (b.side * b.side) c.args.pieces.items taken.new.self.items taken.result taken.ensures.items c.requires.covered in
    let start = run.start ∙ last.start in let room = run.room ∙ last.room in record {
      base = run.block ∙ last.block;
      start = start;
      end = (λ i. start i + room i) ∙ sym last.end;
      left = last.others;
    }

-- the last piece that is left ends where the run begins
pub join-run-requires : goal.join-run-requires
join-run-requires g c =
    let b = c.args.self in let now = c.loop-pieces.invariant in let taken = c.take_last-in-loop-pieces in let run = c.into_run.ensures in
    let last = last_of b (length c.loop-pieces.pieces.items) c.loop-pieces.pieces.items taken.new.self.items taken.result
    taken.ensures.items now.left in
    let start = run.start ∙ last.start in let room = run.room ∙ last.room in
    let most : b.side * b.side * stride b.room ≤ 1073745920 =
    words_within b.side b.room (omega (arith, c.self.invariant.3, ap (λ (y : BlockShape). y.side) c.self.view_is))
    (omega (arith, c.self.invariant.4, ap (λ (y : BlockShape). y.room) c.self.view_is)) in (
      now.base ∙ sym last.block ∙ sym run.block,
      now.start ∙ last.end ∙ sym (λ i. start i + room i),
      omega (arith, most, room, now.start, now.end, last.end),
    )

pub loop-pieces-preserved : goal.loop-pieces-preserved
loop-pieces-preserved g c =
    let b = c.args.self in let now = c.loop-pieces.invariant in let taken = c.take_last-in-loop-pieces in let run = c.into_run.ensures in
    let joined = c.join-run.ensures in
    let last = last_of b (length c.loop-pieces.pieces.items) c.loop-pieces.pieces.items taken.new.self.items taken.result
    taken.ensures.items now.left in
    let start = run.start ∙ last.start in let room = run.room ∙ last.room in record {
      base = joined.base ∙ run.block ∙ last.block;
      start = joined.start ∙ start;
      end = omega (arith, joined.start, joined.room, start, room, now.start, now.end, last.end);
      left = last.others;
    }
