use Rattle.std.proofs.Common.{ℕ, ◌≡◌, ◌*◌, ◌∙◌, ap, length, arith}
use Rattle.exchange_arena.proofs.PieceLists.{length-first_pieces}
use Rattle.turnstile.proofs.shelf.Shelf.new.Goals as goal

pub lay_out-requires : goal.lay_out-requires
lay_out-requires c = let b = c.in_ok-block.block in let made = c.in_ok-block.ensures in
    let count : length c.in_ok-block.list.items ≡ b.side * b.side = ap length made.pieces ∙ length-first_pieces b (b.side * b.side) in
    let same : b.side * b.side ≡ c.args.side * c.args.side = ap (λ (n : ℕ). n * n) made.side in
    record { fits = let a = c.requires.fits in omega (arith, count, same, a) }

pub invariant_of-result : goal.invariant_of-result
invariant_of-result c = let b = c.in_ok-block.block in let made = c.in_ok-block.ensures in
    let count : length c.in_ok-block.list.items ≡ b.side * b.side = ap length made.pieces ∙ length-first_pieces b (b.side * b.side) in
    let same : b.side * b.side ≡ c.args.side * c.args.side = ap (λ (n : ℕ). n * n) made.side in
    let laid = c.lay_out.ensures in (
      laid.empty,
      (let a = laid.capacity.1 in let f = c.in_ok-block.list.ok in omega (arith, count, same, a, f)),
      made.side,
      c.requires.shape.0,
      c.requires.shape.1,
    )
