use Rattle.std.proofs.Common.{ℕ, ◌≡◌, ◌<◌, ◌≤◌, ◌+◌, ◌*◌, Option, Some, ◌∙◌, ap, sym, subst, arith}
use lib.ListN.{get_elem?}
use Rattle.std.specs.Slots.{slots_items, slots_filled, slots_len}
use Rattle.exchange_arena.specs.Piece.{PieceState, emptied_piece}
use Rattle.exchange_arena.specs.Block.{BlockShape}
use Rattle.turnstile.specs.Shelves.{Offers, FullBetween}
use Rattle.turnstile.proofs.Shelvings.{StandFirst, is_some_of, offered, one_more_stands, all_stand, still_full, one_more_empty}
use Rattle.turnstile.proofs.shelf.Shelf.collect.Goals as goal

pub unwrap-letter-requires : goal.unwrap-letter-requires
unwrap-letter-requires c =
    let b = c.self.inside.block in let now = c.loop-k.invariant in let side = c.self.invariant.2 in let k : ℕ = c.loop-k.k in
    let offers = subst (λ (z : BlockShape). Offers z c.args.first (slots_items c.args.closed.now.slots)) (sym c.self.view_is)
    c.requires.pieces in
    let within : k < b.side * b.side = subst (λ (n : ℕ). k < n * n) (sym side) c.loop-k-test.true in
    let got = offered b c.args.first k (slots_items c.args.closed.now.slots) c.take.result offers within
    (ap (λ l. get_elem? l (c.args.first + k)) (sym now.items) ∙ c.take.ensures.value) in
    is_some_of c.take.result got.0 got.1

pub loop-k-preserved : goal.loop-k-preserved
loop-k-preserved c =
    let b = c.self.inside.block in let now = c.loop-k.invariant in let side = c.self.invariant.2 in let k : ℕ = c.loop-k.k in let n : ℕ =
    c.args.first + k in
    let others = c.take.ensures.others in let pushed = c.push_reserved.ensures in
    let offers = subst (λ (z : BlockShape). Offers z c.args.first (slots_items c.args.closed.now.slots)) (sym c.self.view_is)
    c.requires.pieces in
    let within : k < b.side * b.side = subst (λ (m : ℕ). k < m * m) (sym side) c.loop-k-test.true in
    let got = offered b c.args.first k (slots_items c.args.closed.now.slots) c.take.result offers within
    (ap (λ l. get_elem? l (c.args.first + k)) (sym now.items) ∙ c.take.ensures.value) in
    let x : PieceState = c.unwrap-letter.result in let y : PieceState = got.0 in
    let e : Option.Some x ≡ Some y = sym c.unwrap-letter.ensures ∙ got.1 in let same : x ≡ y = cc in
    let next : n + 1 ≡ c.args.first + (k + 1) = omega arith in record {
      items = others.0 ∙ now.items;
      len = others.2 ∙ now.len;
      full = subst (λ (z : ℕ). FullBetween z (slots_len c.args.closed.now.slots) (slots_filled c.take.new.self.slots)) next
          (still_full _ _ n (slots_len c.args.closed.now.slots) others.1 now.full);
      empty = subst (λ (z : ℕ). Rattle.turnstile.specs.Shelves.EmptyBelow z (slots_filled c.take.new.self.slots)) next
          (one_more_empty _ _ n others.1 now.empty);
      stand = subst (StandFirst b (k + 1)) (sym pushed.items) (one_more_stands b k c.loop-k.list.items c.into_piece.result now.stand
          (ap emptied_piece (c.into_piece.ensures.value ∙ same) ∙ got.2));
      fits = subst (λ (z : ℕ). c.self.inside.side * c.self.inside.side ≤ z) (sym pushed.capacity) now.fits;
    }

pub join-requires : goal.join-requires
join-requires c = let b = c.self.inside.block in let now = c.loop-k.invariant in let side = c.self.invariant.2 in
    let same : b.side * b.side ≡ c.self.inside.side * c.self.inside.side = ap (λ (m : ℕ). m * m) side in
    record {
      covered = all_stand b c.loop-k.k c.loop-k.list.items (let e = c.loop-k-test.false in let m = c.loop-k.auto.k-end in
          omega arith) now.stand;
    }
