use Rattle.std.proofs.Common.{◌++◌, [], map, Some, ◌∙◌, sym, append-nil}
use Rattle.exchange_arena.specs.Block.{pieces_of}
use Rattle.turnstile.proofs.Halves.{apart, second_left}
use Rattle.turnstile.proofs.blocks.Blocks.take_back.Goals as goal

pub take_back-requires : goal.take_back-requires
take_back-requires c = let e = c.self.inside.even in let o = c.self.inside.odd in let b =
    apart c.args.self e o c.self.view_is c.self.invariant.0 c.self.invariant.1 in
    record {
      pieces = (
        map Some (pieces_of o),
        c.from-slots.ensures.0 ∙ c.requires.slots
            ∙ (λ q. map Some (pieces_of (b.0 q)) ++ map Some (pieces_of (b.1 q))),
      );
    }

pub take_back-requires-2 : goal.take_back-requires-2
take_back-requires-2 c = let e = c.self.inside.even in let o = c.self.inside.odd in let b =
    apart c.args.self e o c.self.view_is c.self.invariant.0 c.self.invariant.1 in
    record {
      pieces = (
        [],
        c.take_back.ensures.rest ∙ second_left e o c.from-slots.result.items (c.from-slots.ensures.0 ∙ c.requires.slots
            ∙ (λ q. map Some (pieces_of (b.0 q)) ++ map Some (pieces_of (b.1 q)))) ∙ sym (append-nil (map Some (pieces_of o))),
      );
    }
