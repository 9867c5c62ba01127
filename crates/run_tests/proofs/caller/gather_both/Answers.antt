use Rattle.std.proofs.Common.{[], ◌∷◌, ◌++◌, ap, ◌∙◌}
use Rattle.run_tests.proofs.Pairs.{both_ended}
use Rattle.run_tests.proofs.caller.gather_both.Goals as goal

pub gather-requires-clause-ended : goal.gather-requires-clause-ended
gather-requires-clause-ended g c = record {
  bound = c.args.bound;
  input = c.args.input.now;
  ended = (both_ended c.args.code.now (g.M.AddressMap.shape c.args.map.now) c.args.bound c.args.input.now c.args.first.0 c.args.second.0
      c.args.first.1 c.args.second.1 c.push_reserved-2.new.self.items c.push_reserved-4.new.self.items c.requires.parts
      (c.push_reserved-2.ensures.items
      ∙ ap (λ l. l ++ c.args.second.0 ∷ []) (c.push_reserved.ensures.items ∙ ap (λ l. l ++ c.args.first.0 ∷ []) c.args.room.for_seats.0))
      (c.push_reserved-4.ensures.items
      ∙ ap (λ l. l ++ c.args.second.1 ∷ []) (c.push_reserved-3.ensures.items ∙ ap (λ l. l ++ c.args.first.1 ∷ [])
      c.args.room.for_workers.0))
      c.requires.first.ended c.requires.second.ended);
}

pub returns-in-Ok-clause-outcome : goal.returns-in-Ok-clause-outcome
returns-in-Ok-clause-outcome g c = c.in-Ok.ensures.outcome c.args.bound c.args.input.now
    (both_ended c.args.code.now (g.M.AddressMap.shape c.args.map.now) c.args.bound c.args.input.now c.args.first.0 c.args.second.0
    c.args.first.1 c.args.second.1 c.push_reserved-2.new.self.items c.push_reserved-4.new.self.items c.requires.parts
    (c.push_reserved-2.ensures.items
    ∙ ap (λ l. l ++ c.args.second.0 ∷ []) (c.push_reserved.ensures.items ∙ ap (λ l. l ++ c.args.first.0 ∷ []) c.args.room.for_seats.0))
    (c.push_reserved-4.ensures.items
    ∙ ap (λ l. l ++ c.args.second.1 ∷ []) (c.push_reserved-3.ensures.items ∙ ap (λ l. l ++ c.args.first.1 ∷ []) c.args.room.for_workers.0))
    c.requires.first.ended c.requires.second.ended)

pub returns-in-Ok-clause-counts : goal.returns-in-Ok-clause-counts
returns-in-Ok-clause-counts g c = c.in-Ok.ensures.counts c.args.bound c.args.input.now
    (both_ended c.args.code.now (g.M.AddressMap.shape c.args.map.now) c.args.bound c.args.input.now c.args.first.0 c.args.second.0
    c.args.first.1 c.args.second.1 c.push_reserved-2.new.self.items c.push_reserved-4.new.self.items c.requires.parts
    (c.push_reserved-2.ensures.items
    ∙ ap (λ l. l ++ c.args.second.0 ∷ []) (c.push_reserved.ensures.items ∙ ap (λ l. l ++ c.args.first.0 ∷ []) c.args.room.for_seats.0))
    (c.push_reserved-4.ensures.items
    ∙ ap (λ l. l ++ c.args.second.1 ∷ []) (c.push_reserved-3.ensures.items ∙ ap (λ l. l ++ c.args.first.1 ∷ []) c.args.room.for_workers.0))
    c.requires.first.ended c.requires.second.ended)
