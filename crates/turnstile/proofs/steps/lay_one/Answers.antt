use Rattle.std.proofs.Common.{ℕ, ◌+◌, ◌≡◌, ◌∷◌, ◌++◌, [], ◌∙◌, ap, Some, Option, option_to_list, arith}
use Rattle.atomic_table.specs.Table.{rest}
use Rattle.exchange_arena.specs.Piece.{PieceState}
use Rattle.turnstile.specs.Turns.{slot}
use Rattle.turnstile.proofs.steps.lay_one.Goals as goal

pub returns-clause-laid : goal.returns-clause-laid
returns-clause-laid c = let k = c.args.work.now in let x = c.unwrap-x.result in let y = c.unwrap-y.result in let n : ℕ = k.round in
    let z : n + 2 ≡ n + 1 + 1 = omega arith in
    let a = c.slot_at-first.ensures in let b = c.slot_at-second.ensures ∙ ap (λ (q : ℕ). slot k.workers q c.args.j k.worker) z in
    let row = c.pop_front.new.self.items in let column = c.pop_front-2.new.self.items in (
      x,
      y,
      c.pop_front.ensures.items ∙ ap (λ (o : Option PieceState). option_to_list o ++ row) c.unwrap-x.ensures,
      c.pop_front-2.ensures.items ∙ ap (λ (o : Option PieceState). option_to_list o ++ column) c.unwrap-y.ensures,
      c.lay_two.ensures.slots ∙ (λ q. (k.chair.me.0, rest (rest k.chair.me.1) ++ (a q, Some x) ∷ (b q, Some y) ∷ [])),
    )
