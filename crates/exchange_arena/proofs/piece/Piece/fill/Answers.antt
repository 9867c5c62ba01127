use Rattle.std.proofs.Common.{◌≡◌, ℕ, ◌/◌, rules, take, drop, ap, ◌∙◌}
use Rattle.std.proofs.lemmas.List.{take_at}
use Rattle.exchange_arena.proofs.PieceLists.{drop_at}
use Rattle.exchange_arena.specs.Piece.{PieceState, stride}
use Rattle.exchange_arena.proofs.piece.Piece.fill.Goals as goal

-- the run begins with the header, and the words follow it
pub returns-clause-filled : goal.returns-clause-filled
returns-clause-filled c =
    let h = c.args.header in let ws = c.args.words.now in let run = c.write.ensures.written in let same = c.self.view_is in
    let front : take 4 c.write.new.run.items ≡ h = ap (take 4) run.items ∙ take_at h ws 4 (search rules) in
    let back : drop 4 c.write.new.run.items ≡ ws = ap (drop 4) run.items ∙ drop_at h ws 4 (search rules) in
    let base = run.base ∙ ap (λ (x : PieceState). x.block) same in
    let place = ap (λ (j : ℕ). j / stride c.self.inside.room) run.start ∙ ap (λ (x : PieceState). x.place) same in
    let room = ap (λ (x : PieceState). x.room) same in λ i. record {
      header = front i;
      words = back i;
      block = base i;
      place = place i;
      room = room i;
    }
