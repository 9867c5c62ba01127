use Rattle.std.proofs.lemmas.Bool.{OnTrue_at, OnTrue_from}
use Rattle.workers.proofs.HandLemmas.{filled_is}
use Rattle.workers.proofs.hands.RowHandRow.fill.Goals as goal

pub returns-clause-filled : goal.returns-clause-filled
returns-clause-filled c = OnTrue_from _ _ (λ t. filled_is c.args.self.now.seat c.fill.new.self c.args.to
    (record { header = c.args.header; words = c.args.words.now }) (OnTrue_at t c.fill.ensures.filled))
