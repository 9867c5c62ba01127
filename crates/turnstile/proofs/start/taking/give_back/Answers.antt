use Rattle.std.proofs.Common.{◌∙◌, sym, false}
use Rattle.turnstile.specs.Lines.{runner, held}
use Rattle.turnstile.proofs.Sayings.{back_steps, has_item}
use Rattle.turnstile.proofs.start.taking.give_back.Goals as goal

pub load-requires : goal.load-requires
load-requires g c = let h = has_item c.args.chair.now.me.0.heard (sym c.requires.runner.1 ∙ c.if-holds.true) in let chair =
    c.args.chair.now in let board = c.args.board.now in (
      c.requires.own.0,
      c.requires.own.1,
      back_steps board.key board.table_id.slots chair.id c.args.at chair.me h.0 (c.requires.runner.0
          ∙ (λ q. (runner c.args.at (h.1 q) false, held (c.if-holds.true q) c.args.at))),
    )
