use Rattle.std.proofs.Common.{sym, ◌∙◌, arith, []}
use Rattle.turnstile.proofs.Sayings.{opens, nothings_are, hold_steps}
use Rattle.turnstile.proofs.start.line.StartLine.new.Goals as goal

pub vacant-requires : goal.vacant-requires
vacant-requires g c = opens c.args.runners _ (nothings_are g.row.T.Denot c.args.runners)

pub load-requires : goal.load-requires
load-requires g c = let t = c.in_ok-table.ensures in let own = c.part-all.ensures.own in let table = c.in_ok-table.table.shared in (
  own.0 ∙ t.2,
  (let q = t.0 in omega arith),
  hold_steps table.key table.table_id.slots c.part-all.new.chair.id c.part-all.new.chair.me
      c.args.runners [] (t.1 ∙ sym t.5) own.2,
)
