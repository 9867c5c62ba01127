use Rattle.straight_lowering.specs.Operands.{formula}
use Rattle.straight_lowering.proofs.Levels.{level_more}
use Rattle.straight_lowering.proofs.values.gather.Goals as goal

pub loop-level-preserved : goal.loop-level-preserved
loop-level-preserved c =
    level_more c.args.side c.loop-level.level (formula c.args.operands) c.args.base c.args.stack c.args.out.now c.loop-level.out
    c.level_asks.new.out c.exchange.new.self c.loop-level.invariant c.in_ok-level_asks.ensures c.in_ok-exchange.ensures
