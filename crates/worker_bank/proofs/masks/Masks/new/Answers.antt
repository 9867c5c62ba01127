use Rattle.std.proofs.Common.{arith}
use Rattle.worker_bank.proofs.masks.Masks.new.Goals as goal

pub returns-clause-masks : goal.returns-clause-masks
returns-clause-masks c = record {
  levels = c.in_ok-levels.ensures.levels;
  spare = c.in_ok-spare.ensures.room;
  everyone = c.in_ok-levels.ensures.everyone;
  many = omega arith;
  depth = (let n = c.in_ok-levels.ensures.count in omega arith);
  nested = record { all = c.in_ok-levels.ensures.none; each = λ d l. absurd (omega arith) };
}
