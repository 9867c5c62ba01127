use Rattle.std.proofs.Common.{rules, arith}
use Rattle.worker_bank.proofs.level.Level.everyone.Goals as goal

pub returns-clause-room : goal.returns-clause-room
returns-clause-room c = record {
  active_room = c.in_ok-active.ensures.room;
  left_room = search rules;
  active = omega arith;
  left = omega arith;
  kept = omega arith;
  dropped = omega arith;
}
