use Rattle.flat_stretches.proofs.Applied.{instructions_apply, writes_apply, sends_are_same, sends_of_writes_apply, replies_apply}
use Rattle.flat_stretches.proofs.Applied.{votes_apply}
use Rattle.flat_stretches.proofs.Applied.{bare_is_applied, empty_sends_are_nothing}
use Rattle.std.proofs.Common.{refl}
use Rattle.flat_stretches.proofs.stretch_laws.held_writes_apply.Goals as goal

pub returns : goal.returns
returns c = record {
  instructions = instructions_apply;
  writes = writes_apply;
  sends = sends_are_same;
  memory = λ code f. refl;
  lone_sends = sends_of_writes_apply;
  replies = replies_apply;
  votes = votes_apply;
  bare = bare_is_applied;
  empty_sends = empty_sends_are_nothing;
}
