use Rattle.flat_stretches.proofs.Along.{nothing_decides, runs_begin, work_goes_on, marks_go_on, sends_go_on, replies_go_on, votes_go_on}
use Rattle.flat_stretches.proofs.Along.{jumps_go_on, forks_go_on, more_may_be_spent}
use Rattle.flat_stretches.proofs.stretch_laws.runs_go_on.Goals as goal

pub returns : goal.returns
returns c = record {
  begin = runs_begin;
  more = more_may_be_spent;
  work = work_goes_on;
  marks = marks_go_on;
  sends = sends_go_on;
  replies = replies_go_on;
  votes = votes_go_on;
  jumps = jumps_go_on;
  forks = forks_go_on;
  undecided = nothing_decides;
}
