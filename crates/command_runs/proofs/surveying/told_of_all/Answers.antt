use Rattle.command_runs.proofs.Overalls.{ends_behind_time}
use Rattle.command_runs.proofs.surveying.told_of_all.Goals as goal

pub returns-in-Ok : goal.returns-in-Ok
returns-in-Ok c = record {
  outcomes = c.in-Ok.ensures.told;
  times = λ input output memory here is.
      ends_behind_time c.args.program.now input c.args.bound output memory c.in-Ok.overall (λ m. c.in-Ok.ensures.time input m here) is;
}
