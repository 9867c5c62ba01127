use Rattle.std.proofs.Common.{[]}
use Rattle.pictures.specs.Flows.Asides.{asides_in}
use Rattle.journal.specs.RunEntries.{run_entries}
use Rattle.journal.proofs.HeardInTime.{given_of}
use Rattle.pictures.proofs.flows.drawn_run.draw_run.Goals as goal

pub returns-in_ok-drawing-in-Ok-clause-drawn : goal.returns-in_ok-drawing-in-Ok-clause-drawn
returns-in_ok-drawing-in-Ok-clause-drawn g c =
    let program = c.args.program.now in
    let input = c.args.input.now in
    let asides = asides_in program.body in
    let told = given_of c.tell_in_time-taker.result.1 _ c.in-Ok.ending c.in-Ok.is c.tell_in_time-taker.ensures.told in
    c.in_ok-drawing-in-Ok.ensures.drawn asides input c.args.from c.args.to (run_entries program input c.in-Ok.ending.bound)
    (told.1.taken input c.args.from c.args.to [] (c.in_ok-flow.ensures.begins asides))
