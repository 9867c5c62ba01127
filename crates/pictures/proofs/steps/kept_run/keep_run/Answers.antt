use Rattle.std.proofs.Common.{arith, length, refl, ◌+◌, ◌≡◌}
use Rattle.journal.specs.RunEntries.{run_entries}
use Rattle.journal.proofs.HeardInTime.{given_of}
use Rattle.pictures.proofs.OfSteps.KeptEntries.{kept_of_all}
use Rattle.pictures.proofs.steps.kept_run.keep_run.Goals as goal

pub returns-in-Ok-clause-kept : goal.returns-in-Ok-clause-kept
returns-in-Ok-clause-kept g c =
    let told = given_of c.tell_in_time-keeper.result.1 _ c.in-Ok.ending c.in-Ok.is c.tell_in_time-keeper.ensures.told in
    kept_of_all _ _ _ _ _ _ _ told.2 refl c.new.ensures

pub returns-in-Ok-clause-counted : goal.returns-in-Ok-clause-counted
returns-in-Ok-clause-counted g c =
    let told = given_of c.tell_in_time-keeper.result.1 _ c.in-Ok.ending c.in-Ok.is c.tell_in_time-keeper.ensures.told in
    let es = run_entries c.args.program.now c.args.input.now c.in-Ok.ending.bound in
    let n : c.tell_in_time-keeper.result.0.count ≡ 0 + length es = told.2.counted in
    omega (arith, n)
