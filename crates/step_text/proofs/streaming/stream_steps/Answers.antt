use Rattle.std.proofs.Common.{◌∙◌, Err, ap, rules}
use Rattle.journal.proofs.HeardInTime.{given_of}
use Rattle.step_text.proofs.Parts.{all_written, first_written, none_written, write_failed}
use Rattle.step_text.proofs.streaming.stream_steps.Goals as goal

pub returns-in-Ok-clause-written : goal.returns-in-Ok-clause-written
returns-in-Ok-clause-written g c =
    let told = given_of c.run_into-stream.new.done _ c.in-Ok.ending c.in-Ok.is c.run_into-stream.ensures.told in
    let written = all_written _ _ _ _ _ _ _ c.layout.ensures told in
    search rules

pub returns-in-Err-InputTooLong-clause-written : goal.returns-in-Err-InputTooLong-clause-written
returns-in-Err-InputTooLong-clause-written g c =
    let e = c.in-Err-InputTooLong in
    let refused = rw e.is at e.field-0-is in
    let written = none_written _ _ _ _ _ (c.run_into-stream.ensures.untold (e.is ∙ ap Err refused)) in
    search rules

pub returns-then-failed-clause-written : goal.returns-then-failed-clause-written
returns-then-failed-clause-written g c =
    let e = c.in-Err-OutOfMemory in
    let refused = rw e.is at e.field-0-is in
    let written = write_failed _ _ _ _ _ _ c.layout.ensures (c.run_into-stream.ensures.part (e.is ∙ ap Err refused)) c.if-failed.true in
    search rules

pub returns-else-failed-clause-written : goal.returns-else-failed-clause-written
returns-else-failed-clause-written g c =
    let e = c.in-Err-OutOfMemory in
    let refused = rw e.is at e.field-0-is in
    let written = first_written _ _ _ _ _ _ c.layout.ensures (c.run_into-stream.ensures.part (e.is ∙ ap Err refused)) c.if-failed.false in
    search rules
