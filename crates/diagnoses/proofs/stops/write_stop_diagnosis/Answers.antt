use Rattle.std.proofs.Common.{◌++◌, inl, inr, refl}
use Rattle.help.specs.Messages.{message_is}
use Rattle.diagnoses.specs.FalseLines.{note_about}
use Rattle.diagnoses.specs.Stops.{text_about, unsaid}
use Rattle.diagnoses.proofs.stops.write_stop_diagnosis.Goals as goal

pub returns-in-Ok : goal.returns-in-Ok
returns-in-Ok g c =
    let m = message_is c.in-Ok.message in
    record { written = (text_about c.args.about.now m ++ note_about c.args.about.now, inr (m, c.in-Ok.ensures, refl), c.write_with_note.ensures.written) }

pub returns-in-Err : goal.returns-in-Err
returns-in-Err g c = record { written = (unsaid, inl refl, c.write_all.ensures.written) }
