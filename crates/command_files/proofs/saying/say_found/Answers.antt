use Rattle.std.proofs.Common.{map}
use Rattle.std.specs.String.{string_bytes}
use Rattle.command_files.specs.Left.{found_is}
use Rattle.command_files.proofs.Telling.{cut_off, told}
use Rattle.command_files.proofs.saying.say_found.Goals as goal

pub returns-in-Ok : goal.returns-in-Ok
returns-in-Ok g c =
    told (g.T.Voice.refuses c.args.voice.now (map string_bytes c.args.call.now)) (found_is c.args.found.now) _ _ _ _ c.write_files-ends.result
    c.deref.result.now c.deref-2.result.now c.deref.ensures.value c.deref-2.ensures.value c.write_files-ends.ensures c.in-Ok.status
    c.in-Ok.ensures.written

pub returns-in-Err : goal.returns-in-Err
returns-in-Err g c =
    cut_off (g.T.Voice.refuses c.args.voice.now (map string_bytes c.args.call.now)) (found_is c.args.found.now) _ _ _ _
    c.write_files-ends.result c.deref.result.now c.deref-2.result.now c.deref.ensures.value c.deref-2.ensures.value
    c.write_files-ends.ensures c.in-Err.stop c.from.result.stop c.from.result.about _ c.in-Err.ensures.written c.from.ensures.0
    c.from.ensures.1 c.refuse.ensures.said
