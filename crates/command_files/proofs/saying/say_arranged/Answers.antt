use Rattle.std.proofs.Common.{List, map, refl, subst, sym}
use Rattle.std.specs.String.{string_bytes}
use Rattle.program_texts.specs.declared.stop.Stop.{Stop}
use Rattle.diagnoses.specs.declared.about.About.{About}
use Rattle.diagnoses.specs.declared.about.About.TheVariants.{Nothing}
use Rattle.command_requests.specs.declared.request.ProgramFile.{ProgramFile}
use Rattle.command_files.specs.Left as left
use Rattle.command_files.specs.Left.{Gathers, found_is}
use Rattle.command_files.proofs.saying.say_arranged.Goals as goal

pub returns-in-Ok : goal.returns-in-Ok
returns-in-Ok g c =
    let refuses = g.T.Voice.refuses c.args.voice.now (map string_bytes c.args.call.now) in
    let so = subst (λ (fs : List ProgramFile). Gathers refuses (g.S.Sources.holds c.args.sources.now) c.args.words.now.form
    (g.E.Out.state c.args.err.now) fs (g.E.Out.state c.gather.new.err) (found_is c.in-Ok.found)) c.deref.ensures.value
    c.in-Ok.ensures.gathers in
    left.AllFiles (found_is c.in-Ok.found) (g.E.Out.state c.gather.new.err) c.say_found.result so c.say_found.ensures

pub returns-in-Err : goal.returns-in-Err
returns-in-Err g c =
    let refuses = g.T.Voice.refuses c.args.voice.now (map string_bytes c.args.call.now) in
    left.NoMemory (g.E.Out.state c.gather.new.err) c.in-Err.ensures.failed
    (subst (λ (why : Stop). refuses why Nothing (g.E.Out.state c.gather.new.err) (g.E.Out.state c.refuse.new.err)) c.from.ensures.0
    (subst (λ (a : About). refuses c.from.result.stop a (g.E.Out.state c.gather.new.err) (g.E.Out.state c.refuse.new.err))
    c.from.ensures.1 c.refuse.ensures.said)) refl
