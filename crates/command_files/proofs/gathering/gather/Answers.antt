use Rattle.std.proofs.Common.{map, take, subst, sym}
use Rattle.std.specs.String.{string_bytes}
use Rattle.text_out.specs.Out.{OutState}
use Rattle.command_facts.proofs.Same.{same_through}
use Rattle.command_files.specs.Left.{Gathers, GathersSome, found_is}
use Rattle.command_files.proofs.Files.{takes_held}
use Rattle.command_files.proofs.OneByOne.{begun, on_err, one_more}
use Rattle.command_files.proofs.gathering.gather.Goals as goal

pub loop-file-init : goal.loop-file-init
loop-file-init g c = record {
  gathers = begun (g.T.Voice.refuses c.args.voice.now (map string_bytes c.args.call.now)) (g.S.Sources.holds c.args.sources.now) c.args.form
      (g.E.Out.state c.args.err.now) c.new.result.items c.new-2.result.items c.new.ensures.items c.new-2.ensures.items;
  same = λ name bytes. (λ h. h, λ h. h);
}

pub returns-in_err-take-clause-failed : goal.returns-in_err-take-clause-failed
returns-in_err-take-clause-failed g c =
    let refuses = g.T.Voice.refuses c.args.voice.now (map string_bytes c.args.call.now) in
    let holds = g.S.Sources.holds c.args.sources.now in
    let files = take c.loop-file.file-index c.args.files.now in
    let found = found_is c.loop-file.to in
    let so : Gathers refuses holds c.args.form (g.E.Out.state c.args.err.now) files (g.E.Out.state c.take.new.err) found =
    subst (λ (e : OutState). Gathers refuses holds c.args.form (g.E.Out.state c.args.err.now) files e found)
    (sym c.in_err-take.ensures.failed) c.loop-file.invariant.gathers in
    on_err c.from_residual.result
    (GathersSome refuses holds c.args.form (g.E.Out.state c.args.err.now) (g.E.Out.state c.take.new.err)) (files, found, so)

pub loop-file-preserved : goal.loop-file-preserved
loop-file-preserved g c =
    let refuses = g.T.Voice.refuses c.args.voice.now (map string_bytes c.args.call.now) in
    let before = g.S.Sources.holds c.args.sources.now in
    let now = g.S.Sources.holds c.loop-file.sources in
    record {
      gathers = one_more refuses before c.args.form (g.E.Out.state c.args.err.now) (g.E.Out.state c.loop-file.err)
          (g.E.Out.state c.take.new.err) c.args.files.now c.loop-file.file-index c.file-item.result (found_is c.loop-file.to)
          (found_is c.take.new.to) c.loop-file-test.true c.file-item.is c.loop-file.invariant.gathers
          (takes_held now before c.loop-file.invariant.same refuses c.args.form c.file-item.result (found_is c.loop-file.to)
          (found_is c.take.new.to) (g.E.Out.state c.loop-file.err) (g.E.Out.state c.take.new.err) c.in_ok-take.ensures.takes);
      same = same_through before now (g.S.Sources.holds c.take.new.sources) c.take.ensures.same c.loop-file.invariant.same;
    }
