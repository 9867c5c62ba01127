use Rattle.std.proofs.Common.{map, take}
use Rattle.std.specs.String.{string_bytes}
use Rattle.system_files.specs.Files.{IsSame}
use Rattle.command_files.specs.Left.{Gathers, found_is}
use Rattle.command_files.proofs.gathering.gather.Given as goal

-- what was found so far is of the files so far, and the files hold what they did
abbrev pub invariant-loop-file : goal.invariant-loop-file
invariant-loop-file g l = record {
  gathers : Gathers (g.T.Voice.refuses l.voice (map string_bytes l.call)) (g.S.Sources.holds l.fn.sources) l.form (g.E.Out.state l.fn.err)
      (take l.file-index l.files) (g.E.Out.state l.err) (found_is l.to);
  same : IsSame (g.S.Sources.holds l.sources) (g.S.Sources.holds l.fn.sources);
}
