use Rattle.std.proofs.Common.{map, take}
use Rattle.std.specs.String.{string_bytes}
use Rattle.command_files.specs.Left.{Writes}
use Rattle.command_files.proofs.saying.write_files.Given as goal

abbrev pub invariant-loop-file : goal.invariant-loop-file
invariant-loop-file g l = Writes (g.T.Voice.refuses l.voice (map string_bytes l.call)) l.fn.status (g.E.Out.state l.fn.err)
    (take l.file-index l.files) (g.E.Out.state l.err) l.ends
