use Rattle.std.proofs.Common.{map}
use Rattle.std.specs.String.{string_bytes}
use Rattle.command_files.specs.Left as left
use Rattle.command_files.proofs.OneByOne.{one_written}
use Rattle.command_files.proofs.saying.write_files.Goals as goal

pub loop-file-init : goal.loop-file-init
loop-file-init g c = left.NoChange

pub loop-file-preserved : goal.loop-file-preserved
loop-file-preserved g c =
    one_written (g.T.Voice.refuses c.args.voice.now (map string_bytes c.args.call.now)) c.args.status c.loop-file.ends c.write_one-ends.result
    (g.E.Out.state c.args.err.now) (g.E.Out.state c.loop-file.err) (g.E.Out.state c.write_one-ends.new.err) c.args.files.now
    c.loop-file.file-index c.file-item.result c.loop-file-test.true c.file-item.is c.loop-file.invariant c.write_one-ends.ensures
