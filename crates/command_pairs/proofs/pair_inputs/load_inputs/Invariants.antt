use Rattle.std.proofs.Common.{map, take}
use Rattle.std.specs.List.{AllZip}
use Rattle.system_files.specs.Files.{IsSame}
use Rattle.comparing.specs.Found.{values_of}
use Rattle.command_pairs.specs.Pairs.{IsInputOfFile}
use Rattle.command_pairs.proofs.pair_inputs.load_inputs.Given as goal

-- the inputs so far are those of the files so far, and the files hold what they did
abbrev pub invariant-loop-file : goal.invariant-loop-file
invariant-loop-file g l =
    AllZip (IsInputOfFile (g.S.Sources.holds l.fn.sources)) (take l.file-index l.files) (map values_of l.inputs.items)
    × IsSame (g.S.Sources.holds l.sources) (g.S.Sources.holds l.fn.sources)
