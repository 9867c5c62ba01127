use Rattle.std.proofs.Common.{take}
use Rattle.std.specs.List.{AllZip}
use Rattle.system_files.specs.Files.{IsSame}
use Rattle.command_sweeps.specs.Sweeps.{IsRow}
use Rattle.command_sweeps.proofs.sweeping.rows_of.Given as goal

-- the rows so far are those of the sizes so far, and the files hold what they did
abbrev pub invariant-loop-size : goal.invariant-loop-size
invariant-loop-size g l =
    AllZip (IsRow (g.S.Sources.holds l.fn.sources) l.fn.file l.fn.words) (take l.size-index l.sizes) l.rows.items
    × IsSame (g.S.Sources.holds l.sources) (g.S.Sources.holds l.fn.sources)
