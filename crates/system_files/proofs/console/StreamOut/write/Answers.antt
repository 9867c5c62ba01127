use Rattle.std.proofs.Common.{◌∙◌, ap}
use Rattle.system_files.specs.Held.{held_in}
use Rattle.system_files.proofs.Blocks.{held_behind}
use Rattle.system_files.proofs.console.StreamOut.write.Goals as goal

pub returns-clause-taken : goal.returns-clause-taken
returns-clause-taken g c =
    let s = c.make_room_in_full.new.self in
    let kept = c.in_ok-make_room_in_full.ensures.kept in
    let new = c.hold.new.self in (
      held_in s.long.items s.len s.held,
      kept.0,
      ap (λ long. held_in long.items new.len new.held) c.hold.ensures.long ∙ held_behind s.long.items s.held new.held _ s.len new.len c.hold.ensures.kept,
      c.hold.ensures.failed ∙ kept.1,
    )
