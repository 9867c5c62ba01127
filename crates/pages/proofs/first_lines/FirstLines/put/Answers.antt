use Rattle.std.proofs.Common.{◌≤◌, arith, length}
use Rattle.pages.specs.Cut.{room}
use Rattle.pages.proofs.FirstBytes.{still_full}
use Rattle.pages.proofs.first_lines.FirstLines.put.Goals as goal

pub returns-then-len-ge-ROOM-clause-bytes : goal.returns-then-len-ge-ROOM-clause-bytes
returns-then-len-ge-ROOM-clause-bytes c text is =
    let bytes = c.args.self.now.bytes in
    let full : room ≤ length bytes.items =
    (let l = c.len.ensures in let o = bytes.ok.0 in let f = c.if-len-ge-ROOM.true in omega (arith, l, o, f)) in
    still_full bytes.items text _ is full
