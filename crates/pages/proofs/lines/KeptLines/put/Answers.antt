use Rattle.std.proofs.Common.{arith, refl}
use Rattle.pages.proofs.KeptTexts.{put_held}
use Rattle.pages.proofs.lines.KeptLines.put.Goals as goal

pub returns : goal.returns
returns c text h =
    let added = c.in-Some.ensures in
    let counted = c.line_count.ensures.value in
    put_held c.args.self.now _ text c.args.bytes.now (c.in_ok-push_first.ensures text h.first) c.in_ok-extend_from_slice.ensures.items refl
    (omega (arith, added, counted)) h
