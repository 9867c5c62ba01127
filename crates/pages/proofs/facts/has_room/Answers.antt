use Rattle.std.proofs.Common.{◌≡◌, ◌+◌, ap, arith, length, sym, take}
use Rattle.std.proofs.lemmas.Bool.{lt-leb}
use Rattle.std.proofs.lemmas.List.{take_all}
use Rattle.pages.specs.Facts.{embedded, state_room}
use Rattle.pages.proofs.Fronting.{grows, sized_more}
use Rattle.pages.proofs.facts.has_room.Goals as goal

pub returns-then-size-gt-STATE_ROOM : goal.returns-then-size-gt-STATE_ROOM
returns-then-size-gt-STATE_ROOM c =
    let bytes = c.args.state.now in
    let at = c.loop-byte.byte-index in
    let below = c.loop-byte-test.true in
    let more = sized_more bytes at 0 below in
    let far = grows bytes (at + 1) (length bytes) (omega (arith, below)) in
    let whole = ap (λ l. length (embedded l)) (take_all (length bytes) bytes (omega arith)) in
    let sized : c.loop-byte.size ≡ length (embedded (take at bytes)) = c.loop-byte.invariant.sized in
    let wide = c.width-size.ensures in
    let full = c.if-size-gt-STATE_ROOM.true in
    sym (lt-leb (length (embedded bytes)) state_room (omega (arith, more, far, whole, sized, wide, full)))

pub loop-byte-preserved : goal.loop-byte-preserved
loop-byte-preserved c =
    let more = sized_more c.args.state.now c.loop-byte.byte-index 0 c.loop-byte-test.true in
    let sized : c.loop-byte.size ≡ length (embedded (take c.loop-byte.byte-index c.args.state.now)) = c.loop-byte.invariant.sized in
    let wide = c.width-size.ensures in
    record { sized = omega (arith, more, sized, wide); little = c.if-size-gt-STATE_ROOM.false }
