use Rattle.std.proofs.Common.{◌+◌, ◌<◌, ◌≤◌, subst, sym}
use Rattle.pages.specs.Cut.{room}
use Rattle.pages.proofs.Fronting.{Fronting, fronting_full, fronting_line, fronting_on}
use Rattle.pages.proofs.cut.front.Goals as goal

pub returns-then-size-gt-ROOM : goal.returns-then-size-gt-ROOM
returns-then-size-gt-ROOM c =
    fronting_full c.args.first.now c.args.most c.args.beside c.loop-at.whole c.loop-at.size c.loop-at.at 0 c.loop-at.invariant
    c.loop-at-test.true
    (subst (λ w. room < c.loop-at.size + w) c.width-size.ensures c.if-size-gt-ROOM.true)

pub loop-at-preserved-then-byte-eq10 : goal.loop-at-preserved-then-byte-eq10
loop-at-preserved-then-byte-eq10 c =
    subst (λ w. Fronting c.args.first.now c.args.most c.args.beside (c.loop-at.at + 1) (c.loop-at.size + w) (c.loop-at.at + 1))
    (sym c.width-size.ensures)
    (fronting_line c.args.first.now c.args.most c.args.beside c.loop-at.whole c.loop-at.size c.loop-at.at 0 c.loop-at.invariant
    c.loop-at-test.true (subst (λ w. c.loop-at.size + w ≤ room) c.width-size.ensures c.if-size-gt-ROOM.false) c.if-byte-eq10.true)

pub loop-at-preserved : goal.loop-at-preserved
loop-at-preserved c =
    subst (λ w. Fronting c.args.first.now c.args.most c.args.beside c.loop-at.whole (c.loop-at.size + w) (c.loop-at.at + 1))
    (sym c.width-size.ensures)
    (fronting_on c.args.first.now c.args.most c.args.beside c.loop-at.whole c.loop-at.size c.loop-at.at 0 c.loop-at.invariant
    c.loop-at-test.true (subst (λ w. c.loop-at.size + w ≤ room) c.width-size.ensures c.if-size-gt-ROOM.false) c.if-byte-eq10.false)
