use Rattle.std.proofs.Common.{◌<◌, ◌≡◌, ◌+◌, ◌∙◌, arith, length, refl}
use Rattle.pages.specs.Cut.{room}
use Rattle.pages.proofs.KeptTexts.{others_held}
use Rattle.pages.proofs.LinePlaces.{lines_to}
use Rattle.pages.proofs.lines.KeptLines.behind_some.Goals as goal

pub returns : goal.returns
returns c head text h first count left begins =
    let k = c.args.self in
    let size = c.size_of_lines-size in
    let far : room < length k.last.items =
    (let l = c.len.ensures in let o = k.last.ok.0 in let f = c.if-len-le-ROOM.false in omega (arith, l, o, f)) in
    let before : c.in-Some.before ≡ k.before + size.result = (let e = c.in-Some.ensures in omega (arith, e)) in
    others_held k _ head text size.result far first refl before count
    (lines_to head text c.deref.result.now c.args.left size.result (c.deref.ensures.value ∙ first) left begins size.ensures) h
