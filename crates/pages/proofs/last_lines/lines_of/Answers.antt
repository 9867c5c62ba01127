use Rattle.std.proofs.Common.{◌≡◌, ◌-◌, arith}
use Rattle.pages.proofs.AllLines.{if_made, none_left, some_left}
use Rattle.pages.proofs.last_lines.lines_of.Goals as goal

pub returns-then-left-eq0 : goal.returns-then-left-eq0
returns-then-left-eq0 c input es h first =
    let a = c.args.asked in
    let r = c.args.recent.now in
    let none : 0 ≡ r.left - (a.first - 1) =
    (let x = c.saturating_sub.ensures in let y = c.saturating_sub-left.ensures in let z = c.if-left-eq0.true in omega (arith, x, y, z)) in
    none_left a input es r h c.in_ok-lines.lines none c.in_ok-lines.ensures

pub returns : goal.returns
returns c =
    let a = c.args.asked in
    let r = c.args.recent.now in
    let left = c.saturating_sub-left.result in
    let many : left ≡ r.left - (a.first - 1) =
    (let x = c.saturating_sub.ensures in let y = c.saturating_sub-left.ensures in omega (arith, x, y)) in
    if_made _ _ c.behind_some.result
    (λ all puts input es h first. some_left a input es r h c.in_ok-lines.lines all c.args.first left many first c.in_ok-lines.ensures puts)
    c.behind_some.ensures
