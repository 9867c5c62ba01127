use Rattle.std.proofs.Common.{◌≡◌, ◌∙◌, ◌-◌, ◌+◌, ◌<◌, ℕ, suc, List, ap, arith, sym}
use Rattle.std.specs.List.{after_first}
use Rattle.text_places.specs.Places.{behind_lines, ends_line}
use Rattle.text_places.proofs.lines.line_text.Goals as goal

-- behind one line more
one_more : (n m : ℕ) (text : List ℕ) → n ≡ suc m → behind_lines n text ≡ behind_lines m (after_first ends_line text)
one_more n m text is = ap (λ k. behind_lines k text) is

pub loop-preserved : goal.loop-preserved
loop-preserved c =
    let i = c.loop.counter in
    let before : i < c.args.line = c.loop-test.true in
    let left : c.args.line - i ≡ suc (c.args.line - (i + 1)) = omega arith in
    ap (behind_lines (c.args.line - (i + 1))) c.behind_line-rest.ensures
    ∙ sym (one_more (c.args.line - i) (c.args.line - (i + 1)) c.loop.rest.now left) ∙ c.loop.invariant
