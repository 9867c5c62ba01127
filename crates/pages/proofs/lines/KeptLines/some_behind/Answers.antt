use Rattle.std.proofs.Common.{◌++◌, ◌∙◌, [], ap, arith, refl, sym, take}
use Rattle.std.proofs.lemmas.List.{take_all}
use Rattle.pages.specs.Cut.{room}
use Rattle.pages.proofs.KeptTexts.{some_behind_held}
use Rattle.pages.proofs.lines.KeptLines.some_behind.Goals as goal

pub returns : goal.returns
returns c text h =
    let head = c.args.head.now in
    let none = c.new-first.ensures.items ∙ sym (take_all room [] (omega arith)) in
    let first = c.in_ok-push_first-2.ensures head (c.in_ok-push_first.ensures [] none) in
    let before = c.in-Some.ensures in
    let count = c.in-Some-checked_add.ensures in
    let counted = c.line_count.ensures.value in
    some_behind_held c.args.self _ head text (first ∙ ap (λ l. take room (head ++ l)) c.as_slice.ensures.value) refl (omega (arith, before))
    (omega (arith, count, counted)) c.requires.some h
