use Rattle.std.proofs.Common.{◌-◌, ◌++◌, ◌∙◌, ap, length, min}
use Rattle.pages.specs.Cut.{room}
use Rattle.pages.proofs.KeptTexts.{pushed_first}
use Rattle.pages.proofs.lines.push_first.Goals as goal

pub returns : goal.returns
returns c text held =
    let first = c.args.first.now in
    let bytes = c.args.bytes.now in
    pushed_first first.items _ bytes text _
    (c.min.ensures ∙ ap (λ n. min n (length bytes)) (c.saturating_sub-wanted.ensures ∙ ap (λ n. room - n) (c.len.ensures ∙ first.ok.0)))
    (c.in_ok-extend_from_slice.ensures.items ∙ ap (λ l. first.items ++ l) c.split_at.ensures.front) held
