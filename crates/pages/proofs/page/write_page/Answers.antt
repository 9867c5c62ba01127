use Rattle.std.proofs.Common.{◌∙◌, ap, arith, drop, subst, take}
use Rattle.text_out.specs.Out.{Writes}
use Rattle.pages.proofs.PageOfKept.{page_held}
use Rattle.pages.proofs.page.write_page.Goals as goal

pub returns : goal.returns
returns g c = record {
  written = λ text h.
      let kept = c.args.kept in
      let left = c.saturating_sub-left.ensures in
      let rest = c.saturating_sub-rest.ensures in
      let ends = c.line_count.ensures.value in
      let last_ends = c.line_count-2.ensures.value in
      let same = page_held c.args.lines.now text c.args.state.now _ _ _ kept.front kept.back _ _ c.requires.front_within
      (c.split_at.ensures.front ∙ ap (take kept.front) c.as_slice.ensures.value)
      (c.split_at-2.ensures.back ∙ ap (drop kept.back) c.as_slice-2.ensures.value) (omega (arith, left, rest, ends, last_ends))
      c.has_gap.ensures.gap c.state_shown-shown.ensures h in
      subst (λ l. Writes (g.W.Out.state c.args.out.now) (g.W.Out.state c.write_of.new.out) l c.write_of.result) same
      c.write_of.ensures.written;
}
