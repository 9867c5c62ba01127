use Rattle.std.proofs.Common.{refl, ap, ◌∙◌, ◌++◌, replicate, pos}
use Rattle.abstract_runs.proofs.Opening.{cover_opening}
use Rattle.abstract_runs.proofs.overall.opening_cells.Goals as goal

pub returns : goal.returns
returns c = λ input h.
    cover_opening c.args.scope c.args.cells c.point.result _ c.saturating_sub-more.result input
    (c.in_ok-add_more.ensures ∙ ap (λ items. items ++ replicate c.saturating_sub-more.result c.point.result)
    (c.in_ok-known.ensures.items_if_clones_equal (λ y same. same))) c.saturating_sub-more.ensures ((c.point.ensures.member (pos 0)).1 refl)
    h
