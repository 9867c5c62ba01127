use Rattle.pages.proofs.CutOfKept.{cut_held}
use Rattle.pages.proofs.lines.KeptLines.kept.Goals as goal

pub returns-clause-cut : goal.returns-clause-cut
returns-clause-cut c text h =
    let last = c.tail-last in
    let most = c.first_before-most in
    cut_held c.args.self.now text _ _ last.result.at last.result.size most.result c.front.result c.as_slice-2.ensures.value
    c.as_slice.ensures.value last.ensures.longest last.ensures.sized most.ensures.below most.ensures.inside most.ensures.most
    (record { are = c.front.ensures.are; longest = c.front.ensures.longest }) h
