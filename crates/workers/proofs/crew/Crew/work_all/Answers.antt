use Rattle.std.proofs.Common.{sym, subst}
use Rattle.workers.specs.Crews.{Pairwise}
use Rattle.workers.proofs.CrewLemmas.{tables_are, is_over, all_played}
use Rattle.workers.proofs.crew.Crew.work_all.Goals as goal

pub close-requires-clause-runners : goal.close-requires-clause-runners
close-requires-clause-runners g c =
    let e = c.in_threads-starter.result in
    tables_are g.T.Deed.done c.args.self.line c.args.tasks.items e.starter e.reports.items e.unsaid c.in_threads-starter.ensures
    c.requires.count
    c.apart-ended.result.0.items c.apart-ended.ensures.ended

pub close-requires-clause-over : goal.close-requires-clause-over
close-requires-clause-over g c =
    let e = c.in_threads-starter.result in
    is_over g.T.Deed.done c.args.self.line c.args.tasks.items e.starter e.reports.items e.unsaid c.in_threads-starter.ensures
    c.requires.count
    c.apart-ended.result.0.items c.apart-ended.ensures.ended

pub returns-in-None-clause-done : goal.returns-in-None-clause-done
returns-in-None-clause-done g c =
    let e = c.in_threads-starter.result in
    subst (Pairwise g.T.Deed.done c.args.tasks.items) (sym c.apart-ended.ensures.played)
    (all_played g.T.Deed.done c.args.self.line c.args.tasks.items e.starter e.reports.items e.unsaid c.in_threads-starter.ensures
    c.requires.count c.apart-ended.result.0.items c.apart-ended.ensures.ended c.close.ensures.heard c.in-None.is)
