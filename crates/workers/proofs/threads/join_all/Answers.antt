use Rattle.std.proofs.Common.{rules, arith, ◌∷◌, ◌++◌, [], ◌∙◌, ap, sym, subst, length, map, length-append, append_assoc}
use Rattle.std.proofs.lemmas.List.{map-append, length-map}
use Rattle.std.specs.Vec.Iter.{into_iter_items}
use Rattle.workers.specs.Crews.{runner_of, AreReports}
use Rattle.workers.specs.Reports.{IsReportOf}
use Rattle.workers.proofs.PairLemmas.{pairs_end, pairs_long}
use Rattle.workers.proofs.threads.join_all.Goals as goal

pub push_reserved-requires : goal.push_reserved-requires
push_reserved-requires g c =
    let i = c.handles.invariant in
    let y = c.handles.yielded in
    let long = pairs_long (λ before r. IsReportOf g.T.Deed.done before r.runner r.played) (map runner_of y) c.handles.reports.items
    i.reports in
    let same = length-map y runner_of in
    let s = ap length c.in-Some.ensures.steps.0 in
    let rest = ap length i.rest in
    let all = length-append y (into_iter_items c.handles.handle-iterator) in
    let room = i.room in
    omega (arith, long, same, s, rest, all, room)

pub handles-preserved : goal.handles-preserved
handles-preserved g c =
    let i = c.handles.invariant in
    let y = c.handles.yielded in
    let h = c.in-Some.handle in
    let done = g.T.Deed.done in
    record {
      rest = append_assoc y (h ∷ []) (into_iter_items c.next.new.self) ∙ ap (λ z. y ++ z) (sym c.in-Some.ensures.steps.0) ∙ i.rest;
      reports = subst (AreReports done (map runner_of (y ++ h ∷ []))) (sym c.push_reserved.ensures.items)
          (subst (λ rs. AreReports done rs (c.handles.reports.items ++ c.join.result ∷ [])) (sym (map-append runner_of y (h ∷ [])))
          (pairs_end (λ before r. IsReportOf done before r.runner r.played) (map runner_of y) c.handles.reports.items (runner_of h)
          c.join.result
          i.reports c.join.ensures));
      room = search rules;
      left = (let s = ap length c.in-Some.ensures.steps.0 in let n = c.in-Some.ensures.steps.1 in let d = i.left in omega (arith, s, n, d));
    }
