use Rattle.std.proofs.Common.{rules, arith, ◌∷◌, ◌++◌, [], ◌∙◌, ap, sym, length, length-append, append_assoc}
use Rattle.std.specs.Vec.Iter.{into_iter_items}
use Rattle.workers.proofs.CrewLemmas.{one_ended, one_played, none_played}
use Rattle.workers.proofs.crew.apart.Goals as goal

pub reports-preserved-in-None-played : goal.reports-preserved-in-None-played
reports-preserved-in-None-played g c =
    let i = c.reports.invariant in
    let y = c.reports.yielded in
    let r = c.in-Some.report in
    let more = length-append y (r ∷ []) in
    record {
      rest = append_assoc y (r ∷ []) (into_iter_items c.next.new.self) ∙ ap (λ z. y ++ z) (sym c.in-Some.ensures.steps.0) ∙ i.rest;
      ended = c.push_reserved.ensures.items ∙ one_ended y r c.reports.ended.items i.ended;
      played = none_played y r c.reports.all.items i.played c.in-None-played.is;
      few = (let h = i.few in omega (arith, h, more));
      ended_room = search rules;
      played_room = i.played_room;
      left = (let s = ap length c.in-Some.ensures.steps.0 in let n = c.in-Some.ensures.steps.1 in let d = i.left in omega (arith, s, n, d));
    }

pub reports-preserved : goal.reports-preserved
reports-preserved g c =
    let i = c.reports.invariant in
    let y = c.reports.yielded in
    let r = c.in-Some.report in
    let one = c.in-Some-played.one in
    let more = length-append y (r ∷ []) in
    record {
      rest = append_assoc y (r ∷ []) (into_iter_items c.next.new.self) ∙ ap (λ z. y ++ z) (sym c.in-Some.ensures.steps.0) ∙ i.rest;
      ended = c.push_reserved.ensures.items ∙ one_ended y r c.reports.ended.items i.ended;
      played = c.push_reserved-in-Some-played.ensures.items ∙ one_played y r one c.reports.all.items i.played c.in-Some-played.is;
      few =
          (let h = i.few in
          let q = ap length c.push_reserved-in-Some-played.ensures.items in
          let n = length-append c.reports.all.items (one ∷ []) in omega (arith, h, more, q, n));
      ended_room = search rules;
      played_room = search rules;
      left = (let s = ap length c.in-Some.ensures.steps.0 in let n = c.in-Some.ensures.steps.1 in let d = i.left in omega (arith, s, n, d));
    }
