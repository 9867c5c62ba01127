use Rattle.std.proofs.Common.{◌≡◌, true, map, ap, ◌∙◌, sym, subst}
use Rattle.std.proofs.lemmas.List.{take_all}
use Rattle.pram_meaning.specs.Together.{those}
use Rattle.abstract_runs.specs.Rows.{AreActive}
use Rattle.abstract_runs.proofs.Selected.{as_unsure, unsure_same, unsure_fewer}
use Rattle.abstract_runs.proofs.selecting.unsure.Goals as goal

pub returns-clause-same : goal.returns-clause-same
returns-clause-same c = λ vs h.
    let is : c.loop-k.some.items ≡ map as_unsure c.args.active.now =
    c.loop-k.invariant ∙ ap (map as_unsure) (take_all c.loop-k.k c.args.active.now c.loop-k-test.false) in
    subst (λ some. AreActive some vs) (sym is) (unsure_same c.args.active.now vs h)

pub returns-clause-fewer : goal.returns-clause-fewer
returns-clause-fewer c = λ vs xs h e.
    let is : c.loop-k.some.items ≡ map as_unsure c.args.active.now =
    c.loop-k.invariant ∙ ap (map as_unsure) (take_all c.loop-k.k c.args.active.now c.loop-k-test.false) in
    subst (λ some. AreActive some (those true xs)) (sym is)
    (unsure_fewer c.args.active.now vs xs (subst (λ some. AreActive some vs) is h) e)
