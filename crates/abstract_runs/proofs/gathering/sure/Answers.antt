use Rattle.std.proofs.Common.{◌≡◌, map, ap, ◌∙◌, sym, subst}
use Rattle.std.proofs.lemmas.List.{take_all}
use Rattle.abstract_runs.specs.Rows.{AreActive}
use Rattle.abstract_runs.proofs.Gathered.{as_sure, sure_active}
use Rattle.abstract_runs.proofs.gathering.sure.Goals as goal

pub returns : goal.returns
returns c =
    let is : c.loop-k.all.items ≡ map as_sure c.args.numbers.now =
    c.loop-k.invariant ∙ ap (map as_sure) (take_all c.loop-k.k c.args.numbers.now c.loop-k-test.false) in
    subst (λ all. AreActive all c.args.numbers.now) (sym is) (sure_active c.args.numbers.now)
