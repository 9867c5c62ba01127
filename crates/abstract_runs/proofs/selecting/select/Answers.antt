use Rattle.std.proofs.Common.{[], sym, subst}
use Rattle.pram_meaning.specs.Together.{those}
use Rattle.abstract_runs.specs.Given.{AreGiven}
use Rattle.abstract_runs.specs.Rows.{AreActive}
use Rattle.abstract_runs.specs.Rows as rows
use Rattle.abstract_runs.proofs.PartLists.{parts_none, parts_more, parts_all, given_first, given_last}
use Rattle.abstract_runs.proofs.Selected.{active_past, skipped, taken}
use Rattle.abstract_runs.proofs.selecting.select.Goals as goal

pub loop-k-init : goal.loop-k-init
loop-k-init c = λ faults xs h g.
    parts_none (λ xs. AreActive c.new-chosen.result.items (those c.args.wanted xs)) faults c.args.rows.now xs
    (subst (λ is. AreActive is []) (sym c.new-chosen.ensures.items) rows.none) h

pub loop-k-preserved-in_default : goal.loop-k-preserved-in_default
loop-k-preserved-in_default c = λ faults xs h g.
    parts_more (λ xs. AreGiven xs → AreActive c.loop-k.chosen.items (those c.args.wanted xs)) faults c.args.rows.now c.loop-k.k
    c.index-rows-k.result _ xs c.loop-k-test.true c.index-rows-k.is (λ ys h u g. c.loop-k.invariant faults ys h g)
    (λ ys x h p g. skipped c.args.wanted c.loop-k.chosen.items ys x (c.loop-k.invariant faults ys h (given_first ys x g))
    (c.in_default.ensures.chosen faults x p (given_last ys x g))) h g

pub loop-k-preserved : goal.loop-k-preserved
loop-k-preserved c = λ faults xs h g.
    parts_more (λ xs. AreGiven xs → AreActive c.push.new.self.items (those c.args.wanted xs)) faults c.args.rows.now c.loop-k.k
    c.index-rows-k.result _ xs c.loop-k-test.true c.index-rows-k.is
    (λ ys h u g. subst (λ is. AreActive is (those c.args.wanted ys)) (sym c.in_ok-push.ensures.items)
    (active_past c.loop-k.chosen.items c.in-Some.one (those c.args.wanted ys) (c.loop-k.invariant faults ys h g)
    (c.in-Some.ensures.unsure u)))
    (λ ys x h p g. taken c.args.wanted c.loop-k.chosen.items c.push.new.self.items c.in-Some.one ys x
    (c.loop-k.invariant faults ys h (given_first ys x g)) (c.in-Some.ensures.chosen faults x p
    (given_last ys x g)) c.in_ok-push.ensures.items) h g

pub returns : goal.returns
returns c = record {
  chosen = λ faults xs h g. c.loop-k.invariant faults xs (parts_all faults c.args.rows.now c.loop-k.k xs c.loop-k-test.false h) g;
}
