use Rattle.std.proofs.Common.{sym, subst, ap, ◌∙◌, refl}
use Rattle.pram_meaning.specs.Together.{overwritten}
use Rattle.all_inputs.specs.Overall.{Cover}
use Rattle.abstract_runs.specs.Given.{AreGiven}
use Rattle.abstract_runs.specs.Columns.{reach_in}
use Rattle.abstract_runs.proofs.CellValues.{over_none, over_nothing, over_one}
use Rattle.abstract_runs.proofs.CellWrites.{none_before, part_wrote, part_wrote_nothing}
use Rattle.abstract_runs.proofs.PartLists.{parts_none, parts_more, parts_all, given_first, given_last}
use Rattle.abstract_runs.proofs.writing.write_apart.Goals as goal

pub loop-k-init : goal.loop-k-init
loop-k-init c = record {
  covers = λ rule faults xs zs h g z.
      parts_none (λ xs. Cover c.args.cells.now.items (overwritten rule xs 0 zs)) faults c.args.rows.now xs
      (subst (Cover c.args.cells.now.items) (sym (over_none rule 0 zs)) z) h;
  length_is = refl;
}

pub loop-k-preserved-in_default : goal.loop-k-preserved-in_default
loop-k-preserved-in_default c = record {
  covers = λ rule faults xs zs h g z.
      parts_more (λ xs. AreGiven xs → Cover c.loop-k.cells.items (overwritten rule xs 0 zs)) faults c.args.rows.now c.loop-k.k
      c.index-rows-k.result _ xs c.loop-k-test.true c.index-rows-k.is (λ ys h u g. c.loop-k.invariant.covers rule faults ys zs h g z)
      (λ ys x h p g. subst (Cover c.loop-k.cells.items)
      (sym (over_nothing rule ys x zs (λ d. part_wrote_nothing faults c.index-rows-k.result x d (ap reach_in c.in_default.is) p)))
      (c.loop-k.invariant.covers rule faults ys zs h (given_first ys x g) z)) h g;
  length_is = c.loop-k.invariant.length_is;
}

pub loop-k-preserved-in_default-reach : goal.loop-k-preserved-in_default-reach
loop-k-preserved-in_default-reach c = record {
  covers = λ rule faults xs zs h g z.
      parts_more (λ xs. AreGiven xs → Cover c.loop-k.cells.items (overwritten rule xs 0 zs)) faults c.args.rows.now c.loop-k.k
      c.index-rows-k.result _ xs c.loop-k-test.true c.index-rows-k.is (λ ys h u g. c.loop-k.invariant.covers rule faults ys zs h g z)
      (λ ys x h p g. subst (Cover c.loop-k.cells.items)
      (sym (over_nothing rule ys x zs
      (λ d. part_wrote_nothing faults c.index-rows-k.result x d (ap reach_in c.in-Some.is ∙ c.in_default-reach.is) p)))
      (c.loop-k.invariant.covers rule faults ys zs h (given_first ys x g) z)) h g;
  length_is = c.loop-k.invariant.length_is;
}

pub loop-k-preserved : goal.loop-k-preserved
loop-k-preserved c = record {
  covers = λ rule faults xs zs h g z.
      parts_more (λ xs. AreGiven xs → Cover c.set_cell.new.cells.items (overwritten rule xs 0 zs)) faults c.args.rows.now c.loop-k.k
      c.index-rows-k.result _ xs c.loop-k-test.true c.index-rows-k.is
      (λ ys h u g. c.set_cell.ensures.stays u (overwritten rule ys 0 zs) (c.loop-k.invariant.covers rule faults ys zs h g z))
      (λ ys x h p g.
      let w = part_wrote faults c.index-rows-k.result c.in-Some.effect c.in-Some-reach.reach x c.in-Some.is c.in-Some-reach.is p
      (given_last ys x g) in
      let none = none_before faults c.args.rows.now c.loop-k.k c.index-rows-k.result _ c.in-Some-reach.reach ys w.cell c.requires
      c.loop-k-test.true c.index-rows-k.is (ap reach_in c.in-Some.is ∙ c.in-Some-reach.is) w.reached h (given_first ys x g) in
      subst (Cover c.set_cell.new.cells.items)
      (sym (over_one rule ys x zs w.cell w.value none (c.set_cell.ensures.words w.value w.among) w.writes))
      (c.set_cell.ensures.set (overwritten rule ys 0 zs) w.cell w.value
      (c.loop-k.invariant.covers rule faults ys zs h (given_first ys x g) z) w.reached w.among)) h g;
  length_is = c.set_cell.ensures.length ∙ c.loop-k.invariant.length_is;
}

pub returns-clause-covers : goal.returns-clause-covers
returns-clause-covers c = λ rule faults xs zs h g z.
    c.loop-k.invariant.covers rule faults xs zs (parts_all faults c.args.rows.now c.loop-k.k xs c.loop-k-test.false h) g z
