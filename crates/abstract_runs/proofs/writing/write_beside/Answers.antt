use Rattle.std.proofs.Common.{◌∙◌, ap, inl, inr, subst, slice_set}
use Rattle.std.specs.List.{Contains}
use Rattle.intervals.specs.Intervals.{IsIn}
use Rattle.pram_meaning.specs.Conflict.{writes_to}
use Rattle.all_inputs.specs.Overall.{Cover}
use Rattle.abstract_runs.specs.Covers.{IsReached}
use Rattle.abstract_runs.specs.Given.{AreGiven}
use Rattle.abstract_runs.specs.Columns.{reach_in}
use Rattle.abstract_runs.proofs.CellRules.{cover_left, write_before, write_before_or_of, write_is}
use Rattle.abstract_runs.proofs.CellWrites.{part_wrote, part_wrote_nothing}
use Rattle.abstract_runs.proofs.PartLists.{parts_more, parts_all, given_first, given_last}
use Rattle.abstract_runs.proofs.writing.write_beside.Goals as goal

pub loop-k-preserved-in_default : goal.loop-k-preserved-in_default
loop-k-preserved-in_default c = record {
  stays = c.loop-k.invariant.stays;
  set = λ faults xs zs cell w v h g i may z.
      parts_more (λ xs. AreGiven xs → Contains (writes_to cell xs) w → Cover c.loop-k.cells.items (slice_set zs cell v)) faults
      c.args.rows.now c.loop-k.k c.index-rows-k.result _ xs c.loop-k-test.true c.index-rows-k.is
      (λ ys h u g i. c.loop-k.invariant.set faults ys zs cell w v h g i may z)
      (λ ys x h p g i. c.loop-k.invariant.set faults ys zs cell w v h (given_first ys x g)
      (write_before cell ys x w (part_wrote_nothing faults c.index-rows-k.result x cell
      (ap reach_in c.in_default.is) p) i) may z) h g i;
  length_is = c.loop-k.invariant.length_is;
}

pub loop-k-preserved-in_default-reach : goal.loop-k-preserved-in_default-reach
loop-k-preserved-in_default-reach c = record {
  stays = c.loop-k.invariant.stays;
  set = λ faults xs zs cell w v h g i may z.
      parts_more (λ xs. AreGiven xs → Contains (writes_to cell xs) w → Cover c.loop-k.cells.items (slice_set zs cell v)) faults
      c.args.rows.now c.loop-k.k c.index-rows-k.result _ xs c.loop-k-test.true c.index-rows-k.is
      (λ ys h u g i. c.loop-k.invariant.set faults ys zs cell w v h g i may z)
      (λ ys x h p g i. c.loop-k.invariant.set faults ys zs cell w v h (given_first ys x g)
      (write_before cell ys x w
      (part_wrote_nothing faults c.index-rows-k.result x cell (ap reach_in c.in-Some.is ∙ c.in_default-reach.is) p) i) may z) h g i;
  length_is = c.loop-k.invariant.length_is;
}

pub loop-k-preserved : goal.loop-k-preserved
loop-k-preserved c = record {
  stays = λ zs z. c.join_cells.ensures.stays zs (c.loop-k.invariant.stays zs z);
  set = λ faults xs zs cell w v h g i may z.
      parts_more (λ xs. AreGiven xs → Contains (writes_to cell xs) w → Cover c.join_cells.new.cells.items (slice_set zs cell v)) faults
      c.args.rows.now c.loop-k.k c.index-rows-k.result _ xs c.loop-k-test.true c.index-rows-k.is
      (λ ys h u g i. c.join_cells.ensures.stays (slice_set zs cell v) (c.loop-k.invariant.set faults ys zs cell w v h g i may z))
      (λ ys x h p g i. elim (write_before_or_of cell ys x w i) [
        | inl before ↦ c.join_cells.ensures.stays (slice_set zs cell v)
            (c.loop-k.invariant.set faults ys zs cell w v h (given_first ys x g) before may z)
        | inr own ↦
            let wrote = part_wrote faults c.index-rows-k.result c.in-Some.effect c.in-Some-reach.reach x c.in-Some.is c.in-Some-reach.is p
            (given_last ys x g) in
            let is = write_is cell wrote.cell x.processor wrote.value w (subst (λ ws. Contains ws w) (wrote.writes cell) own) in
            c.join_cells.ensures.set zs cell v (c.loop-k.invariant.stays zs z)
            (subst (λ d. IsReached d c.in-Some-reach.reach) is.0 wrote.reached)
            (c.left_by.ensures w.value v (subst (λ y. IsIn y c.in-Some.effect.value) is.1 wrote.among) may)
      ]) h g i;
  length_is = c.join_cells.ensures.length ∙ c.loop-k.invariant.length_is;
}

pub returns-clause-covers : goal.returns-clause-covers
returns-clause-covers c = λ faults xs zs h g z.
    cover_left c.args.rule c.args.sums xs c.loop-k.cells.items zs (λ cell fit. c.requires faults xs cell h g fit)
    (c.loop-k.invariant.stays zs z)
    (λ cell w v i may. c.loop-k.invariant.set faults xs zs cell w v
    (parts_all faults c.args.rows.now c.loop-k.k xs c.loop-k-test.false h) g i may z)
