use Rattle.std.proofs.Common.{pos, refl}
use Rattle.intervals.specs.Intervals.{IsIn}
use Rattle.pram_meaning.specs.Conflict.{writes_to}
use Rattle.pram_meaning.specs.Together.{value_in}
use Rattle.write_rules.specs.Rule.{sum_of}
use Rattle.abstract_runs.specs.Given.{AreGiven}
use Rattle.abstract_runs.proofs.CellSums.{sums_more, sums_still}
use Rattle.abstract_runs.proofs.Gifts.{part_none, part_value}
use Rattle.abstract_runs.proofs.PartLists.{parts_more, parts_all, given_first, given_last}
use Rattle.abstract_runs.proofs.writing.sums_of.Goals as goal

pub loop-k-preserved-in_default : goal.loop-k-preserved-in_default
loop-k-preserved-in_default c = λ faults xs cell h g.
    parts_more (λ xs. AreGiven xs → IsIn (sum_of (writes_to cell xs)) c.loop-k.sums) faults c.args.rows.now c.loop-k.k
    c.index-rows-k.result _ xs c.loop-k-test.true c.index-rows-k.is (λ ys h u g. c.loop-k.invariant faults ys cell h g)
    (λ ys x h p g. absurd (part_none faults c.index-rows-k.result x c.in_default.is p (given_last ys x g))) h g

pub loop-k-preserved : goal.loop-k-preserved
loop-k-preserved c = λ faults xs cell h g.
    let zero : IsIn (pos 0) c.join.result = c.join.ensures.right (pos 0) ((c.point.ensures.member (pos 0)).1 refl) in
    parts_more (λ xs. AreGiven xs → IsIn (sum_of (writes_to cell xs)) c.in-Some-added.more) faults c.args.rows.now c.loop-k.k
    c.index-rows-k.result _ xs c.loop-k-test.true c.index-rows-k.is
    (λ ys h u g. sums_still c.loop-k.sums c.join.result c.in-Some-added.more (sum_of (writes_to cell ys))
    (λ s v i j. c.in-Some-added.ensures s v i j) zero (c.loop-k.invariant faults ys cell h g))
    (λ ys x h p g. sums_more c.loop-k.sums c.join.result c.in-Some-added.more cell ys x (λ s v i j. c.in-Some-added.ensures s v i j) zero
    (c.join.ensures.left (value_in x.attempt)
    (part_value faults c.index-rows-k.result c.in-Some.effect x c.in-Some.is p (given_last ys x g)))
    (c.loop-k.invariant faults ys cell h (given_first ys x g))) h g

pub returns-in_default-added : goal.returns-in_default-added
returns-in_default-added c = λ faults xs cell h g fit. (c.all.ensures (sum_of (writes_to cell xs))).1 fit

pub returns : goal.returns
returns c = λ faults xs cell h g fit. c.loop-k.invariant faults xs cell
    (parts_all faults c.args.rows.now c.loop-k.k xs c.loop-k-test.false h) g
