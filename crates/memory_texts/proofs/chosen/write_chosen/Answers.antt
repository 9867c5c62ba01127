use Rattle.std.proofs.Common.{◌<◌, subst}
use Rattle.text_out.proofs.Progress.{breaks_off, goes_on}
use Rattle.memory_texts.proofs.Entries.{chosen_at}
use Rattle.memory_texts.proofs.chosen.write_chosen.Goals as goal

pub returns-in_err-write_if_chosen : goal.returns-in_err-write_if_chosen
returns-in_err-write_if_chosen g c =
    let at = chosen_at c.args.choice c.args.layout.now c.loop-i.i c.loop-i.rest.now _ _ _ _ _
    (subst (λ n. c.loop-i.i < n) c.len-i-end.ensures c.loop-i-test.true) c.name.ensures c.bounds-bounds.ensures c.size.ensures
    c.parted.ensures.first c.parted.ensures.others in
    record {
      written = breaks_off _ _ _ _ _ _ _ c.from_residual.result _ c.from_residual.ensures.1 c.loop-i.invariant at
          c.in_err-write_if_chosen.ensures.written;
    }

pub loop-i-preserved : goal.loop-i-preserved
loop-i-preserved g c =
    let at = chosen_at c.args.choice c.args.layout.now c.loop-i.i c.loop-i.rest.now _ _ _ _ _
    (subst (λ n. c.loop-i.i < n) c.len-i-end.ensures c.loop-i-test.true) c.name.ensures c.bounds-bounds.ensures c.size.ensures
    c.parted.ensures.first c.parted.ensures.others in
    goes_on _ _ _ _ _ _ _ c.loop-i.invariant at c.in_ok-write_if_chosen.ensures.written
