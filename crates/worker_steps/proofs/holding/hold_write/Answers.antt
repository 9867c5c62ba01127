use Rattle.std.proofs.Common.{◌≤◌, ◌+◌, length, sym, subst, to_z, of_z, w64}
use Rattle.worker_steps.proofs.WriteLemmas.{put_few}
use Rattle.worker_steps.proofs.holding.hold_write.Goals as goal

pub returns-in-Some-clause-few : goal.returns-in-Some-clause-few
returns-in-Some-clause-few g c =
    subst (λ xs. length xs ≤ length c.args.puts.now.held + 1) (sym c.add.ensures.held)
    (put_few (g.R.WriteRule.rule c.args.rule.now) (record {
      processor = to_z w64 (of_z w64 c.args.processor);
      cell = c.in-Some.cell;
      value = to_z w64 (of_z w64 c.in-Some.value);
    }) c.args.puts.now.held)
