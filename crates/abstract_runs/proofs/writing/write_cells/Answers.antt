use Rattle.std.proofs.Common.{subst, ◌∙◌}
use Rattle.abstract_runs.specs.Apart.{AreApart}
use Rattle.abstract_runs.proofs.Faultless.{all_given}
use Rattle.abstract_runs.proofs.writing.write_cells.Goals as goal

pub write_apart-requires : goal.write_apart-requires
write_apart-requires c = subst AreApart (c.deref.ensures.value ∙ c.in_ok-reaches.ensures.targets) (c.in_ok-apart.ensures c.if-apart.true)

pub returns-then-apart-clause-covers : goal.returns-then-apart-clause-covers
returns-then-apart-clause-covers c = λ faults xs zs h e z.
    c.write_apart.ensures.covers c.args.rule faults xs zs h (all_given c.args.rule xs e) z

pub returns-clause-covers : goal.returns-clause-covers
returns-clause-covers c = λ faults xs zs h e z. c.write_beside.ensures.covers faults xs zs h (all_given c.args.rule xs e) z
