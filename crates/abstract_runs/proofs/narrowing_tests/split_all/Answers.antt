use Rattle.std.proofs.Common.{rules, refl, subst, sym}
use Rattle.pram_names.specs.declared.body.Link.{Link}
use Rattle.abstract_runs.specs.Tests.{Splits}
use Rattle.abstract_runs.proofs.Operands.{all_next}
use Rattle.abstract_runs.proofs.narrowing_tests.split_all.Goals as goal

pub loop-k-preserved : goal.loop-k-preserved
loop-k-preserved c =
    all_next (λ (l : Link). Splits l.operator c.args.way) c.args.links.now c.loop-k.k c.index-links-k.result c.loop-k.invariant
    (search rules) c.index-links-k.is
    (subst (λ (l : Link). Splits l.operator c.args.way) (sym c.index-links-k.is) (c.if-not-splits.ensures refl))
