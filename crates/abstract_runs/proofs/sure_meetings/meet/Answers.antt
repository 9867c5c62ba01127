use Rattle.std.proofs.Common.{ap, arith, of_z, subst, sym, tests, w64}
use Rattle.abstract_runs.specs.Sure.{ReadsSurely}
use Rattle.abstract_runs.proofs.sure_meetings.meet.Goals as goal

pub returns-then-c-d : goal.returns-then-c-d
returns-then-c-d c = λ e. record {
  cell = c.in-Some.c;
  one_reads = c.in-Some.ensures;
  two_reads = subst (λ d. ReadsSurely c.args.p d c.args.two.now) (sym c.if-c-d.true) c.in-Some-sure_read.ensures;
  apart = λ same. let s = ap (of_z w64) same in grind (arith, tests, e, s);
}
