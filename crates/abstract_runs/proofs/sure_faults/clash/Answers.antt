use Rattle.std.proofs.Common.{subst, sym}
use Rattle.abstract_runs.specs.Sure.{WritesSurely}
use Rattle.abstract_runs.proofs.sure_faults.clash.Goals as goal

pub returns-then-c-d : goal.returns-then-c-d
returns-then-c-d c = λ e. record {
  cell = c.in-Some.c;
  first = c.in-Some.first;
  second = c.in-Some-sure_write.second;
  one_writes = c.in-Some.ensures;
  two_writes = subst (λ d. WritesSurely d c.in-Some-sure_write.second c.args.two.now) (sym c.if-c-d.true) c.in-Some-sure_write.ensures;
  against = c.is_against.ensures e;
}
