use Rattle.std.proofs.Common.{subst}
use Rattle.pram_check.specs.Bounded.{IsBounded}
use Rattle.pram_check.proofs.BoundedPrograms.{bounded}
use Rattle.pram_check.proofs.program.Program.bounded.Goals as goal

pub returns : goal.returns
returns c = record {
  bounded =
      subst IsBounded c.self.view_is (bounded _ c.token_count-count.ensures.stands c.self.invariant.0 c.self.invariant.1);
}
