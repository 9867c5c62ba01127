use Rattle.std.proofs.Common.{ap, refl}
use Rattle.std.specs.Prelude.{Err}
use Rattle.comparing.specs.declared.refusal.ComparisonRefusal.{ComparisonRefusal}
use Rattle.command_pairs.proofs.Fitting.{none_told}
use Rattle.command_pairs.proofs.trying.on_scope.Goals as goal

pub halted-requires : goal.halted-requires
halted-requires c = record { too_long = λ side is. (c.in-Err.ensures.too_long side).0 (ap (λ (why : ComparisonRefusal). Err why) is) }

pub returns-in-Ok-clause-found : goal.returns-in-Ok-clause-found
returns-in-Ok-clause-found c = record {
  fit = none_told _ c.in-Ok.comparison _ refl (λ side. c.in-Ok.ensures.too_long side);
  found = c.in-Ok.ensures.found;
}
