use Rattle.std.proofs.Common.{◌≡◌, false, take}
use Rattle.std.specs.List.{All}
use Rattle.scopes.specs.Handed.{is_unlike}
use Rattle.scopes.proofs.unlike.first_unlike.Given as goal

abbrev pub invariant-loop-i : goal.invariant-loop-i
invariant-loop-i l = record {
  same : l.asked ≡ l.fn.postcondition.layout;
  none : All (λ e. is_unlike l.fn.program.layout e ≡ false) (take l.i l.fn.postcondition.layout);
}
