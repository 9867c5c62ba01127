use Rattle.std.proofs.Common.{◌≡◌, drop}
use Rattle.std.specs.List.{find}
use Rattle.scopes.specs.Shrunk.{nearer_at}
use Rattle.scopes.specs.Wrong.{goes_wrong}
use Rattle.scopes.proofs.shrinking.shrink_at.Given as goal

-- the candidates that are left have the first one on which it goes wrong so
abbrev pub invariant-loop-which : goal.invariant-loop-which
invariant-loop-which l =
    let wanted = goes_wrong l.fn.scope l.fn.specification l.fn.program l.fn.bound l.fn.wrong in
    record {
      same : l.input ≡ l.fn.input;
      left : find wanted (drop l.which (nearer_at l.fn.input l.fn.place)) ≡ find wanted (nearer_at l.fn.input l.fn.place);
    }
