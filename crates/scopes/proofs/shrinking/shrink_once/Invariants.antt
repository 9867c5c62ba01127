use Rattle.std.proofs.Common.{◌≡◌, drop, length}
use Rattle.std.specs.List.{find, flat_map, range_with_len}
use Rattle.scopes.specs.Shrunk.{nearer_at, smaller}
use Rattle.scopes.specs.Wrong.{goes_wrong}
use Rattle.scopes.proofs.shrinking.shrink_once.Given as goal

-- the lists of the places that are left have the first one on which it goes wrong so
abbrev pub invariant-loop-place : goal.invariant-loop-place
invariant-loop-place l =
    let wanted = goes_wrong l.fn.scope l.fn.specification l.fn.program l.fn.bound l.fn.wrong in
    let xs = l.fn.input in
    record {
      same : l.input ≡ xs;
      left : find wanted (flat_map (nearer_at xs) (drop l.place (range_with_len 0 (length xs)))) ≡ find wanted (smaller xs);
    }
