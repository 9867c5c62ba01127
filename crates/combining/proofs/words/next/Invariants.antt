use Rattle.std.proofs.Common.{◌≡◌, ◌≤◌, length}
use Rattle.combining.proofs.words.next.Given as goal

abbrev pub invariant-loop-rest : goal.invariant-loop-rest
invariant-loop-rest g l =
    let listed = g.F.Format.listed l.format in
    record {
      within : length l.rest ≤ length l.words;
      same : listed l.words ≡ listed l.rest;
    }

abbrev pub decreases-loop-rest : goal.decreases-loop-rest
decreases-loop-rest g l = length l.rest
