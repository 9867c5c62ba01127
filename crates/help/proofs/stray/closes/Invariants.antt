use Rattle.std.proofs.Common.{◌≡◌, drop}
use Rattle.help.specs.Strays.{closes}
use Rattle.help.proofs.stray.closes.Given as goal

abbrev pub invariant-loop-byte : goal.invariant-loop-byte
invariant-loop-byte l = closes (drop l.byte-index l.behind) ≡ closes l.behind
