use Rattle.std.proofs.Common.{arith}
use Rattle.std.proofs.lemmas.Int.{ints}
use Rattle.intervals.proofs.sums.differences.Goals as goal

pub returns-clause-least : goal.returns-clause-least
returns-clause-least c = omega (arith, ints)
