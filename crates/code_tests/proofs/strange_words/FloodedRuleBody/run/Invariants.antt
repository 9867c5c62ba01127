use Rattle.code_tests.specs.Flood.{CanBeFlooded}
use Rattle.code_tests.proofs.strange_words.FloodedRuleBody.run.Given as goal

abbrev pub invariant-exchanges : goal.invariant-exchanges
invariant-exchanges g l = CanBeFlooded l.code (g.M.AddressMap.shape l.map) l.worker l.row.room l.came.words.now
