use Rattle.std.proofs.Common.{◌≡◌, drop, map}
use Rattle.help.specs.InScope.{block_names, known_is}
use Rattle.help.proofs.in_scope.+reaching.Given as goal

abbrev pub invariant-reach_block-loop-statement : goal.invariant-reach_block-loop-statement
invariant-reach_block-loop-statement l =
    block_names l.at (drop l.statement-index l.body) (map known_is l.here) (map known_is l.names.items)
    ≡ block_names l.at l.body (map known_is l.here) (map known_is l.fn.names.items)
