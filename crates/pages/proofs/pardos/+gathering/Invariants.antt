use Rattle.std.proofs.Common.{◌≡◌, drop, map}
use Rattle.pages.specs.Pardos.{block_pardos, pardo_is}
use Rattle.pages.proofs.pardos.+gathering.Given as goal

abbrev pub invariant-push_of_block-loop-statement : goal.invariant-push_of_block-loop-statement
invariant-push_of_block-loop-statement l =
    block_pardos (drop l.statement-index l.body) (map pardo_is l.found.items) ≡ block_pardos l.body (map pardo_is l.fn.found.items)
