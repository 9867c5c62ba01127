use Rattle.std.proofs.Common.{◌≡◌, drop}
use Rattle.help.specs.Locals.{block_locals}
use Rattle.help.proofs.locals.+finding.Given as goal

abbrev pub invariant-find_in_block-loop-statement : goal.invariant-find_in_block-loop-statement
invariant-find_in_block-loop-statement l =
    block_locals l.at (drop l.statement-index l.body) l.last ≡ block_locals l.at l.body l.fn.found
