use Rattle.std.proofs.Common.{◌≡◌, drop}
use Rattle.std.specs.Option.{option_map}
use Rattle.help.specs.Bound.{block_bound}
use Rattle.help.specs.InScope.{known_is}
use Rattle.help.proofs.bound.+seeking.Given as goal

abbrev pub invariant-seek_in_block-loop-statement : goal.invariant-seek_in_block-loop-statement
invariant-seek_in_block-loop-statement l =
    block_bound l.word (drop l.statement-index l.body) (option_map known_is l.last)
    ≡ block_bound l.word l.body (option_map known_is l.fn.found)
