use Rattle.std.proofs.Common.{◌≡◌, drop}
use Rattle.help.specs.Blocks.{behind_all, open_blocks}
use Rattle.help.proofs.blocks.open_blocks.Given as goal

-- the rest of the tokens is still to come
abbrev pub invariant-loop-token : goal.invariant-loop-token
invariant-loop-token l = behind_all l.blocks.items (drop l.token-index l.tokens) ≡ open_blocks l.tokens
