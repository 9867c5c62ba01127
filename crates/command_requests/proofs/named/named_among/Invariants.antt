use Rattle.std.proofs.Common.{◌≡◌, drop}
use Rattle.command_requests.specs.Options.{named_among}
use Rattle.command_requests.proofs.named.named_among.Given as goal

-- who is found among those that are left is found among all
abbrev pub invariant-loop-given : goal.invariant-loop-given
invariant-loop-given l = named_among (drop l.given-index l.options) l.word ≡ named_among l.options l.word
