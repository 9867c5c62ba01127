use Rattle.std.proofs.Common.{◌≡◌, drop, map}
use Rattle.std.specs.String.{string_bytes}
use Rattle.command_requests.specs.Words.{asks_to_explain}
use Rattle.command_requests.proofs.explain_word.asks_to_explain.Given as goal

abbrev pub invariant-loop-word : goal.invariant-loop-word
invariant-loop-word l = asks_to_explain (map string_bytes (drop l.word-index l.words)) ≡ asks_to_explain (map string_bytes l.words)
