use Rattle.std.proofs.Common.{◌≡◌, drop, map}
use Rattle.std.specs.Prelude.{◌||◌, ◌&&◌}
use Rattle.std.specs.String.{string_bytes}
use Rattle.command_requests.specs.Words.{asks_for, begins_with}
use Rattle.command_requests.proofs.format_word.asks_for.Given as goal

-- what is left, behind the word before
abbrev pub invariant-loop-word : goal.invariant-loop-word
invariant-loop-word l =
    let rest = map string_bytes (drop l.word-index l.words) in
    (l.behind_format && begins_with l.name rest) || asks_for l.name l.both rest
    ≡ asks_for l.name l.both (map string_bytes l.words)
