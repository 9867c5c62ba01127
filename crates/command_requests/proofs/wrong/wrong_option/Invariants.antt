use Rattle.std.proofs.Common.{drop, map}
use Rattle.std.specs.Prelude.{Option}
use Rattle.std.specs.String.{string_bytes}
use Rattle.command_requests.specs.declared.given.Given.{Given}
use Rattle.command_requests.specs.Values.{IsWrong, IsWrongBehind}
use Rattle.command_requests.proofs.wrong.wrong_option.Given as goal

-- what is wrong of what is left, behind the word before, is what is wrong of all
abbrev pub invariant-loop-word : goal.invariant-loop-word
invariant-loop-word l = (found : Option Given) → IsWrongBehind l.costs l.before (map string_bytes (drop l.word-index l.words)) l.told found
    → IsWrong (map string_bytes l.words) l.told found
