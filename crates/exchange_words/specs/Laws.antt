-- That accesses bound the words that are sent.
use Rattle.std.specs.Prelude.{◌≡◌, ℕ, ◌≤◌, List, Some, ℤ}
use Rattle.write_rules.specs.Verdict.{Verdict}
use Rattle.address_map.specs.Lawful.{Shape}
use Rattle.superstep_instructions.specs.Code.{SuperstepCode}
use Rattle.superstep_machine.specs.Trace.{Exchange, AreBspExchanges}
use Rattle.flat_machine.specs.Flatness.{IsMapFor}
use Rattle.flat_machine.specs.ByExchanges.{opening}
use Rattle.flat_machine.specs.ByInstructions.{everywhere, outcome_within}
use Rattle.exchange_words.specs.Sent.{words_sent}
use Rattle.exchange_words.specs.Accesses.{words_within}

-- For every code and every lawful map, of as many workers as it has modules: the words of the exchanges up to a verdict are at most those
-- of the accesses of any number of instructions that comes to it on one memory.
abbrev pub AccessesBoundWords : Type 0
AccessesBoundWords = (code : SuperstepCode) (map : Shape) → IsMapFor code map →
    (input : List ℤ) (bound : ℕ) (verdict : Verdict) (made : List Exchange) →
    AreBspExchanges code map input bound verdict made → (n : ℕ) → outcome_within code bound everywhere n input ≡ Some verdict →
    words_sent made ≤ words_within code bound map.parts n (opening input)
