-- Accesses bound the words that are sent.
use Rattle.std.proofs.Common.{◌≡◌, ap, arith}
use Rattle.superstep_machine.specs.Run.{setting}
use Rattle.superstep_machine.specs.Trace.{exchanges_by}
use Rattle.flat_machine.specs.Flatness.{plan}
use Rattle.flat_machine.specs.ByExchanges.{opening}
use Rattle.flat_machine.specs.ByInstructions.{everywhere, steps}
use Rattle.flat_machine.proofs.Stepping.{outcome_is_past}
use Rattle.exchange_words.specs.Sent.{words_sent}
use Rattle.exchange_words.specs.Laws.{AccessesBoundWords}
use Rattle.exchange_words.proofs.Workers.{sent_within}
use Rattle.exchange_words.proofs.Flat.{taken_by_instructions}

pub accesses_bound_words : AccessesBoundWords
accesses_bound_words code map room input bound verdict made m n o =
    let t = setting code map bound m.enough in
    let a = sent_within t room m.most input in
    let b = taken_by_instructions (plan t) map.parts m.most (opening input) n
    (outcome_is_past code (steps code bound everywhere n (opening input)) verdict o) in
    let c : words_sent (exchanges_by t m.most input) ≡ words_sent made = ap words_sent m.told in
    omega (arith, a, b, c)
