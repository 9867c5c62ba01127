use Rattle.std.proofs.Common.{length, ap, arith, eqb}
use Rattle.combining.specs.Asked.{HeldAsk, ask_key, key_of, marked_twice, fresh_ask}
use Rattle.worker_steps.proofs.ReadLemmas.{hold_few}
use Rattle.worker_steps.proofs.holding.hold_ask.Goals as goal

pub returns-in-Some-clause-few : goal.returns-in-Some-clause-few
returns-in-Some-clause-few c =
    let few = hold_few (λ (x : HeldAsk). eqb (key_of x.ask) (ask_key c.args.ordinal c.in-Some.c)) marked_twice
    (fresh_ask c.args.ordinal c.in-Some.c) c.args.asks.now.held in
    let e = ap length c.add-place.ensures.held in
    omega (arith, few, e)
