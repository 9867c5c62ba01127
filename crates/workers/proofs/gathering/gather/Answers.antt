use Rattle.std.proofs.Common.{Ok, Err}
use Rattle.std.specs.Prelude.{IfOk, IfErr, Result}
use Rattle.workers.proofs.GatherLemmas.{have_run, first_over, all_given, stays_within, none_stops, past_when_stopped}
use Rattle.workers.proofs.gathering.gather.Goals as goal

if_ok : {A E : Type 0} (P Q : A → Type 0) → ((a : A) → P a → Q a) → (r : Result A E) → IfOk r P → IfOk r Q
if_ok P Q f (Ok a) h = f a h
if_ok P Q f (Err e) h = h

if_err : {A E : Type 0} (P Q : E → Type 0) → ((e : E) → P e → Q e) → (r : Result A E) → IfErr r P → IfErr r Q
if_err P Q f (Ok a) h = h
if_err P Q f (Err e) h = f e h

pub collect-requires-clause-run : goal.collect-requires-clause-run
collect-requires-clause-run g c =
    let e = c.requires.ended in
    let closed = c.close.ensures in
    record {
      bound = e.bound;
      running = record {
        input = e.input;
        running = have_run c.args.code.now (g.M.AddressMap.shape c.args.map.now) c.requires.runnable e.bound e.input c.args.seats.items
            c.args.workers.items e.ended closed.phases closed.exchanged closed.whole;
      };
    }

pub collect-requires-clause-over : goal.collect-requires-clause-over
collect-requires-clause-over g c =
    let e = c.requires.ended in
    let closed = c.close.ensures in
    first_over c.args.code.now (g.M.AddressMap.shape c.args.map.now) c.requires.runnable e.bound e.input c.args.seats.items
    c.args.workers.items e.ended closed.phases closed.exchanged closed.whole

pub returns-clause-outcome : goal.returns-clause-outcome
returns-clause-outcome g c =
    let closed = c.close.ensures in
    if_ok _ _
    (λ found h bound input ended. h bound input
    (have_run c.args.code.now (g.M.AddressMap.shape c.args.map.now) c.requires.runnable bound input c.args.seats.items
    c.args.workers.items ended closed.phases closed.exchanged closed.whole)) c.collect.result c.collect.ensures.outcome

pub returns-clause-counts : goal.returns-clause-counts
returns-clause-counts g c =
    let closed = c.close.ensures in
    if_ok _ _
    (λ found h bound input ended. h bound input
    (have_run c.args.code.now (g.M.AddressMap.shape c.args.map.now) c.requires.runnable bound input c.args.seats.items
    c.args.workers.items ended closed.phases closed.exchanged closed.whole)) c.collect.result c.collect.ensures.counts

pub returns-clause-given : goal.returns-clause-given
returns-clause-given g c = λ reserve have.
    let e = c.requires.ended in
    let closed = c.close.ensures in
    c.collect.ensures.given reserve (all_given c.args.code.now (g.M.AddressMap.shape c.args.map.now) c.requires.runnable e.bound e.input
    c.args.seats.items c.args.workers.items e.ended closed.phases closed.exchanged closed.whole reserve have)

pub returns-clause-past : goal.returns-clause-past
returns-clause-past g c =
    let closed = c.close.ensures in
    if_err _ _
    (λ refusal stopped bound input reserve ended have. past_when_stopped c.args.code.now (g.M.AddressMap.shape c.args.map.now)
    c.requires.runnable bound input c.args.seats.items c.args.workers.items ended closed.phases closed.exchanged closed.whole reserve have
    stopped) c.collect.result c.collect.ensures.stopped

pub returns-clause-within : goal.returns-clause-within
returns-clause-within g c =
    let closed = c.close.ensures in
    if_ok _ _
    (λ found alive bound input reserve ended have. stays_within c.args.code.now (g.M.AddressMap.shape c.args.map.now)
    c.requires.runnable bound input c.args.seats.items c.args.workers.items ended closed.phases closed.exchanged closed.whole reserve have
    alive) c.collect.result c.collect.ensures.unstopped

pub returns-clause-unstopped : goal.returns-clause-unstopped
returns-clause-unstopped g c =
    let e = c.requires.ended in
    let closed = c.close.ensures in
    if_ok _ _
    (λ found alive. none_stops c.args.code.now (g.M.AddressMap.shape c.args.map.now) c.requires.runnable e.bound e.input
    c.args.seats.items c.args.workers.items e.ended closed.phases closed.exchanged closed.whole alive) c.collect.result
    c.collect.ensures.unstopped
