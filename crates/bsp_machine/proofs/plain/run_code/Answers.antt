use Rattle.std.proofs.Common.{◌≡◌, Ok, Err, Result, None, true, sym, subst}
use Rattle.std.specs.Prelude.{IfErr, IsErrAnd}
use Rattle.worker_exchange.specs.Opened.{IsRefusal}
use Rattle.write_rules.specs.Verdict.{verdict_of}
use Rattle.bsp_machine.specs.Ended.{AreExchanges}
use Rattle.bsp_machine.proofs.OpeningLemmas.{fresh_run}
use Rattle.bsp_machine.proofs.plain.run_code.Goals as goal

-- an error that is handed on
hands_on : {X E : Type 0} (r : Result X E) (e : E) (P : E → Type 0) → IsErrAnd r (λ x. x ≡ e) → P e → IfErr r P
hands_on (Ok x) e P is h = absurd is
hands_on (Err x) e P is h = subst P (sym is) h

pub collect-requires-clause-run : goal.collect-requires-clause-run
collect-requires-clause-run g c =
    let m = g.M.AddressMap.shape c.args.map.now in
    record {
      bound = c.args.bound;
      running = record {
        input = c.args.input.now;
        running = c.in-Ok-run_all.ensures.running c.args.input.now
            (fresh_run c.args.code.now m c.args.input.now c.args.bound c.in_ok-opened.opened.items c.in_ok-opened.ensures.opened);
      };
    }

pub returns-in_err-outcome-clause-refused : goal.returns-in_err-outcome-clause-refused
returns-in_err-outcome-clause-refused g c =
    let refuses = IsRefusal c.args.code.now (g.M.AddressMap.shape c.args.map.now) c.args.workers c.args.input.now in
    let is = c.in_err-outcome.ensures.given None (c.in-Ok-run_all.ensures.given None c.in_ok-opened.ensures.unreserved) in
    hands_on c.from_residual-in_err-outcome.result c.in_err-outcome.field-0.0 refuses c.from_residual-in_err-outcome.ensures.1
    (subst refuses (sym is) c.in_ok-opened.ensures.accepted)

pub unwrap-requires : goal.unwrap-requires
unwrap-requires g c = c.in_ok-outcome.ensures.kept (c.in-Ok-run_all.ensures.kept true c.in_ok-opened.ensures.kept)

pub returns-clause-outcome : goal.returns-clause-outcome
returns-clause-outcome g c =
    let m = g.M.AddressMap.shape c.args.map.now in
    c.in_ok-outcome.ensures.outcome c.args.bound c.args.input.now (c.in-Ok-run_all.ensures.running c.args.input.now
    (fresh_run c.args.code.now m c.args.input.now c.args.bound c.in_ok-opened.opened.items c.in_ok-opened.ensures.opened))

pub returns-clause-counts : goal.returns-clause-counts
returns-clause-counts g c =
    let code = c.args.code.now in
    let m = g.M.AddressMap.shape c.args.map.now in
    subst (AreExchanges code m c.args.input.now c.args.bound (verdict_of c.in_ok-outcome.outcome)) c.unwrap.ensures
    (c.in_ok-outcome.ensures.counts c.args.bound c.args.input.now (c.in-Ok-run_all.ensures.running c.args.input.now
    (fresh_run code m c.args.input.now c.args.bound c.in_ok-opened.opened.items c.in_ok-opened.ensures.opened)))
