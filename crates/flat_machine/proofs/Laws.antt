-- Workers with any lawful map are the flat machine.
use Rattle.std.proofs.Common.{suc, ◌+◌, ◌*◌, length, Option, Some, refl, sym, ap, ◌∙◌}
use Rattle.write_rules.specs.Verdict.{Verdict}
use Rattle.superstep_machine.specs.Trace.{exchanges_by}
use Rattle.superstep_machine.specs.Run.{opening, setting}
use Rattle.flat_machine.specs.ByExchanges as flat
use Rattle.flat_machine.specs.Flatness.{OutcomesAreSame, PurposesAreSame, RunsAgree, WorkersAreFlat, plan}
use Rattle.flat_machine.specs.ByInstructions.{steps, everywhere}
use Rattle.flat_machine.specs.OneList.{made_for, purposes_of, ExchangesAreOne, WorkersMakeListed}
use Rattle.flat_machine.specs.OneControl.{OneControlBetween, OneExchange, OneControlAfter}
use Rattle.flat_machine.proofs.Runs.{run_same, purposes_same, opening_agrees}
use Rattle.flat_machine.proofs.Bridge.{to_exchanges}
use Rattle.flat_machine.proofs.Listed.{to_instructions}
use Rattle.flat_machine.proofs.ExchangeLists.{all_made}
use Rattle.flat_machine.proofs.Arrival.{arrives}
use Rattle.flat_machine.proofs.Stepping.{outcome_is_past, one_end}
use Rattle.flat_machine.proofs.Together as together

pub outcomes_are_same : OutcomesAreSame
outcomes_are_same t room n input = run_same t room n (flat.opening input) (opening t input) (opening_agrees t room input)

pub purposes_are_same : PurposesAreSame
purposes_are_same t room n input = purposes_same t room n (flat.opening input) (opening t input) (opening_agrees t room input)

pub runs_agree : RunsAgree
runs_agree code input bound verdict = (
  λ h. let r = to_instructions (record { code = code; bound = bound; enough = h.enough }) h.exchanges input verdict h.ends in
      record { instructions = r.instructions; ends = r.ends },
  λ h. record {
    enough = h.instructions;
    exchanges = suc (suc h.instructions);
    ends = to_exchanges code bound h.instructions input verdict h.ends;
  },
)

pub workers_are_flat : WorkersAreFlat
workers_are_flat code map room input bound verdict = (
  λ h. (runs_agree code input bound verdict).0 (record {
    enough = h.enough;
    exchanges = h.exchanges;
    ends = sym (outcomes_are_same (setting code map bound h.enough) room h.exchanges input) ∙ h.ends;
  }),
  λ h. let r = (runs_agree code input bound verdict).1 h in
      record {
        enough = r.enough;
        exchanges = r.exchanges;
        ends = outcomes_are_same (setting code map bound r.enough) room r.exchanges input
            ∙ r.ends;
      },
)

pub one_control_between : OneControlBetween
one_control_between t room input n m w v lw lv = together.between t room w v lw lv input n m

pub one_exchange : OneExchange
one_exchange t room input n w v lw lv = together.exchange t room w v lw lv input n

pub one_control_after : OneControlAfter
one_control_after t room input n w v lw lv = together.after t room w v lw lv input n

-- ---- one list of exchanges

pub exchanges_are_one : ExchangesAreOne
exchanges_are_one code map room input bound verdict made m n e =
    let t = setting code map bound m.enough in
    let r = to_instructions (plan t) m.most input verdict (sym (outcomes_are_same t room m.most input) ∙ m.ends) in
    let s = flat.opening input in
    ap made_for (sym m.told) ∙ purposes_are_same t room m.most input ∙ sym r.lists
    ∙ ap purposes_of (all_made code bound everywhere r.instructions n s
    (outcome_is_past code (steps code bound everywhere r.instructions s) verdict r.ends)
    (outcome_is_past code (steps code bound everywhere n s) verdict e))

pub workers_make_listed : WorkersMakeListed
workers_make_listed code formed map room input bound verdict o =
    let b = (workers_are_flat code map room input bound verdict).1 o in
    let n = (bound + 1) * length code.instructions in
    let a = arrives code formed bound everywhere input in
    let e = a.1 ∙ ap (λ (v : Verdict). let x : Option Verdict = Some v in
    x) (one_end code bound everywhere input n o.instructions a.0 verdict a.1 o.ends) in
    record {
      made = exchanges_by (setting code map bound b.enough) b.exchanges input;
      makes = record { enough = b.enough; most = b.exchanges; ends = b.ends; told = refl };
      listed = λ other m. exchanges_are_one code map room input bound verdict other m n e;
    }
