use Rattle.std.proofs.Common.{◌≡◌, ◌+◌, ◌*◌, ◌∙◌, length, Option, Some, Result, Ok, Err, IfOk}
use Rattle.write_rules.specs.declared.outcome.Outcome.{Outcome}
use Rattle.flat_machine.specs.ByExchanges.{outcome_of}
use Rattle.bsp_verify.specs.WellFormed.{IsWellFormed}
use Rattle.write_rules.specs.Verdict.{Verdict}
use Rattle.flat_machine.proofs.Arrival.{arrives}
use Rattle.flat_machine.specs.ByInstructions.{outcome_within, everywhere, IsFlatOutcome}
use Rattle.flat_run.specs.RunViews.{state_of, verdict_in}
use Rattle.flat_run.proofs.AlikeLemmas.{outcome_comes}
use Rattle.flat_run.proofs.program.flat_run.Goals as goal

weaker : {T E : Type 0} (r : Result T E) (P Q : T → Type 0) → ((x : T) → P x → Q x) → IfOk r P → IfOk r Q
weaker (Ok x) P Q f h = f x h
weaker (Err e) P Q f h = h

pub returns : goal.returns
returns c =
    let code = c.args.code.now in
    let bound = c.args.bound in
    let input = c.args.input.now in
    let most = (bound + 1) * length code.instructions in
    let first = state_of c.in_ok-run.run' in
    let last = state_of c.advance.new.run in
    let found = λ (o : Option Outcome) (h : verdict_in o ≡ outcome_of code last).
    h ∙ outcome_comes code bound c.enough.result most input first last c.enough.ensures c.in_ok-run.ensures.state
    c.in_ok-advance.ensures.state in
    record {
      well_formed = weaker c.outcome.result
          (λ (o : Option Outcome). verdict_in o ≡ outcome_of code last)
          (λ (o : Option Outcome). IsWellFormed code → (v : Verdict) × (verdict_in o ≡ Some v) × IsFlatOutcome code input bound v)
          (λ o h formed. let a = arrives code formed bound everywhere input in
          (a.0, found o h ∙ a.1, record { instructions = most; ends = a.1 }))
          c.outcome.ensures;
      found = weaker c.outcome.result
          (λ (o : Option Outcome). verdict_in o ≡ outcome_of code last)
          (λ (o : Option Outcome). verdict_in o ≡ outcome_within code bound everywhere most input)
          found
          c.outcome.ensures;
    }
