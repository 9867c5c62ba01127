-- A run of tidied code is a run of the code.
use Rattle.std.proofs.Common.{◌≡◌, ℕ, ◌+◌, ◌*◌, ◌<◌, ◌≤◌, List, length, ℤ, subst, sym, refl, ap, ◌∙◌, arith, Result, Ok, Err, Option, Some, None}
use Rattle.std.proofs.Common.{inl, inr, ⊎_elim}
use Rattle.std.specs.Prelude.{IfOk, IfErr}
use Rattle.pram_model.specs.Layout.{SharedEntry, total_size}
use Rattle.address_map.specs.Lawful.{Shape}
use Rattle.write_rules.specs.Verdict.{Verdict}
use Rattle.superstep_instructions.specs.Code.{SuperstepCode}
use Rattle.superstep_machine.specs.Run.{setting}
use Rattle.superstep_machine.specs.Trace.{Exchange, exchanges_by}
use Rattle.flat_machine.specs.Flatness.{IsMapFor}
use Rattle.worker_exchange.specs.Reached.{most_instructions}
use Rattle.run_options.specs.declared.options.Options.{Options}
use Rattle.run_options.specs.declared.reserve.Reserve.{Reserve}
use Rattle.program_texts.specs.declared.from_text.Refusal.{Refusal}
use Rattle.program_texts.specs.declared.from_text.Refusal.TheVariants as refusals
use Rattle.bsp_machine.specs.Reserves.{is_past}
use Rattle.workers.specs.Past.{ComesPast, StaysWithin}
use Rattle.tidying.specs.Tidied.{IsEnough, RunsAlike}
use Rattle.program_runs.specs.Runs.{AreLaidOut, IsCodeRefused}
use Rattle.program_runs.specs.Reserved.{IsCodeRunWith, IsCodePast, IsCodeRefusedWith}

-- more instructions than a stretch can have are enough
enough : (code : SuperstepCode) (bound n : ℕ) → most_instructions code bound < n → IsEnough code bound n
enough code bound n most =
    let len = length code.instructions in
    let one : bound * (len + 1) ≡ bound * len + bound = omega arith in
    let two : (bound + 1) * len ≡ bound * len + len = omega arith in
    omega (arith, most, one, two)

module _ (code tidied : SuperstepCode) (alike : RunsAlike code tidied) (input : List ℤ) (options : Options) where
  layout : tidied.layout ≡ code.layout
  layout = alike.layout

  module _ (m : Shape) (on_map : IsMapFor code m) where
    past_too : (bound : ℕ) (reserve : Reserve) → ComesPast code m bound input reserve → ComesPast tidied m bound input reserve
    past_too bound reserve past = record {
      worker = past.worker;
      exchange = past.exchange;
      there = past.there;
      comes = λ n low k l.
          let c = most_instructions code bound + 1 in
          let some = past.there in
          alike.over m on_map bound c n (enough code bound c (omega arith)) (enough tidied bound n low) input k 0 (omega (arith, some))
          ∙ past.comes c (omega arith) k l;
      past = λ n low.
          let c = most_instructions code bound + 1 in
          ap (λ (output : List (ℕ × ℤ)). is_past reserve (length output) past.exchange)
          (alike.output m on_map bound c n (enough code bound c (omega arith)) (enough tidied bound n low) input past.exchange past.worker
          past.there)
          ∙ past.past c (omega arith);
    }

    past_alone : (bound : ℕ) (reserve : Reserve) → ComesPast tidied m bound input reserve → ComesPast code m bound input reserve
    past_alone bound reserve past = record {
      worker = past.worker;
      exchange = past.exchange;
      there = past.there;
      comes = λ n low k l.
          let t = most_instructions tidied bound + 1 in
          let some = past.there in
          sym (alike.over m on_map bound n t (enough code bound n low) (enough tidied bound t (omega arith)) input k 0 (omega (arith, some)))
          ∙ past.comes t (omega arith) k l;
      past = λ n low.
          let t = most_instructions tidied bound + 1 in
          sym (ap (λ (output : List (ℕ × ℤ)). is_past reserve (length output) past.exchange)
          (alike.output m on_map bound n t (enough code bound n low) (enough tidied bound t (omega arith)) input past.exchange past.worker
          past.there))
          ∙ past.past t (omega arith);
    }

    within : (bound : ℕ) (reserve : Option Reserve) → StaysWithin tidied m bound input reserve → StaysWithin code m bound input reserve
    within bound None stays = tt
    within bound (Some reserve) stays = λ past. stays (past_too bound reserve past)

  one_run : (reserve : Option Reserve) (verdict : Verdict) (exchanges : List Exchange) →
      IsCodeRunWith tidied input options reserve verdict exchanges →
      (others : List Exchange) × IsCodeRunWith code input options reserve verdict others
  one_run reserve verdict exchanges r =
      let run = r.run in
      let m = run.shape in
      let laid_out = subst (λ (l : List SharedEntry). AreLaidOut (total_size l) options m) layout run.laid_out in
      let on_map : IsMapFor code m = record { lawful = laid_out.lawful; room = laid_out.least.enough } in
      let outcome = (alike.verdicts m on_map input options.bound verdict).1 run.outcome in (
        exchanges_by (setting code m options.bound outcome.enough) outcome.exchanges input,
        record {
          run = record {
            shape = m;
            laid_out = laid_out;
            fits = subst (λ (l : List SharedEntry). length input ≤ total_size l) layout run.fits;
            outcome = outcome;
            made = record { enough = outcome.enough; most = outcome.exchanges; ends = outcome.ends; told = refl };
          };
          within = within m on_map options.bound reserve r.within;
        },
      )

  pub runs_of_code : {X E : Type 0} (reserve : Option Reserve) (verdict : X → Verdict) (found : Result X E) →
      IfOk found (λ x. (exchanges : List Exchange) × IsCodeRunWith tidied input options reserve (verdict x) exchanges) →
      IfOk found (λ x. (exchanges : List Exchange) × IsCodeRunWith code input options reserve (verdict x) exchanges)
  runs_of_code reserve verdict (Ok x) h = one_run reserve (verdict x) h.0 h.1
  runs_of_code reserve verdict (Err e) h = tt

  refused_as : (r : Refusal) → IsCodeRefused tidied input options r → IsCodeRefused code input options r
  refused_as (refusals.Text fault) h = absurd h
  refused_as (refusals.Program breach) h = absurd h
  refused_as refusals.BadWorkers h = h
  refused_as refusals.BadMap h = h
  refused_as refusals.InputTooLong h = (h.0, h.1, subst (λ (l : List SharedEntry). total_size l < length input) layout h.2)
  refused_as refusals.OutOfMemory h = (h.0, h.1, subst (λ (l : List SharedEntry). length input ≤ total_size l) layout h.2)
  refused_as refusals.OutOfReserve h = absurd h

  is_past_too : (reserve : Reserve) → IsCodePast tidied input options reserve → IsCodePast code input options reserve
  is_past_too reserve past =
      let laid_out = subst (λ (l : List SharedEntry). AreLaidOut (total_size l) options past.shape) layout past.laid_out in
      record {
        shape = past.shape;
        laid_out = laid_out;
        fits = subst (λ (l : List SharedEntry). length input ≤ total_size l) layout past.fits;
        past =
            past_alone past.shape (record { lawful = laid_out.lawful; room = laid_out.least.enough }) options.bound reserve past.past;
      }

  refused_with : (reserve : Option Reserve) (r : Refusal) → IsCodeRefusedWith tidied input options reserve r →
      IsCodeRefusedWith code input options reserve r
  refused_with None r h = refused_as r h
  refused_with (Some reserve) r h = ⊎_elim
      (λ (a : IsCodeRefused tidied input options r). inl (refused_as r a))
      (λ (b : _). inr (b.0, is_past_too reserve b.1)) h

  pub refusals_of_code : {X : Type 0} (reserve : Option Reserve) (found : Result X Refusal) →
      IfErr found (IsCodeRefusedWith tidied input options reserve) → IfErr found (IsCodeRefusedWith code input options reserve)
  refusals_of_code reserve (Ok x) h = tt
  refusals_of_code reserve (Err r) h = refused_with reserve r h
