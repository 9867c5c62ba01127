-- A run of packed code is a run of the code.
use Rattle.std.proofs.Common.{◌≡◌, ℕ, ◌+◌, ◌*◌, ◌<◌, ◌≤◌, List, length, ℤ, subst, sym, refl, ap, ◌∙◌, Result, Ok, Err, Option, Some, None}
use Rattle.std.proofs.Common.{inl, inr, ⊎_elim}
use Rattle.std.specs.Prelude.{IfOk, IfErr}
use Rattle.std.proofs.lemmas.List.{length-map}
use Rattle.pram_model.specs.Layout.{SharedEntry, total_size}
use Rattle.address_map.specs.Lawful.{Shape}
use Rattle.write_rules.specs.Verdict.{Verdict}
use Rattle.superstep_instructions.specs.Code.{SuperstepCode}
use Rattle.superstep_machine.specs.Run.{setting}
use Rattle.superstep_machine.specs.Trace.{Exchange, exchanges_by}
use Rattle.worker_exchange.specs.Reached.{most_instructions}
use Rattle.run_options.specs.declared.options.Options.{Options}
use Rattle.run_options.specs.declared.reserve.Reserve.{Reserve}
use Rattle.program_texts.specs.declared.from_text.Refusal.{Refusal}
use Rattle.program_texts.specs.declared.from_text.Refusal.TheVariants as refusals
use Rattle.bsp_machine.specs.Reserves.{is_past}
use Rattle.workers.specs.Past.{ComesPast, StaysWithin}
use Rattle.renaming.specs.Renamed.{renamed}
use Rattle.renaming.specs.Packed.{IsPacked, RunsAlike}
use Rattle.program_runs.specs.Runs.{AreLaidOut, IsCodeRefused}
use Rattle.program_runs.specs.Reserved.{IsCodeRunWith, IsCodePast, IsCodeRefusedWith}

-- what is said of a setting by its code, where the code is as long
abbrev most_by : ℕ → ℕ → ℕ
most_by bound n = bound * (n + 1) + n

module _ (code packed : SuperstepCode) (is : IsPacked code packed) (alike : RunsAlike code packed) (input : List ℤ)
    (options : Options) where
  layout : packed.layout ≡ code.layout
  layout = ap (λ (c : SuperstepCode). c.layout) is.is

  as_long : length packed.instructions ≡ length code.instructions
  as_long = ap (λ (c : SuperstepCode). length c.instructions) is.is ∙ length-map code.instructions (renamed is.p)

  most : (bound : ℕ) → most_instructions packed bound ≡ most_instructions code bound
  most bound = ap (most_by bound) as_long

  -- it comes past a reserve where the code does, and nowhere else
  past_too : (m : Shape) (bound : ℕ) (reserve : Reserve) → ComesPast code m bound input reserve → ComesPast packed m bound input reserve
  past_too m bound reserve past = record {
    worker = past.worker;
    exchange = past.exchange;
    there = past.there;
    comes = λ n low k l. alike.over m bound n input k 0 ∙ past.comes n (subst (λ z. z < n) (most bound) low) k l;
    past = λ n low. ap (λ (output : List (ℕ × ℤ)). is_past reserve (length output) past.exchange)
        (alike.output m bound n input past.exchange past.worker) ∙ past.past n (subst (λ z. z < n) (most bound) low);
  }

  past_alone : (m : Shape) (bound : ℕ) (reserve : Reserve) → ComesPast packed m bound input reserve → ComesPast code m bound input reserve
  past_alone m bound reserve past = record {
    worker = past.worker;
    exchange = past.exchange;
    there = past.there;
    comes = λ n low k l. sym (alike.over m bound n input k 0) ∙ past.comes n (subst (λ z. z < n) (sym (most bound)) low) k l;
    past = λ n low. sym (ap (λ (output : List (ℕ × ℤ)). is_past reserve (length output) past.exchange)
        (alike.output m bound n input past.exchange past.worker)) ∙ past.past n (subst (λ z. z < n) (sym (most bound)) low);
  }

  within : (m : Shape) (bound : ℕ) (reserve : Option Reserve) → StaysWithin packed m bound input reserve →
      StaysWithin code m bound input reserve
  within m bound None stays = tt
  within m bound (Some reserve) stays = λ past. stays (past_too m bound reserve past)

  one_run : (reserve : Option Reserve) (verdict : Verdict) (exchanges : List Exchange) →
      IsCodeRunWith packed input options reserve verdict exchanges →
      (others : List Exchange) × IsCodeRunWith code input options reserve verdict others
  one_run reserve verdict exchanges r =
      let run = r.run in
      let t = setting code run.shape options.bound run.outcome.enough in
      let ends = sym (alike.outcomes run.shape options.bound run.outcome.enough input run.outcome.exchanges) ∙ run.outcome.ends in (
        exchanges_by t run.outcome.exchanges input,
        record {
          run = record {
            shape = run.shape;
            laid_out = subst (λ (l : List SharedEntry). AreLaidOut (total_size l) options run.shape) layout run.laid_out;
            fits = subst (λ (l : List SharedEntry). length input ≤ total_size l) layout run.fits;
            outcome = record { enough = run.outcome.enough; exchanges = run.outcome.exchanges; ends = ends };
            made = record { enough = run.outcome.enough; most = run.outcome.exchanges; ends = ends; told = refl };
          };
          within = within run.shape options.bound reserve r.within;
        },
      )

  pub runs_of_code : {X E : Type 0} (reserve : Option Reserve) (verdict : X → Verdict) (found : Result X E) →
      IfOk found (λ x. (exchanges : List Exchange) × IsCodeRunWith packed input options reserve (verdict x) exchanges) →
      IfOk found (λ x. (exchanges : List Exchange) × IsCodeRunWith code input options reserve (verdict x) exchanges)
  runs_of_code reserve verdict (Ok x) h = one_run reserve (verdict x) h.0 h.1
  runs_of_code reserve verdict (Err e) h = tt

  refused_as : (r : Refusal) → IsCodeRefused packed input options r → IsCodeRefused code input options r
  refused_as (refusals.Text fault) h = absurd h
  refused_as (refusals.Program breach) h = absurd h
  refused_as refusals.BadWorkers h = h
  refused_as refusals.BadMap h = h
  refused_as refusals.InputTooLong h = (h.0, h.1, subst (λ (l : List SharedEntry). total_size l < length input) layout h.2)
  refused_as refusals.OutOfMemory h = (h.0, h.1, subst (λ (l : List SharedEntry). length input ≤ total_size l) layout h.2)
  refused_as refusals.OutOfReserve h = absurd h

  is_past_too : (reserve : Reserve) → IsCodePast packed input options reserve → IsCodePast code input options reserve
  is_past_too reserve past = record {
    shape = past.shape;
    laid_out = subst (λ (l : List SharedEntry). AreLaidOut (total_size l) options past.shape) layout past.laid_out;
    fits = subst (λ (l : List SharedEntry). length input ≤ total_size l) layout past.fits;
    past = past_alone past.shape options.bound reserve past.past;
  }

  refused_with : (reserve : Option Reserve) (r : Refusal) → IsCodeRefusedWith packed input options reserve r →
      IsCodeRefusedWith code input options reserve r
  refused_with None r h = refused_as r h
  refused_with (Some reserve) r h = ⊎_elim
      (λ (a : IsCodeRefused packed input options r). inl (refused_as r a))
      (λ (b : _). inr (b.0, is_past_too reserve b.1)) h

  pub refusals_of_code : {X : Type 0} (reserve : Option Reserve) (found : Result X Refusal) →
      IfErr found (IsCodeRefusedWith packed input options reserve) → IfErr found (IsCodeRefusedWith code input options reserve)
  refusals_of_code reserve (Ok x) h = tt
  refusals_of_code reserve (Err r) h = refused_with reserve r h

-- the run of the packed code, told with that code
pub runs_packed : {X : Type 0} (code packed : SuperstepCode) → IsPacked code packed → (input : List ℤ) (options : Options)
    (reserve : Option Reserve) (verdict : X → Verdict) (found : Result X Refusal) →
    IfOk found (λ x. (exchanges : List Exchange) × IsCodeRunWith packed input options reserve (verdict x) exchanges) →
    IfOk found (λ x. (packed : SuperstepCode) × IsPacked code packed
    × ((exchanges : List Exchange) × IsCodeRunWith packed input options reserve (verdict x) exchanges))
runs_packed code packed is input options reserve verdict (Ok x) ran = (packed, is, ran)
runs_packed code packed is input options reserve verdict (Err r) ran = tt
