-- Fused, the code of a program has the program's outcomes too, and its workers keep the program's bound.
use Rattle.std.proofs.Common.{if◌then◌else◌}
use Rattle.std.proofs.Common.{◌≡◌, ◌↔◌, ℕ, ◌+◌, ◌*◌, ◌≤◌, Some, List, [], ◌∷◌, length, Bool, true, false, ℤ, sym, subst, ◌∙◌, ap, arith}
use Rattle.std.proofs.lemmas.List.{length-map}
use Rattle.pram_model.specs.Layout.{total_size}
use Rattle.write_rules.specs.Verdict.{Verdict}
use Rattle.address_map.specs.Lawful.{Shape}
use Rattle.superstep_instructions.specs.Code.{SuperstepCode}
use Rattle.superstep_machine.specs.Trace as workers
use Rattle.superstep_machine.specs.Trace.{AreBspExchanges}
use Rattle.superstep_machine.specs.Run.{IsBspOutcome}
use Rattle.bsp_verify.specs.WellFormed.{IsWellFormed}
use Rattle.pram_check.specs.Checked.{Checked}
use Rattle.pram_check.specs.Bounded.{IsBounded}
use Rattle.pram_meaning.specs.Outcome.{IsOutcome}
use Rattle.flat_machine.specs.Flatness.{IsMapFor}
use Rattle.flat_machine.specs.Exchanges.{Exchange, exchanges_of, but_empty, is_empty}
use Rattle.flat_machine.specs.ByInstructions.{IsFlatOutcome}
use Rattle.flat_machine.specs.ByInstructions.{everywhere, outcome_within}
use Rattle.flat_machine.proofs.Laws.{workers_are_flat, workers_make_listed}
use Rattle.flat_machine.proofs.Outcomes.{one_outcome}
use Rattle.exchange_words.proofs.Laws.{accesses_bound_words}
use Rattle.fusing.specs.Fusing.{Fuses, IsFaultless}
use Rattle.plain_form.specs.PlainForm.{form_of}
use Rattle.exchange_bound.specs.Bound.{exchange_bound}
use Rattle.compiled_meaning.specs.Statements.{StatementsAreFollowed}
use Rattle.compiled_meaning.specs.PlainForm.{IsInputFor, IsPlainForm, word_bound}
use Rattle.compiled_meaning.specs.Supersteps.{KeepsTheBound, SendsWithinWork, IsFusedForm}
use Rattle.compiled_meaning.proofs.Outcomes.{has_outcome, is_plain}

-- no more are left where some are taken away
one_kept : (empty : Bool) (x : Exchange) (xs ys : List Exchange) → length xs ≤ length ys →
    length (if empty then xs else x ∷ xs) ≤ length (x ∷ ys)
one_kept true x xs ys h = omega (arith, h)
one_kept false x xs ys h = omega (arith, h)

fewer_left : (xs : List Exchange) → length (but_empty xs) ≤ length xs
fewer_left [] = let e : 0 ≤ 0 = omega arith in e
fewer_left (x ∷ xs) = one_kept (is_empty x) x (but_empty xs) xs (fewer_left xs)

module _ (followed : StatementsAreFollowed) (keep : Bool) (p : Checked) (bounded : IsBounded p) (formed : IsWellFormed (form_of keep p))
    (code : SuperstepCode) (fuses : Fuses (form_of keep p) code) where
  plain : IsPlainForm p (form_of keep p)
  plain = is_plain followed keep p bounded formed

  -- a shape for the fused code is one for the code
  map_for : (map : Shape) → IsMapFor code map → IsMapFor (form_of keep p) map
  map_for shape f = record { lawful = f.lawful; room = subst (λ l. total_size l ≤ shape.count) fuses.layout f.room }

  exchanges_few : (input : List ℤ) → IsInputFor p input → (n : ℕ) (v : Verdict) → IsOutcome p input n v → IsFaultless v →
      length (exchanges_of code n input) ≤ exchange_bound p input n
  exchanges_few input is n v o u = subst (λ xs. length xs ≤ exchange_bound p input n)
      (sym (fuses.exchanges input n v (has_outcome followed keep p bounded formed input is n v o) u)) (plain.few input is n v o u)

  fused_outcomes : (map : Shape) → IsMapFor code map → (input : List ℤ) → IsInputFor p input → (n : ℕ) (v : Verdict) →
      IsBspOutcome code map input n v ↔ IsOutcome p input n v
  fused_outcomes shape for input is n v = (
    λ b. (plain.outcomes shape (map_for shape for) input is n v).0 ((fuses.outcomes shape (map_for shape for) input n v).1 b),
    λ o. (fuses.outcomes shape (map_for shape for) input n v).0 ((plain.outcomes shape (map_for shape for) input is n v).1 o),
  )

  fused_plain : IsPlainForm p code
  fused_plain = record {
    rule = fuses.rule;
    procs = fuses.procs;
    layout = fuses.layout;
    outcomes = fused_outcomes;
    few = λ input is n v o u. let a : length (exchanges_of code n input) ≤ exchange_bound p input n = exchanges_few input is n v o u in
        let b : length (but_empty (exchanges_of code n input)) ≤ length (exchanges_of code n input) =
        fewer_left (exchanges_of code n input) in omega (arith, a, b);
    words = λ input is n v o u workers. subst (λ k. k ≤ word_bound p workers input n)
        (sym (fuses.words input n v (has_outcome followed keep p bounded formed input is n v o) u workers)) (plain.words input is n v o u
        workers);
  }

  -- the workers' list is as long as the code's
  as_long : (map : Shape) → IsMapFor code map → (input : List ℤ) (n : ℕ) (v : Verdict) → IsFlatOutcome code input n v →
      (made : List workers.Exchange) → AreBspExchanges code map input n v made → length made ≡ length (exchanges_of code n input)
  as_long shape for input n v o made a =
      sym (length-map made (λ (e : workers.Exchange). e.purpose))
      ∙ ap length ((workers_make_listed code fuses.well_formed shape for input n v o).listed made a)
      ∙ length-map (exchanges_of code n input) (λ (e : Exchange). e.purpose)

  keeps : KeepsTheBound p code
  keeps shape for input is n v o u made a =
      let flat : IsFlatOutcome code input n v =
      (workers_are_flat code shape for input n v).0 ((fused_outcomes shape for input is n v).1 o) in
      subst (λ k. k ≤ exchange_bound p input n) (sym (as_long shape for input n v flat made a)) (exchanges_few input is n v o u)

  -- the words of the workers are at most those of the accesses on one memory
  sends : SendsWithinWork p code
  sends shape for input is n v o u made a =
      let one = one_outcome code fuses.well_formed input n in
      let flat : IsFlatOutcome code input n v = (workers_are_flat code shape for input n v).0
      ((fused_outcomes shape for input is n v).1 o) in
      let most = (n + 1) * length code.instructions in
      let here : outcome_within code n everywhere most input ≡ Some v =
      subst (λ w. outcome_within code n everywhere most input ≡ Some w) (sym (one.only v flat)) (one.lasts most (omega arith)) in
      let b = accesses_bound_words code shape for input n v made a most here in
      let c = fused_plain.words input is n v o u shape.parts in
      omega (arith, b, c)

  pub is_fused : IsFusedForm p code
  is_fused = record { form = fused_plain; supersteps = keeps; communication = sends }
