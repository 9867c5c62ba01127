-- The code of a program has the program's outcomes.
use Rattle.std.proofs.Common.{◌≡◌, ◌↔◌, ℕ, ◌+◌, ◌*◌, ◌<◌, ◌≤◌, List, [], ◌∷◌, length, Bool, false, ℤ, refl, sym, subst, ◌∙◌, ap, arith}
use Rattle.std.proofs.Common.{⊎_elim}
use Rattle.superstep_instructions.specs.declared.instr.Instr.{Instr}
use Rattle.superstep_instructions.specs.declared.instr.Instr.TheVariants.{Halt}
use Rattle.write_rules.specs.Verdict.{Verdict, Ended, GoesOn}
use Rattle.address_map.specs.Lawful.{Shape}
use Rattle.superstep_machine.specs.Run.{IsBspOutcome}
use Rattle.bsp_verify.specs.WellFormed.{IsWellFormed}
use Rattle.pram_check.specs.Checked.{Checked}
use Rattle.pram_check.specs.Bounded.{IsBounded}
use Rattle.pram_meaning.specs.Bounded.{Done, Goes, Stops, Reaches}
use Rattle.pram_meaning.specs.Outcome as meaning
use Rattle.pram_meaning.specs.Outcome.{IsOutcome}
use Rattle.pram_meaning.specs.Computed.{verdict_at, body_done}
use Rattle.pram_meaning.proofs.OneOutcome.{outcome_is_computed}
use Rattle.flat_machine.specs.Flat as flat
use Rattle.flat_machine.specs.Flat.{Flat}
use Rattle.flat_machine.specs.Flatness.{IsMapFor}
use Rattle.flat_machine.specs.ByInstructions.{IsFlatOutcome}
use Rattle.flat_machine.specs.Exchanges.{exchanges_of, but_empty}
use Rattle.flat_machine.specs.Verdicts.{ends_statement}
use Rattle.flat_machine.proofs.Laws.{workers_are_flat}
use Rattle.flat_machine.proofs.Outcomes.{one_outcome}
use Rattle.fusing.specs.Fusing.{IsFaultless}
use Rattle.flat_stretches.specs.Along.{Run, IsAt}
use Rattle.flat_stretches.specs.Tells.{ends}
use Rattle.flat_stretches.specs.Closes.{ComesOut}
use Rattle.flat_stretches.proofs.Joins.{stands_split}
use Rattle.plain_form.specs.PlainForm.{form_of}
use Rattle.plain_form.specs.Registers.{behind_variables}
use Rattle.plain_form.specs.Outside.{statements_code, statements_left}
use Rattle.exchange_bound.specs.Events.{Event, Runs, Cut, Votes, events_of}
use Rattle.exchange_bound.specs.Bound.{one_if, shares}
use Rattle.exchange_bound.specs.Spent as exchanges
use Rattle.exchange_bound.specs.Spent.{held_behind, held_after}
use Rattle.exchange_bound.specs.Accesses.{words, words_by}
use Rattle.exchange_words.specs.Accesses.{of_write, words_of}
use Rattle.std.proofs.Math.Nat.{mul-le-mul_left}
use Rattle.std.proofs.lemmas.Bool.{cases_lt}
use Rattle.compiled_meaning.specs.Paid.{spent, weighs}
use Rattle.exchange_bound.proofs.Shared.{spent_is_shared}
use Rattle.compiled_meaning.specs.Between.{IsRunOf}
use Rattle.compiled_meaning.specs.Follows.{Follows, HoldsBehind}
use Rattle.compiled_meaning.specs.Statements.{GoesWithout, StatementsAreFollowed}
use Rattle.compiled_meaning.specs.PlainForm.{IsInputFor, IsPlainForm, word_bound}
use Rattle.compiled_meaning.proofs.Opening.{stands_all, begins}
use Rattle.compiled_meaning.proofs.Ending.{comes_by, ended}

-- what a run may spend: the shares of its events, and the words of their accesses by their weight
abbrev allowed : Run → List Event → ℕ
allowed t es = shares es + t.weight * words t.workers (of_write t.code.rule) es

-- the run has this outcome, and if it is no fault it spends at most so much
record ComesToIt (t : Run) (verdict : Verdict) (few : ℕ) : Type 0 where
  outcome : IsFlatOutcome t.code t.input t.bound verdict
  within : IsFaultless verdict →
      length (but_empty (exchanges_of t.code t.bound t.input)) + t.weight * words_of t.code t.bound t.workers t.input ≤ few

from_out : (t : Run) (v : Verdict) (few : ℕ) → ComesOut t v few → ComesToIt t v few
from_out t v few c = record { outcome = c.outcome; within = λ u. c.few }

weight_is : (t : Run) (e : Event) → weighs t e ≡ t.weight * words_by t.workers (of_write t.code.rule) e
weight_is t (Runs levels writes set reads) = refl
weight_is t Cut = omega arith
weight_is t Votes = omega arith

-- exchanges and words apart
apart : (t : Run) (es : List Event) (held : Bool) →
    spent t es held ≡ exchanges.spent es held + t.weight * words t.workers (of_write t.code.rule) es
apart t [] held = omega arith
apart t (e ∷ es) held = let h = apart t es (held_after e held) in
    let w = weight_is t e in
    let k : t.weight * (words_by t.workers (of_write t.code.rule) e + words t.workers (of_write t.code.rule) es)
    ≡ t.weight * words_by t.workers (of_write t.code.rule) e + t.weight * words t.workers (of_write t.code.rule) es = omega arith in
    omega (arith, h, k, w)

-- what is spent, with a write that is still held and the close, is the sum of the shares and the words, and the close
all_spent : (t : Run) (es : List Event) → spent t es false + one_if (held_behind es false) ≡ allowed t es
all_spent t es = let h : exchanges.spent es false + one_if (held_behind es false) ≡ shares es + 0 = spent_is_shared es false in
    let k = apart t es false in omega (arith, h, k)

module _ (p : Checked) (t : Run) (of : IsRunOf p t) where
  -- from where the body is left
  comes_out : (free place : ℕ) (left : Bool) (es : List Event) (f : Flat) (d : Done) → IsAt t place Halt →
      Follows t 0 false es (GoesWithout p t free left place (0 + spent t es false) f) d → HoldsBehind false es left d →
      ComesToIt t (verdict_at d) (1 + allowed t es)
  comes_out free place left es f (Goes u m) at h l =
      let a : spent t es false + one_if (held_behind es false) ≡ allowed t es = all_spent t es in
      let b : one_if (held_behind es false) ≡ one_if left = ap one_if l in
      from_out t (Ended m.output m.cells) (1 + allowed t es) (comes_by t (Ended m.output m.cells) (0 + spent t es false + (one_if left + 1))
      (1 + allowed t es) (omega (arith, a, b)) (ended p t of left m place (0 + spent t es false) h.behind h.without at))
  comes_out free place left es f (Stops fault out) at h l = record { outcome = h; within = λ u. absurd u }
  comes_out free place left es f (Reaches out) at h l =
      let a : spent t es false + one_if (held_behind es false) ≡ allowed t es = all_spent t es in
      from_out t (GoesOn out) (1 + allowed t es) (comes_by t (GoesOn out) (0 + (spent t es false + one_if (held_behind es false)) + 1)
      (1 + allowed t es) (omega (arith, a)) h)

-- where that holds for every weight, the words alone are bounded
words_alone : (made most taken allowed : ℕ) → ((weight : ℕ) → made + weight * taken ≤ most + weight * allowed) → taken ≤ allowed
words_alone made most taken allowed h = ⊎_elim (λ l. absurd (more l)) (λ l. l) (cases_lt allowed taken)
  where
    more : allowed < taken → ⊥
    more l =
        let k = h (most + 1) in
        let a : (most + 1) * (allowed + 1) ≤ (most + 1) * taken = mul-le-mul_left (most + 1) (omega (arith, l)) in
        let b : (most + 1) * (allowed + 1) ≡ (most + 1) * allowed + (most + 1) = omega arith in
        omega (arith, k, a, b)

module _ (followed : StatementsAreFollowed) (keep : Bool) (p : Checked) (bounded : IsBounded p)
    (formed : IsWellFormed (form_of keep p)) where
  -- by so many workers, where a word weighs so much beside an exchange
  abbrev run : (workers weight : ℕ) → List ℤ → ℕ → Run
  run workers weight input n = record { code = form_of keep p; input = input; bound = n; workers = workers; weight = weight }

  is_run : (workers weight : ℕ) (input : List ℤ) (n : ℕ) → IsRunOf p (run workers weight input n)
  is_run workers weight input n = record { rule = refl; procs = refl; layout = refl; formed = formed }

  -- the body, and the halt behind it
  abbrev body : List Instr
  body = statements_code keep (behind_variables p.uniforms) 0 false p.body

  comes_to_it : (workers weight : ℕ) (input : List ℤ) (n : ℕ) → IsInputFor p input →
      ComesToIt (run workers weight input n) (verdict_at (body_done p input n))
      (1 + allowed (run workers weight input n) (events_of p input n))
  comes_to_it workers weight input n is =
      let t : Run = run workers weight input n in
      let both = stands_split t 0 body (Halt ∷ []) (stands_all t) in
      let at : IsAt t (0 + length body) Halt = both.1.0 in
      let done = followed p t keep (behind_variables p.uniforms) false p.body (meaning.opening p input) 0 0 (flat.opening input) (record {
        of = is_run workers weight input n;
        free_ones = let e : behind_variables p.uniforms ≤ behind_variables p.uniforms = omega arith in e;
        named = bounded.body;
        stand = both.0;
        calm = ends (ap ends_statement at);
        without = begins p t is;
      }) in
      comes_out p t (is_run workers weight input n) (behind_variables p.uniforms) (0 + length body) (statements_left false p.body)
      (events_of p input n)
      (flat.opening input) (body_done p input n) at done.follows done.left

  -- the program's outcome is the code's on one memory
  pub has_outcome : (input : List ℤ) → IsInputFor p input → (n : ℕ) (v : Verdict) → IsOutcome p input n v →
      IsFlatOutcome (form_of keep p) input n v
  has_outcome input is n v o =
      subst (λ v. IsFlatOutcome (form_of keep p) input n v) (sym ((outcome_is_computed p input n v).0 o))
      (comes_to_it 0 0 input n is).outcome

  -- the code's outcome on the workers of a map is the program's, and the other way round
  pub same_outcomes : (map : Shape) → IsMapFor (form_of keep p) map → (input : List ℤ) → IsInputFor p input → (n : ℕ) (v : Verdict) →
      IsBspOutcome (form_of keep p) map input n v ↔ IsOutcome p input n v
  same_outcomes map for input is n v =
      let one = one_outcome (form_of keep p) formed input n in
      let flat = workers_are_flat (form_of keep p) map for input n in (
        λ b. (outcome_is_computed p input n v).1
            (one.only v ((flat v).0 b) ∙ sym (one.only (verdict_at (body_done p input n)) (comes_to_it 0 0 input n is).outcome)),
        λ o. (flat v).1 (has_outcome input is n v o),
      )

  pub is_plain : IsPlainForm p (form_of keep p)
  is_plain = record {
    rule = refl;
    procs = refl;
    layout = refl;
    outcomes = same_outcomes;
    few = λ input is n v o u. let h = (comes_to_it 0 0 input n is).within (subst IsFaultless ((outcome_is_computed p input n v).0 o) u) in
        let z : 0 * words_of (form_of keep p) n 0 input ≡ 0 = omega arith in
        let y : 0 * words 0 (of_write p.rule) (events_of p input n) ≡ 0 = omega arith in
        omega (arith, h, z, y);
    words = λ input is n v o u workers. words_alone (length (but_empty (exchanges_of (form_of keep p) n input)))
        (1 + shares (events_of p input n)) (words_of (form_of keep p) n workers input) (word_bound p workers input n)
        (λ weight. let h = (comes_to_it workers weight input n is).within (subst IsFaultless ((outcome_is_computed p input n v).0 o) u) in
        omega (arith, h));
  }
