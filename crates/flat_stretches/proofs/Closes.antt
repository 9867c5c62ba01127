-- A run without a fault ends by its halt or by its bound, with the memory in which the held write is applied.
use Rattle.std.proofs.Common.{◌≡◌, ℕ, suc, ◌+◌, ◌*◌, ◌≤◌, List, [], ◌∷◌, map, length, Bool, true, false, eqb, Option, Some, None, refl}
use Rattle.std.proofs.Common.{sym, ap}
use Rattle.std.proofs.Common.{◌∙◌, subst, arith}
use Rattle.std.specs.Prelude.{if◌then◌else◌}
use Rattle.std.proofs.lemmas.Bool.Decides.{nat_tests}
use Rattle.write_rules.specs.Verdict.{Verdict, Ended, GoesOn}
use Rattle.superstep_instructions.specs.declared.instr.Instr.{Instr}
use Rattle.superstep_instructions.specs.declared.instr.Instr.TheVariants.{Mark, Halt}
use Rattle.superstep_machine.specs.declared.key.Key.{Key}
use Rattle.superstep_instructions.specs.Code.{SuperstepCode}
use Rattle.superstep_machine.specs.Run.{Sends, Closes, Past, is_held, items, verdict_by}
use Rattle.superstep_machine.specs.Sending.{verdict_on, settled, uniform_sent}
use Rattle.superstep_machine.specs.Stretch.{ToClose}
use Rattle.bsp_verify.specs.WellFormed.{IsWellFormed}
use Rattle.flat_machine.specs.Flat.{Flat, cells, after_instr, after_send}
use Rattle.flat_machine.specs.ByExchanges.{State, outcome_of, opening}
use Rattle.flat_machine.specs.ByInstructions.{closed, going, steps, everywhere}
use Rattle.flat_machine.specs.Exchanges.{Exchange, exchange, is_empty, exchanges_at, exchanges_of, but_empty}
use Rattle.flat_machine.specs.Verdicts.{told}
use Rattle.flat_machine.proofs.Stepping.{IsPast, outcome_is_past}
use Rattle.flat_machine.proofs.ExchangeLists.{all_made}
use Rattle.flat_machine.proofs.Paths as paths
use Rattle.flat_machine.proofs.Arrival.{arrives}
use Rattle.flat_machine.proofs.Late.{told_noted}
use Rattle.pram_model.proofs.Truths.{unsome}
use Rattle.exchange_words.specs.Accesses.{words_of, words_within}
use Rattle.exchange_words.proofs.Lists.{all_taken}
use Rattle.flat_stretches.specs.Applied.{applied}
use Rattle.flat_stretches.specs.Along.{Run, Comes, IsAt}
use Rattle.flat_stretches.specs.Closes.{close_cost, ComesOut, HaltsEnd, BoundsEnd}
use Rattle.flat_stretches.proofs.Applied.{lone_send_told}
use Rattle.flat_stretches.proofs.Along.{counted, along}

-- ---- exchanges

counted_at_most : (xs : List Exchange) → counted xs ≤ length xs
counted_at_most [] = omega arith
counted_at_most (x ∷ xs) = go (is_empty x) (counted_at_most xs)
  where
    go : (b : Bool) → counted xs ≤ length xs → length (if b then but_empty xs else x ∷ but_empty xs) ≤ suc (length xs)
    go true h = omega (arith, h)
    go false h = omega (arith, h)

close_counted : (ended : Bool) (f : Flat) → counted (exchanges_at (ToClose ended) f.uniform) ≤ close_cost f
close_counted ended f = go (is_held f.uniform.put)
  where
    go : (b : Bool) →
        counted (if b then exchange Sends f.uniform ∷ exchange Closes (uniform_sent f.uniform) ∷ [] else exchange Closes f.uniform ∷ [])
        ≤ (if b then 2 else 1)
    go true = counted_at_most (exchange Sends f.uniform ∷ exchange Closes (uniform_sent f.uniform) ∷ [])
    go false = counted_at_most (exchange Closes f.uniform ∷ [])

-- a run that is over has made them all
all_counted : (t : Run) → IsWellFormed t.code → (s : State) (spent : ℕ) → Comes t s spent → IsPast s.way →
    counted (exchanges_of t.code t.bound t.input) + t.weight * words_of t.code t.bound t.workers t.input ≤ spent
all_counted t formed s spent c past =
    let a = arrives t.code formed t.bound everywhere t.input in
    let enough = (t.bound + 1) * length t.code.instructions in
    let same = all_made t.code t.bound everywhere c.instructions enough (opening t.input)
    (subst (λ (x : State). IsPast x.way) (sym c.here) past)
    (outcome_is_past t.code (steps t.code t.bound everywhere enough (opening t.input)) a.0 a.1) in
    let taken = all_taken t.code t.bound t.workers c.instructions enough (opening t.input)
    (subst (λ (x : State). IsPast x.way) (sym c.here) past)
    (outcome_is_past t.code (steps t.code t.bound everywhere enough (opening t.input)) a.0 a.1) in
    subst (λ n. counted (exchanges_of t.code t.bound t.input) + t.weight * n ≤ spent) taken
    (subst (λ xs. counted xs + t.weight * words_within t.code t.bound t.workers c.instructions (opening t.input) ≤ spent) same c.few)

-- ---- what a close leaves

-- the verdict of a run without a fault
abbrev verdict_at : SuperstepCode → Bool → Flat → Option Verdict
verdict_at code ended f = verdict_by (Past None ended) f.uniform.output (map (applied code f).memory (cells code))

close_outcome : (code : SuperstepCode) (ended : Bool) (place : ℕ) (f : Flat) → f.uniform.asks ≡ [] →
    (is_held f.uniform.put ≡ false → (c : ℕ) → f.held c ≡ None) → told code f ≡ None →
    outcome_of code (closed code ended place f) ≡ verdict_at code ended f
close_outcome code ended place f none bare quiet = go (is_held f.uniform.put) refl
  where
    go : (b : Bool) → is_held f.uniform.put ≡ b →
        outcome_of code (let last = if b then after_send code f else f in
        record { flat = last; place = place; way = Past last.key ended }) ≡ verdict_at code ended f
    go true e = ap (λ (k : Option Key). verdict_by (Past k ended) f.uniform.output (map (applied code f).memory (cells code)))
        (lone_send_told code f none ∙ quiet)
    go false e = λ z. verdict_by (Past ((sym (told_noted code f e) ∙ quiet) z) ended) f.uniform.output
        (map (λ c. settled (verdict_on code.rule (sym (bare e c) z)) (f.memory c)) (cells code))

module _ (t : Run) (formed : IsWellFormed t.code) (place : ℕ) (f : Flat) (spent : ℕ) (c : Comes t (going place f) spent) where
  -- a path of control comes here
  pub agrees : paths.IsAt t.code place f
  agrees = subst (λ (s : State). paths.Agrees t.code s) c.here
      (paths.states_describe t.code formed t.bound everywhere t.input c.instructions) refl

  pub fits : (i : Instr) → IsAt t place i → paths.Fits t.code place f agrees i
  fits i at =
      let x = paths.found t.code formed place f agrees in
      subst (λ (j : Instr). paths.Fits t.code place f agrees j) (unsome x.instr i (sym x.is ∙ at)) x.fits

  closes : (ended : Bool) (v : Verdict) → f.uniform.asks ≡ [] → told t.code f ≡ None → verdict_at t.code ended f ≡ Some v →
      Comes t (closed t.code ended place f) (spent + close_cost f) → ComesOut t v (spent + close_cost f)
  closes ended v none quiet is e = record {
    outcome = record {
      instructions = e.instructions;
      ends = ap (λ (s : State). outcome_of t.code s) e.here ∙ close_outcome t.code ended place f none agrees.counted.bare quiet ∙ is;
    };
    few = all_counted t formed (closed t.code ended place f) (spent + close_cost f) e tt;
  }

pub halts_end : HaltsEnd
halts_end t formed place f spent c at quiet =
    closes t formed place f spent c true (Ended (items f.uniform.output) (map (applied t.code f).memory (cells t.code)))
    (paths.halt_asks_none t.code place f (agrees t formed place f spent c) (fits t formed place f spent c Halt at)) quiet refl
    (along t place f spent c Halt (closed t.code true place f) (close_cost f) at refl
    (let k = close_counted true f in let z : t.weight * 0 ≡ 0 = omega arith in omega (arith, k, z)))

pub bounds_end : BoundsEnd
bounds_end t formed place f spent c line at is quiet =
    closes t formed place f spent c false (GoesOn (items f.uniform.output))
    (paths.mark_asks_none t.code place f (agrees t formed place f spent c) line (fits t formed place f spent c (Mark line) at)) quiet refl
    (along t place f spent c (Mark line) (closed t.code false place f) (close_cost f) at
    (ap (λ b. if b then closed t.code false place f else going (place + 1) (after_instr t.code (Mark line) f)) reached)
    (let k = subst (λ b. counted (let none : List Exchange = [] in if b then exchanges_at (ToClose false) f.uniform else none)
    ≤ close_cost f) (sym reached) (close_counted false f) in let z : t.weight * 0 ≡ 0 = omega arith in omega (arith, k, z)))
  where
    same : (a b : ℕ) → a ≡ b → eqb a b ≡ true
    same a b e = grind (arith, nat_tests)

    reached : eqb f.uniform.count t.bound ≡ true
    reached = same f.uniform.count t.bound is
