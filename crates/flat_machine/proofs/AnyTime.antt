-- The time of the verdict doesn't matter, and a key is for good.
use Rattle.std.proofs.Common.{◌≡◌, ℕ, zero, suc, ◌+◌, ◌*◌, ◌<◌, ◌≤◌, List, [], length, Bool, true, false, eqb, Option, Some, None, ℤ, refl}
use Rattle.std.proofs.Common.{sym, ap, ◌∙◌, subst, arith, ⊎_elim, ◌⊎◌, inl, inr}
use Rattle.std.specs.Prelude.{if◌then◌else◌, nat_lt, slice_get}
use Rattle.std.proofs.lemmas.Bool.Decides.{nat_tests}
use Rattle.pram_values.proofs.Totals.{total_none}
use Rattle.write_rules.specs.Verdict.{Verdict, Faulted}
use Rattle.superstep_instructions.specs.declared.instr.Instr.{Instr}
use Rattle.superstep_instructions.specs.declared.instr.Instr.TheVariants.{Mark, Send, Reply, Vote, Jump, JumpIfZero, Halt}
use Rattle.superstep_machine.specs.declared.key.Key.{Key}
use Rattle.superstep_instructions.specs.Code.{SuperstepCode}
use Rattle.superstep_machine.specs.Keys.{least}
use Rattle.superstep_machine.specs.Run.{Purpose, Sends, Replies, Votes, Way, On, Ending, Past, Refused, Lost, is_held, due, unless, decided}
use Rattle.superstep_machine.specs.Run.{items_below, fault_of}
use Rattle.superstep_machine.specs.Steps.{own_key, is_active}
use Rattle.superstep_machine.proofs.KeyOrder.{keys_are_monoid, none_least}
use Rattle.bsp_verify.specs.WellFormed.{IsWellFormed}
use Rattle.flat_machine.specs.Flat.{Flat, range, noted, after_instr, owed}
use Rattle.flat_machine.specs.ByExchanges.{State, after_exchange, outcome_of, opening}
use Rattle.flat_machine.specs.ByInstructions.{exchanged, closed, going, instructed, step, step_by, steps, everywhere, outcome_within}
use Rattle.flat_machine.specs.ByInstructions.{IsOutcomeBy}
use Rattle.flat_machine.specs.Verdicts.{told, IsLate, ends_statement, AKeyIsForGood, AVerdictMayBeLate, AnyTimeOfVerdict}
use Rattle.flat_machine.proofs.Stepping.{carried_out, steps_more, one_end}
use Rattle.flat_machine.proofs.Counts.{IsKeyOf, least_of, owed_of}
use Rattle.flat_machine.proofs.Paths.{IsAt, Agrees, Fits, found, states_describe, mark_asks_none, halt_asks_none, reply_holds_none}
use Rattle.flat_machine.proofs.Paths.{vote_holds_none}
use Rattle.flat_machine.proofs.Arrival.{arrives}
use Rattle.flat_machine.proofs.Late.{faulted, told_noted, closed_told, late_verdict}
use Rattle.pram_model.proofs.Truths.{unsome}

-- ---- two runs, in which the exchanges of different places decide

-- an exchange of this purpose goes on, or it tells a key that is due
abbrev Tells : Option Key → Bool → Way → Type 0
Tells key held way = (way ≡ On) ⊎ ((k : Key) × (key ≡ Some k) × (held ≡ false))

abbrev Decides : Purpose → Flat → Type 0
Decides purpose f = Tells (due f.key f.uniform.count) (is_held f.uniform.put) (decided purpose f.uniform f.key On)

by_due : (x : Option Key) (held : Bool) → held ≡ false → Tells x held (unless x On)
by_due None held h = inl refl
by_due (Some key) held h = inr (key, refl, h)

send_decides : (f : Flat) → Decides Sends f
send_decides f = go (is_held f.uniform.put)
  where
    go : (b : Bool) → Tells (due f.key f.uniform.count) b (if b then On else unless (due f.key f.uniform.count) On)
    go true = inl refl
    go false = by_due (due f.key f.uniform.count) false refl

-- what is due is noted, and of an earlier statement
due_key : (x : Option Key) (count : ℕ) (key : Key) → due x count ≡ Some key → (x ≡ Some key) × (key.count < count)
due_key None count key e = cc
due_key (Some k) count key e = go (nat_lt k.count count) refl e
  where
    go : (b : Bool) → nat_lt k.count count ≡ b → (if b then Some k else None) ≡ Some key → (Some k ≡ Some key) × (key.count < count)
    go true h d = (d, subst (λ (x : Key). x.count < count) (unsome k key d) (less k.count count h))
      where
        less : (a b : ℕ) → nat_lt a b ≡ true → a < b
        less a b q = grind (arith, nat_tests)
    go false h d = cc

late_where_due : (code : SuperstepCode) (f : Flat) (key : Key) → due f.key f.uniform.count ≡ Some key → is_held f.uniform.put ≡ false →
    IsLate code key f
late_where_due code f key d h = let x = due_key f.key f.uniform.count key d in record { told = told_noted code f h ∙ x.0; over = x.1 }

module _ (code : SuperstepCode) (formed : IsWellFormed code) (bound : ℕ) (one two : ℕ → Bool) where
  abbrev from : (ℕ → Bool) → Option Instr → ℕ → Flat → State
  from judges o place f = carried_out code bound judges o place f

  -- both runs go on alike, or a key is late
  abbrev AreAlike : Flat → State → State → Type 0
  AreAlike f s r = (s ≡ r) ⊎ ((key : Key) × IsLate code key f)

  exchange_alike : (purpose : Purpose) (place : ℕ) (f : Flat) → Decides purpose f →
      AreAlike f (exchanged code one purpose place f) (exchanged code two purpose place f)
  exchange_alike purpose place f h =
      ⊎_elim
      (λ e. inl (λ i. record { flat = after_exchange code purpose f; place = place + 1; way = (on one e ∙ sym (on two e)) i }))
      (λ k. inr (k.0, late_where_due code f k.0 k.1 k.2)) h
    where
      on : (judges : ℕ → Bool) → decided purpose f.uniform f.key On ≡ On →
          (if judges place then decided purpose f.uniform f.key On else On) ≡ On
      on judges e = go (judges place)
        where
          go : (b : Bool) → (if b then decided purpose f.uniform f.key On else On) ≡ On
          go true = e
          go false = refl

  module _ (place : ℕ) (f : Flat) (a : IsAt code place f) where
    by_instr : (i : Instr) → Fits code place f a i → AreAlike f (from one (Some i) place f) (from two (Some i) place f)
    by_instr Send h = exchange_alike Sends place f (send_decides f)
    by_instr Reply h = exchange_alike Replies place f
        (by_due (due f.key f.uniform.count) (is_held f.uniform.put) (reply_holds_none code place f a h))
    by_instr (Vote d) h = exchange_alike (Votes d) place f
        (by_due (due f.key f.uniform.count) (is_held f.uniform.put) (vote_holds_none code place f a d h))
    by_instr Halt h = inl refl
    by_instr (Mark line) h = inl refl
    by_instr (Jump target) h = inl refl
    by_instr (JumpIfZero r target) h = inl refl
    by_instr i h = inl refl

    instructed_alike : AreAlike f (instructed code bound one place f) (instructed code bound two place f)
    instructed_alike =
        let x = found code formed place f a in
        subst (λ (o : Option Instr). AreAlike f (from one o place f) (from two o place f)) (sym x.is) (by_instr x.instr x.fits)

  abbrev IsLateOn : State → Type 0
  IsLateOn s = (s.way ≡ On) × (key : Key) × IsLate code key s.flat

  step_alike : (s : State) → Agrees code s → (step code bound one s ≡ step code bound two s) ⊎ IsLateOn s
  step_alike s a = go s.way refl
    where
      go : (way : Way) → s.way ≡ way → (step_by code bound one s way ≡ step_by code bound two s way) ⊎ IsLateOn s
      go On e = ⊎_elim (λ x. inl x) (λ k. inr (e, k.0, k.1)) (instructed_alike s.place s.flat (a e))
      go (Ending ended) e = inl refl
      go (Past key ended) e = inl refl
      go (Refused mark) e = inl refl
      go Lost e = inl refl

  module _ (input : List ℤ) where
    abbrev enough : ℕ
    enough = (bound + 1) * length code.instructions

    abbrev after_one : ℕ → State
    after_one n = steps code bound one n (opening input)

    abbrev after_two : ℕ → State
    after_two n = steps code bound two n (opening input)

    -- they are in one state, or they have one outcome
    abbrev AreSame : ℕ → Type 0
    AreSame n = (after_one n ≡ after_two n) ⊎ (outcome_within code bound one enough input ≡ outcome_within code bound two enough input)

    next_same : (n : ℕ) → after_one n ≡ after_two n → AreSame (suc n)
    next_same n e = ⊎_elim
        (λ x. inl (last one n ∙ x ∙ ap (step code bound two) e ∙ sym (last two n)))
        (λ l. inr (late_verdict code formed bound one input n l.1 l.0 l.2
        ∙ ap (λ (s : State). faulted l.1 (items_below l.1.count s.flat.uniform.output)) e
        ∙ sym (late_verdict code formed bound two input n l.1 (ap (λ (s : State). s.way) (sym e)
        ∙ l.0) (subst (λ (s : State). IsLate code l.1 s.flat) e l.2))))
        (step_alike (after_one n) (states_describe code formed bound one input n))
      where
        last : (judges : ℕ → Bool) (n : ℕ) →
            steps code bound judges (suc n) (opening input) ≡ step code bound judges (steps code bound judges n (opening input))
        last judges n =
            ap (λ k. steps code bound judges k (opening input)) (let h : suc n ≡ n + 1 = omega arith in h)
            ∙ steps_more code bound judges n 1 (opening input)

    all_same : (n : ℕ) → AreSame n
    all_same zero = inl refl
    all_same (suc n) = ⊎_elim (λ e. next_same n e) (λ o. inr o) (all_same n)

    pub same_outcome : outcome_within code bound one enough input ≡ outcome_within code bound two enough input
    same_outcome = ⊎_elim (λ e. ap (λ (s : State). outcome_of code s) e) (λ o. o) (all_same enough)

    -- so an outcome of one is that of the other
    pub other_outcome : (verdict : Verdict) → IsOutcomeBy one code input bound verdict → IsOutcomeBy two code input bound verdict
    other_outcome verdict o =
        let a = arrives code formed bound one input in
        let e = one_end code bound one input enough o.instructions a.0 verdict a.1 o.ends in record {
          instructions = enough;
          ends = sym same_outcome ∙ a.1 ∙ ap (λ (v : Verdict). let x : Option Verdict = Some v in x) e;
        }

pub any_time_of_verdict : AnyTimeOfVerdict
any_time_of_verdict code formed judges input bound verdict = (
  λ o. other_outcome code formed bound judges everywhere input verdict o,
  λ o. other_outcome code formed bound everywhere judges input verdict o,
)

-- ---- a key is for good

-- a mark notes nothing
pub none_noted : (code : SuperstepCode) (line : ℕ) (f : Flat) → noted code (Mark line) f ≡ None
none_noted code line f = total_none None least keys_are_monoid (λ v. own_key code (Mark line) f.uniform v (f.own v))
    (λ v. go (is_active (f.own v))) (range f)
  where
    go : (b : Bool) → (let none : Option Key = None in if b then none else None) ≡ None
    go true = refl
    go false = refl

-- what is told is of this statement or of an earlier one
told_counted : (code : SuperstepCode) (place : ℕ) (f : Flat) → IsAt code place f → (key : Key) → told code f ≡ Some key →
    key.count ≤ f.uniform.count
told_counted code place f a key e =
    subst (IsKeyOf (λ n. n ≤ f.uniform.count)) e
    (least_of (λ n. n ≤ f.uniform.count) f.key (owed code f) a.counted.key (owed_of (λ n. n ≤ f.uniform.count) code f a.counted.put))

-- and behind a mark it is late
late_behind : (code : SuperstepCode) (place line : ℕ) (f : Flat) → IsAt code place f → (key : Key) → told code f ≡ Some key →
    IsLate code key (after_instr code (Mark line) f)
late_behind code place line f a key e = record {
  told = ap (λ x. least (least f.key x) (owed code f)) (none_noted code line f) ∙ ap (λ x. least x (owed code f)) (none_least f.key) ∙ e;
  over = (let l = told_counted code place f a key e in omega (arith, l));
}

module _ (code : SuperstepCode) (formed : IsWellFormed code) (bound : ℕ) (judges : ℕ → Bool) (input : List ℤ) (n : ℕ) (key : Key) where
  abbrev here : State
  here = steps code bound judges n (opening input)

  abbrev verdict : Verdict
  verdict = Faulted (fault_of key) (items_below key.count here.flat.uniform.output)

  -- the state after one more instruction
  one_more : (s : State) → step code bound judges here ≡ s → steps code bound judges (n + 1) (opening input) ≡ s
  one_more s e = steps_more code bound judges n 1 (opening input) ∙ e

  module _ (on : here.way ≡ On) (t : told code here.flat ≡ Some key) where
    agrees : IsAt code here.place here.flat
    agrees = states_describe code formed bound judges input n on

    -- the instruction there, carried out
    goes : (i : Instr) → slice_get code.instructions here.place ≡ Some i →
        step code bound judges here ≡ carried_out code bound judges (Some i) here.place here.flat
    goes i is = ap (step_by code bound judges here) on ∙ ap (λ (o : Option Instr). carried_out code bound judges o here.place here.flat) is

    fits : (i : Instr) → slice_get code.instructions here.place ≡ Some i → Fits code here.place here.flat agrees i
    fits i is =
        let x = found code formed here.place here.flat agrees in
        subst (λ (j : Instr). Fits code here.place here.flat agrees j) (unsome x.instr i (sym x.is ∙ is)) x.fits

    -- a close tells it
    closes : (ended : Bool) → here.flat.uniform.asks ≡ [] → step code bound judges here ≡ closed code ended here.place here.flat →
        IsOutcomeBy judges code input bound verdict
    closes ended none e =
        let s = one_more (closed code ended here.place here.flat) e in record {
          instructions = n + 1;
          ends = ap (λ (x : State). outcome_of code x) s ∙ closed_told code ended here.place here.flat key none t;
        }

    at_mark : (line : ℕ) → slice_get code.instructions here.place ≡ Some (Mark line) → (b : Bool) → eqb here.flat.uniform.count bound ≡ b →
        IsOutcomeBy judges code input bound verdict
    at_mark line is true e =
        closes false (mark_asks_none code here.place here.flat agrees line (fits (Mark line) is))
        (goes (Mark line) is ∙ ap (λ c. if c then closed code false here.place here.flat else
        going (here.place + 1) (after_instr code (Mark line) here.flat)) e)
    at_mark line is false e =
        let g = after_instr code (Mark line) here.flat in
        let s = one_more (going (here.place + 1) g)
        (goes (Mark line) is ∙ ap (λ c. if c then closed code false here.place here.flat else going (here.place + 1) g) e) in
        let late = subst (λ (x : State). IsLate code key x.flat) (sym s) (late_behind code here.place line here.flat agrees key t) in
        let told_late = late_verdict code formed bound judges input (n + 1) key (ap (λ (x : State). x.way) s) late in record {
          instructions = (bound + 1) * length code.instructions;
          ends = told_late ∙ ap (λ (x : State). faulted key (items_below key.count x.flat.uniform.output)) s;
        }

    by_end : (o : Option Instr) → slice_get code.instructions here.place ≡ o → ends_statement o ≡ true →
        IsOutcomeBy judges code input bound verdict
    by_end (Some (Mark line)) is h = at_mark line is (eqb here.flat.uniform.count bound) refl
    by_end (Some Halt) is h = closes true (halt_asks_none code here.place here.flat agrees (fits Halt is)) (goes Halt is)
    by_end None is h = cc
    by_end (Some i) is h = cc

pub a_key_is_for_good : AKeyIsForGood
a_key_is_for_good code formed judges input bound n key on h t =
    let s = steps code bound judges n (opening input) in
    other_outcome code formed bound judges everywhere input (Faulted (fault_of key) (items_below key.count s.flat.uniform.output))
    (by_end code formed bound judges input n key on t (slice_get code.instructions s.place) refl h)

pub a_verdict_may_be_late : AVerdictMayBeLate
a_verdict_may_be_late code formed judges others input bound n key on l =
    sym (same_outcome code formed bound judges others input) ∙ late_verdict code formed bound judges input n key on l
