-- States that are alike stay alike, instruction by instruction.
use Rattle.std.proofs.Common.{◌≡◌, ℕ, zero, suc, ◌+◌, Bool, true, false, cond, eqb, Option, Some, None, List, [], map, ℤ, refl, sym, ap, subst}
use Rattle.std.proofs.Common.{◌∙◌, arith}
use Rattle.std.specs.Prelude.{slice_get}
use Rattle.pram_values.specs.Truth.{is_nonzero}
use Rattle.superstep_instructions.specs.declared.instr.Instr.{Instr}
use Rattle.superstep_instructions.specs.declared.instr.Instr.TheVariants.{Mark, Send, Reply, Vote, Jump, JumpIfZero, Halt}
use Rattle.superstep_instructions.specs.Code.{SuperstepCode}
use Rattle.superstep_machine.specs.Parts.{UniformPart}
use Rattle.superstep_machine.specs.Run.{Way, On, Ending, Past, Refused, Lost, Purpose, Sends, Replies, Votes, Closes, is_held, decided}
use Rattle.superstep_machine.specs.Run.{verdict_by}
use Rattle.flat_machine.specs.Flat.{Flat, cells, after_send}
use Rattle.flat_machine.specs.ByExchanges.{State, after_exchange, opening, outcome_of}
use Rattle.flat_machine.specs.ByInstructions.{exchanged, closed, instructed, step_by, step, steps, everywhere, outcome_within}
use Rattle.flat_run.specs.Views.{AreSame}
use Rattle.flat_run.specs.RunViews.{AreSameStates, led, is_going}
use Rattle.flat_run.proofs.SameLemmas.{same_itself, same_on, same_after_instr, same_after_send, same_after_reply, same_after_vote}

-- a branch with nothing on either side
pub nothing_either_way : {X : Type 0} (b : Bool) → ◌≡◌ {A = List X} (cond b [] []) []
nothing_either_way true = refl
nothing_either_way false = refl

pub alike_itself : (s : State) → AreSameStates s s
alike_itself s = record { flat = same_itself s.flat; place = refl; way = refl }

pub alike_on : (s t r : State) → AreSameStates s t → AreSameStates t r → AreSameStates s r
alike_on s t r a b = record { flat = same_on s.flat t.flat r.flat a.flat b.flat; place = a.place ∙ b.place; way = a.way ∙ b.way }

same_choice : (b c : Bool) (f g h k : Flat) → b ≡ c → AreSame f g → AreSame h k → AreSame (cond b f h) (cond c g k)
same_choice true true f g h k e x y = x
same_choice false false f g h k e x y = y
same_choice true false f g h k e x y = absurd (cc e)
same_choice false true f g h k e x y = absurd (cc e)

alike_choice : (b c : Bool) (s t r q : State) → b ≡ c → AreSameStates s t → AreSameStates r q → AreSameStates (cond b s r) (cond c t q)
alike_choice true true s t r q e x y = x
alike_choice false false s t r q e x y = y
alike_choice true false s t r q e x y = absurd (cc e)
alike_choice false true s t r q e x y = absurd (cc e)

module _ (code : SuperstepCode) (bound : ℕ) where
  module _ (f g : Flat) (s : AreSame f g) where
    same_after_exchange : (purpose : Purpose) → AreSame (after_exchange code purpose f) (after_exchange code purpose g)
    same_after_exchange Sends = same_after_send f g s code
    same_after_exchange Replies = same_after_reply f g s
    same_after_exchange (Votes d) = same_after_vote f g s d
    same_after_exchange Closes = s

    alike_exchanged : (purpose : Purpose) (place : ℕ) → AreSameStates (exchanged code everywhere purpose place f)
        (exchanged code everywhere purpose place g)
    alike_exchanged purpose place = record {
      flat = same_after_exchange purpose;
      place = refl;
      way = ap (λ (u : UniformPart). decided purpose u f.key On) s.uniform ∙ ap (λ k. decided purpose g.uniform k On) s.key;
    }

    alike_closed : (ended : Bool) (place : ℕ) → AreSameStates (closed code ended place f) (closed code ended place g)
    alike_closed ended place =
        let last = same_choice (is_held f.uniform.put) (is_held g.uniform.put) (after_send code f) (after_send code g) f g
        (ap (λ (u : UniformPart). is_held u.put) s.uniform) (same_after_send f g s code) s in
        record { flat = last; place = refl; way = ap (λ k. Past k ended) last.key }

    alike_going : (i : Instr) (place : ℕ) → AreSameStates (led code bound (Some i) place f) (led code bound (Some i) place g)
    alike_going (Mark line) place =
        alike_choice (eqb f.uniform.count bound) (eqb g.uniform.count bound) _ _ _ _ (ap (λ (u : UniformPart). eqb u.count bound) s.uniform)
        (alike_closed false place)
        (record { flat = same_after_instr f g s code (Mark line); place = refl; way = refl })
    alike_going Send place = alike_exchanged Sends place
    alike_going Reply place = alike_exchanged Replies place
    alike_going (Vote d) place = alike_exchanged (Votes d) place
    alike_going (Jump target) place = record { flat = s; place = refl; way = refl }
    alike_going (JumpIfZero r target) place =
        alike_choice (is_nonzero (f.uniform.registers r)) (is_nonzero (g.uniform.registers r)) _ _ _ _
        (ap (λ (u : UniformPart). is_nonzero (u.registers r)) s.uniform)
        (record { flat = s; place = refl; way = refl }) (record { flat = s; place = refl; way = refl })
    alike_going Halt place = alike_closed true place
    alike_going i place = record { flat = same_after_instr f g s code i; place = refl; way = refl }

    alike_led : (found : Option Instr) (place : ℕ) → AreSameStates (led code bound found place f) (led code bound found place g)
    alike_led None place = record { flat = s; place = refl; way = refl }
    alike_led (Some i) place = alike_going i place

  by_way : (s t : State) → AreSameStates s t → (way : Way) → AreSameStates (step_by code bound everywhere s way)
      (step_by code bound everywhere t way)
  by_way s t h On =
      subst (λ p. AreSameStates (instructed code bound everywhere s.place s.flat) (instructed code bound everywhere p t.flat)) h.place
      (alike_led s.flat t.flat h.flat (slice_get code.instructions s.place) s.place)
  by_way s t h (Ending ended) = h
  by_way s t h (Past key ended) = h
  by_way s t h (Refused mark) = h
  by_way s t h Lost = h

  pub alike_step : (s t : State) → AreSameStates s t → AreSameStates (step code bound everywhere s) (step code bound everywhere t)
  alike_step s t h = subst (λ way. AreSameStates (step_by code bound everywhere s way) (step code bound everywhere t)) (sym h.way)
      (by_way s t h t.way)

  pub alike_steps : (n : ℕ) (s t : State) → AreSameStates s t → AreSameStates (steps code bound everywhere n s)
      (steps code bound everywhere n t)
  alike_steps zero s t h = h
  alike_steps (suc n) s t h = alike_steps n (step code bound everywhere s) (step code bound everywhere t) (alike_step s t h)

  still : (s : State) (way : Way) → is_going way ≡ false → step_by code bound everywhere s way ≡ s
  still s On h = absurd (cc h)
  still s (Ending ended) h = refl
  still s (Past key ended) h = refl
  still s (Refused mark) h = refl
  still s Lost h = refl

  -- a run that is over stays so
  pub steps_over : (n : ℕ) (s : State) → is_going s.way ≡ false → steps code bound everywhere n s ≡ s
  steps_over zero s h = refl
  steps_over (suc n) s h = ap (steps code bound everywhere n) (still s s.way h) ∙ steps_over n s h

  -- one instruction of those that are left
  pub one_step : (left rest : ℕ) (old new : State) → rest + 1 ≡ left → old.way ≡ On →
      AreSameStates new (instructed code bound everywhere old.place old.flat) →
      AreSameStates (steps code bound everywhere rest new) (steps code bound everywhere left old)
  one_step left rest old new e on h =
      let stepped : step code bound everywhere old ≡ instructed code bound everywhere old.place old.flat =
      ap (step_by code bound everywhere old) on in
      let next : suc rest ≡ left = omega (arith, e) in
      subst (λ n. AreSameStates (steps code bound everywhere rest new) (steps code bound everywhere n old)) next
      (alike_steps rest new (step code bound everywhere old) (subst (AreSameStates new) (sym stepped) h))

-- what goes on is on
pub going_is_on : (way : Way) → is_going way ≡ true → way ≡ On
going_is_on On h = refl
going_is_on (Ending ended) h = absurd (cc h)
going_is_on (Past key ended) h = absurd (cc h)
going_is_on (Refused mark) h = absurd (cc h)
going_is_on Lost h = absurd (cc h)

-- what they come to is the same
pub same_outcome : (code : SuperstepCode) (s t : State) → AreSameStates s t → outcome_of code s ≡ outcome_of code t
same_outcome code s t h =
    ap (λ way. verdict_by way s.flat.uniform.output (map s.flat.memory (cells code))) h.way
    ∙ ap (λ (u : UniformPart). verdict_by t.way u.output (map s.flat.memory (cells code))) h.flat.uniform
    ∙ ap (λ (m : ℕ → ℤ). verdict_by t.way t.flat.uniform.output (map m (cells code))) h.flat.memory

-- where one run is alike to another's beginning, and was carried on for n instructions
pub outcome_comes : (code : SuperstepCode) (bound n m : ℕ) (input : List ℤ) (first last : State) → n ≡ m →
    AreSameStates first (opening input) →
    AreSameStates last (steps code bound everywhere n first) →
    outcome_of code last ≡ outcome_within code bound everywhere m input
outcome_comes code bound n m input first last e a b =
    same_outcome code last (steps code bound everywhere n (opening input))
    (alike_on last (steps code bound everywhere n first) (steps code bound everywhere n (opening input)) b
    (alike_steps code bound n first (opening input) a))
    ∙ ap (λ k. outcome_within code bound everywhere k input) e
