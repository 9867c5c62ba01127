-- What a worker awaits at a reply.
use Rattle.std.proofs.Common.{◌≡◌, ℕ, zero, suc, ◌+◌, ◌<◌, ◌≤◌, List, [], ◌∷◌, map, length, Bool, true, false, Some, refl, sym}
use Rattle.std.proofs.Common.{ap, subst, ◌∙◌, arith, ⊎_elim}
use Rattle.std.specs.Prelude.{slice_get}
use Rattle.std.specs.List.{AllByRecursion, range_with_len, zip}
use Rattle.std.proofs.lemmas.Bool.{cases_eq, ltb-true}
use Rattle.std.proofs.lemmas.List.{length-map}
use Rattle.std.proofs.lemmas.List.FromFn.{length-map-range_with_len}
use Rattle.std.proofs.lemmas.Option.{slice_get_within}
use Rattle.pram_model.proofs.Truths.{both, unsome}
use Rattle.superstep_instructions.specs.declared.instr.Side.TheVariants.{Uniform, Private}
use Rattle.superstep_instructions.specs.declared.instr.Instr.{Instr}
use Rattle.superstep_instructions.specs.declared.instr.Instr.TheVariants as instrs
use Rattle.superstep_instructions.specs.Limits.{IsCode}
use Rattle.superstep_instructions.specs.Code.{SuperstepCode}
use Rattle.superstep_machine.specs.declared.mark.HeaderMark.{HeaderMark}
use Rattle.superstep_machine.specs.declared.mark.HeaderMark.TheVariants.{Clear, OutOfMemory, OutOfReserve}
use Rattle.superstep_machine.specs.Setting.{Setting, processors}
use Rattle.superstep_machine.specs.Parts.{Read, UniformPart, PrivatePart, fresh}
use Rattle.superstep_machine.specs.Words.{Message}
use Rattle.superstep_machine.specs.Worker.{Worker, after_instr}
use Rattle.superstep_machine.specs.Steps.{on_uniform, is_active, on_active, on_own}
use Rattle.superstep_machine.specs.Sending.{own_sent, after_send}
use Rattle.superstep_machine.specs.Answering.{own_answered, value_came}
use Rattle.superstep_machine.specs.Fitting.{IsCellBelow}
use Rattle.superstep_machine.specs.Run as machine
use Rattle.superstep_machine.proofs.MachineWords.{all_map}
use Rattle.instruction_steps.specs.declared.read.Read.{Read as HeldRead}
use Rattle.instruction_steps.specs.Views.{read_is}
use Rattle.bsp_verify.specs.Judging.{is_register, has_registers}
use Rattle.bsp_verify.specs.WellFormed.{IsWellFormed}
use Rattle.bsp_verify.specs.Moments.{side_of}
use Rattle.bsp_verify.proofs.WorkerLemmas.{all_add, all_made, all_numbered, either_way}
use Rattle.flat_machine.specs.Flatness.{IsMapFor}
use Rattle.machine_limits.proofs.Keeping.{IsReadBelow, IsOwnKept}
use Rattle.machine_limits.proofs.Runs.{ready_keeps}
use Rattle.worker_steps.specs.Shown.{part_in}
use Rattle.superstep_machine.specs.declared.purpose.Purpose.TheVariants as purposes
use Rattle.worker_exchange.specs.declared.local.Local.{Local}
use Rattle.worker_exchange.specs.Reached.{IsReached}
use Rattle.superstep_machine.specs.Purposes.{purpose_is}
use Rattle.worker_exchange.specs.Shown.{IsAtExchange}
use Rattle.worker_exchange.specs.Equipped.{HasPlace, AwaitsAnswers}
use Rattle.worker_exchange.proofs.ReachedLemmas.{IsPathed, ready_pathed}

-- the register of a private read is there, and the one that gets the value of a cell has its place among the uniform ones
abbrev IsReadThere : SuperstepCode → Read → Type 0
IsReadThere code r =
    (r.side ≡ Private → r.destination < code.private_registers) × ((cell : ℕ) → r.cell ≡ Some cell → r.destination < code.uniform_registers)

-- ---- what every instruction of the code keeps

record AreSent (t : Setting) (x : Worker) : Type 0 where
  pub held : AllByRecursion (IsReadThere t.code) x.uniform.asks
  pub few : length x.uniform.awaited ≤ 8
  pub below : AllByRecursion (IsReadBelow t.map.count) x.uniform.awaited
  pub there : AllByRecursion (IsReadThere t.code) x.uniform.awaited
  pub own : AllByRecursion (λ (y : PrivatePart). AllByRecursion (IsCellBelow t.map.count) y.awaited) x.own

abbrev Named : SuperstepCode → Instr → Type 0
Named code i = has_registers code i ≡ true

module _ (t : Setting) (formed : IsWellFormed t.code) (w : ℕ) where
  named : (place : ℕ) (i : Instr) → slice_get t.code.instructions place ≡ Some i → Named t.code i
  named place i e =
      let met = formed.1.1.each place (slice_get_within t.code.instructions place i e) in
      subst (Named t.code) (unsome met.instr i (sym met.is ∙ e)) met.allowed.registers

  still_awaited : (i : Instr) (u : UniformPart) → (on_uniform t.code i u).awaited ≡ u.awaited
  still_awaited (instrs.Mark line) u = refl
  still_awaited (instrs.Enter a b q) u = refl
  still_awaited instrs.Leave u = refl
  still_awaited (instrs.Ask Uniform d e s q) u = refl
  still_awaited (instrs.Ask Private d e s q) u = refl
  still_awaited (instrs.Put side e s v q) u = refl
  still_awaited (instrs.Print s) u = refl
  still_awaited i u = refl

  held_there : (i : Instr) → Named t.code i → (u : UniformPart) → AllByRecursion (IsReadThere t.code) u.asks →
      AllByRecursion (IsReadThere t.code) (on_uniform t.code i u).asks
  held_there (instrs.Mark line) a u h = h
  held_there (instrs.Enter r s q) a u h = h
  held_there instrs.Leave a u h = h
  held_there (instrs.Ask Uniform d e s q) a u h = all_add (IsReadThere t.code) u.asks _ h
      ((λ k. cc), (λ cell e. ltb-true d t.code.uniform_registers (both (is_register t.code Uniform d) (is_register t.code Uniform s) a).0))
  held_there (instrs.Ask Private d e s q) a u h =
      all_add (IsReadThere t.code) u.asks _ h
      ((λ k. ltb-true d t.code.private_registers (both (is_register t.code Private d) (is_register t.code Private s) a).0), (λ cell e. cc))
  held_there (instrs.Put side e s v q) a u h = h
  held_there (instrs.Print s) a u h = h
  held_there i a u h = h

  abbrev OwnBelow : PrivatePart → Type 0
  OwnBelow y = AllByRecursion (IsCellBelow t.map.count) y.awaited

  active_awaits : (i : Instr) (u : UniformPart) (v : ℕ) (y : PrivatePart) → OwnBelow y → OwnBelow (on_active t.code i u v y)
  active_awaits (instrs.CopyUniform d s) u v y h = h
  active_awaits (instrs.Index d) u v y h = h
  active_awaits (instrs.Ask Private d e s q) u v y h = h
  active_awaits i u v y h = h

  own_awaits : (i : Instr) (u : UniformPart) (v : ℕ) (y : PrivatePart) → OwnBelow y → OwnBelow (on_own t.code i u v y)
  own_awaits (instrs.Mask s) u v y h = h
  own_awaits instrs.Flip u v y h = h
  own_awaits instrs.Unmask u v y h = h
  own_awaits (instrs.Ask Uniform d e s q) u v y h = h
  own_awaits (instrs.Ask Private d e s q) u v y h =
      either_way OwnBelow (is_active y) (on_active t.code (instrs.Ask Private d e s q) u v y) _
      (active_awaits (instrs.Ask Private d e s q) u v y h) h
  own_awaits i u v y h = either_way OwnBelow (is_active y) (on_active t.code i u v y) y (active_awaits i u v y h) h

  parts_await : (i : Instr) (x : Worker) → AllByRecursion OwnBelow x.own →
      AllByRecursion OwnBelow
      (map (λ (y : ℕ × PrivatePart). on_own t.code i x.uniform y.0 y.1) (zip (processors t w x.uniform.width) x.own))
  parts_await i x h =
      all_numbered OwnBelow OwnBelow (λ (y : ℕ × PrivatePart). on_own t.code i x.uniform y.0 y.1)
      (λ v y k. own_awaits i x.uniform v y k) (processors t w x.uniform.width) x.own h

  sent_with : (i : Instr) → Named t.code i → (x : Worker) → AreSent t x → AllByRecursion OwnBelow (after_instr t w i x).own →
      AreSent t (after_instr t w i x)
  sent_with i a x h own = record {
    held = held_there i a x.uniform h.held;
    few = subst (λ (rs : List Read). length rs ≤ 8) (sym (still_awaited i x.uniform)) h.few;
    below = subst (AllByRecursion (IsReadBelow t.map.count)) (sym (still_awaited i x.uniform)) h.below;
    there = subst (AllByRecursion (IsReadThere t.code)) (sym (still_awaited i x.uniform)) h.there;
    own = own;
  }

  instr_sent : (i : Instr) → Named t.code i → (x : Worker) → AreSent t x → AreSent t (after_instr t w i x)
  instr_sent (instrs.Enter r s q) a x h =
      sent_with (instrs.Enter r s q) a x h
      (all_made OwnBelow (λ (v : ℕ). fresh) (λ v. tt) (processors t w (on_uniform t.code (instrs.Enter r s q) x.uniform).width))
  instr_sent instrs.Leave a x h =
      sent_with instrs.Leave a x h
      (all_made OwnBelow (λ (v : ℕ). fresh) (λ v. tt) (processors t w (on_uniform t.code instrs.Leave x.uniform).width))
  instr_sent i a x h = sent_with i a x h (parts_await i x h.own)

  none_sent : AreSent t machine.no_worker
  none_sent = record { held = tt; few = omega arith; below = tt; there = tt; own = tt }

  -- ---- exchanges

  module _ (code : IsCode t.code) (room : IsMapFor t.code t.map) where
    readies_sent : (s : machine.State) → AreSent t s.worker → AreSent t (machine.ready t w s).state.worker
    readies_sent s h = ready_keeps t w (Named t.code) named (AreSent t) instr_sent none_sent s h

    send_sent : (x : Worker) (messages : List Message) → IsPathed t w x → AreSent t x → AreSent t (after_send t w x messages)
    send_sent x messages p h = record {
      held = tt;
      few = (let a = p.describes.asks in let b = p.within.asks in omega (arith, a, b));
      below = p.kept.uniform.asks;
      there = h.held;
      own = all_map (IsOwnKept t.map.count) OwnBelow own_sent (λ y k. k.asks) x.own p.kept.own;
    }

    exchange_sent : (p : machine.Purpose) (x : Worker) (messages : List Message) → ((p ≡ machine.Closes → ⊥) → IsPathed t w x) →
        AreSent t x → AreSent t (machine.after_exchange t w p x messages)
    exchange_sent machine.Sends x messages pathed h = send_sent x messages (pathed (λ e. cc)) h
    exchange_sent machine.Replies x messages pathed h = record {
      held = h.held;
      few = omega arith;
      below = tt;
      there = tt;
      own = all_map OwnBelow OwnBelow (own_answered (value_came t x messages) x.uniform.awaited) (λ y k. tt) x.own h.own;
    }
    exchange_sent (machine.Votes d) x messages pathed h =
        record { held = h.held; few = h.few; below = h.below; there = h.there; own = h.own }
    exchange_sent machine.Closes x messages pathed h = h

    after_sent : (r : machine.Ready) (messages : List Message) → ((r.purpose ≡ machine.Closes → ⊥) → IsPathed t w r.state.worker) →
        AreSent t r.state.worker → AreSent t (machine.after t w r messages).worker
    after_sent r messages pathed h = marks (machine.mark_of messages)
      where
        marks : (mark : HeaderMark) → AreSent t (machine.after_with t w r messages mark).worker
        marks Clear = exchange_sent r.purpose r.state.worker messages pathed h
        marks OutOfMemory = none_sent
        marks OutOfReserve = none_sent

    reached_sent : (n : ℕ) (s : machine.State) → IsReached t w n s → AreSent t s.worker
    reached_sent zero s (input, values, e) =
        subst (λ (q : machine.State). AreSent t q.worker) (sym e)
        (record { held = tt; few = omega arith; below = tt; there = tt; own = tt })
    reached_sent (suc n) s (before, column, r, values, e) =
        subst (λ (q : machine.State). AreSent t q.worker) (sym e)
        (after_sent (machine.ready t w before) column (ready_pathed t code room formed w n before r)
        (readies_sent before (reached_sent n before r)))

-- ---- the worker that shows it

-- what is so of what is shown is so of what shows it
all_shown : {A B : Type 0} (P : B → Type 0) (f : A → B) (xs : List A) → AllByRecursion P (map f xs) → AllByRecursion (λ x. P (f x)) xs
all_shown P f [] h = tt
all_shown P f (x ∷ xs) h = (h.0, all_shown P f xs h.1)

all_numbers : {B : Type 0} (P : B → Type 0) (f : ℕ → B) (n low : ℕ) → AllByRecursion P (map f (range_with_len low n)) → (j : ℕ) → low ≤ j →
    j < low + n → P (f j)
all_numbers P f zero low h j a b = absurd (omega (arith, a, b))
all_numbers P f (suc n) low h j a b =
    ⊎_elim (λ (e : low ≡ j). subst (λ k. P (f k)) e h.0)
    (λ (d : low ≡ j → ⊥). all_numbers P f n (low + 1) h.1 j (omega (arith, a, d)) (omega (arith, b))) (cases_eq low j)

three : {A : Type 0} (P Q R S : A → Type 0) → ((x : A) → P x → Q x → R x → S x) → (xs : List A) → AllByRecursion P xs →
    AllByRecursion Q xs → AllByRecursion R xs → AllByRecursion S xs
three P Q R S f [] p q r = tt
three P Q R S f (x ∷ xs) p q r = (f x p.0 q.0 r.0, three P Q R S f xs p.1 q.1 r.1)

module _ (t : Setting) (code : IsCode t.code) (room : IsMapFor t.code t.map) (formed : IsWellFormed t.code) (w : ℕ) (x : Local)
    (s : machine.State) (at : IsAtExchange t w x s) (registers : length x.steps.bank.columns.items ≡ t.code.private_registers)
    (places : t.code.uniform_registers ≤ length x.steps.uniform.registers.items) (reply : x.purpose ≡ purposes.Reply) where
  abbrev y : Worker
  y = (machine.ready t w s).state.worker

  sent : AreSent t y
  sent = readies_sent t formed w code room s (reached_sent t formed w code room at.exchanges s at.reached)

  pathed : IsPathed t w y
  pathed = ready_pathed t code room formed w at.exchanges s at.reached (λ e. replies (sym (at.purpose ∙ ap purpose_is reply) ∙ e))
    where
      replies : machine.Replies ≡ machine.Closes → ⊥
      replies e = cc

  awaited_is : y.uniform.awaited ≡ map read_is x.steps.uniform.awaited.items
  awaited_is = ap (λ (u : UniformPart). u.awaited) at.worker.shows.uniform

  many_is : length y.own ≡ x.steps.bank.masks.many
  many_is = ap length at.worker.shows.own ∙ length-map-range_with_len (part_in x.steps) 0 x.steps.bank.masks.many

  alone : (entered : Bool) → pathed.state.entered ≡ entered → side_of entered ≡ Uniform → x.steps.bank.masks.many ≡ 0
  alone true e h = cc
  alone false e h =
      let none = pathed.describes.outside e in
      let own = pathed.describes.processors ∙ ap (λ n. length (processors t w n)) none in
      let many = many_is in omega (arith, own, many)

  places_there : (reads : List HeldRead) → AllByRecursion (λ (r : HeldRead). IsReadThere t.code (read_is r)) reads →
      AllByRecursion (HasPlace (length x.steps.uniform.registers.items)) reads
  places_there [] h = tt
  places_there (r ∷ reads) h = ((λ cell e. (let l = h.0.1 cell e in omega (arith, l, places))), places_there reads h.1)

  there_all : AllByRecursion (λ (r : HeldRead). IsReadThere t.code (read_is r)) x.steps.uniform.awaited.items
  there_all = all_shown (IsReadThere t.code) read_is _ (subst (AllByRecursion (IsReadThere t.code)) awaited_is sent.there)

  pub awaits : AwaitsAnswers t.map x
  awaits = record {
    few = (let h = sent.few in let e = ap length awaited_is in let n = length-map x.steps.uniform.awaited.items read_is in
        omega (arith, h, e, n));
    places = places_there x.steps.uniform.awaited.items there_all;
    reads = three _ _ _ _
        (λ r below there side. record {
          cell = below.cell;
          register = λ e. subst (λ n. r.destination < n) (sym registers) (there.0 e);
          alone = λ e. alone pathed.state.entered refl (sym side ∙ e);
        }) x.steps.uniform.awaited.items
        (all_shown (IsReadBelow t.map.count) read_is _ (subst (AllByRecursion (IsReadBelow t.map.count)) awaited_is sent.below))
        there_all
        (all_shown (λ (r : Read). r.side ≡ side_of pathed.state.entered) read_is _
        (subst (AllByRecursion (λ (r : Read). r.side ≡ side_of pathed.state.entered)) awaited_is pathed.describes.awaited_side));
    own = λ j l. all_numbers (λ (p : PrivatePart). AllByRecursion (IsCellBelow t.map.count) p.awaited) (part_in x.steps)
        x.steps.bank.masks.many 0
        (subst (AllByRecursion (λ (p : PrivatePart). AllByRecursion (IsCellBelow t.map.count) p.awaited)) at.worker.shows.own sent.own)
        j (omega arith) (omega (arith, l));
  }
