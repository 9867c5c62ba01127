-- A worker at an exchange, and behind it.
use Rattle.std.proofs.Common.{◌≡◌, ℕ, ◌+◌, ◌<◌, ◌≤◌, inl, inr, List, length, Bool, true, false, Option, Some, None, refl, sym, ap, subst}
use Rattle.std.proofs.Common.{◌∙◌, arith}
use Rattle.std.specs.Prelude.{◌||◌, nat_lt, nat_le, vec_capacity}
use Rattle.std.proofs.lemmas.Bool.Decides.{nat_tests}
use Rattle.std.proofs.lemmas.Bool.{lt-ltb}
use Rattle.address_map.specs.Lawful.{Shape}
use Rattle.superstep_instructions.specs.Code.{SuperstepCode}
use Rattle.superstep_machine.specs.declared.mark.HeaderMark.{HeaderMark}
use Rattle.superstep_machine.specs.Setting.{Setting}
use Rattle.superstep_machine.specs.Parts.{UniformPart}
use Rattle.superstep_machine.specs.Run.{State, setting, message_of, ready}
use Rattle.instruction_steps.specs.Views.{HasReserve}
use Rattle.worker_exchange.specs.Rows.{WrittenMessage, IsRow, written, message_at}
use Rattle.worker_exchange.specs.declared.way.Way.TheVariants.{Stopped}
use Rattle.worker_exchange.specs.declared.local.Local.{Local}
use Rattle.worker_exchange.specs.Reached.{most_instructions}
use Rattle.superstep_machine.specs.Purposes.{purpose_is}
use Rattle.worker_exchange.specs.Shown.{marked, is_stopped, IsShown, IsAtExchange}
use Rattle.worker_exchange.specs.Arrived.{ComesPast}
use Rattle.worker_exchange.specs.MessagesWritten.{IsWrittenFor}
use Rattle.exchange_counts.specs.Tallies.{made_of, room_of}
use Rattle.bsp_machine.specs.declared.counted.CountedWorker.{CountedWorker}
use Rattle.run_options.specs.declared.reserve.Reserve.{Reserve}
use Rattle.worker_histories.specs.Shares.{Share}
use Rattle.bsp_machine.specs.Reserves.{is_past, own_mark}
use Rattle.bsp_machine.specs.Workers.{IsBetween, IsStanding}
use Rattle.bsp_machine.specs.Growing.{IsShortOfItems}
use Rattle.bsp_machine.proofs.MarkLemmas.{never}

pub no_reserve : {A : Type 0} (o : Option Reserve) (r : Reserve) → o ≡ None → o ≡ Some r → A
no_reserve o r none some = absurd (clash (sym none ∙ some))
  where
    clash : None ≡ Some r → ⊥
    clash e = cc

pub one_reserve : (o : Option Reserve) (r q : Reserve) → o ≡ Some r → o ≡ Some q → r ≡ q
one_reserve o r q some other = unsome (sym some ∙ other)
  where
    unsome : Some r ≡ Some q → r ≡ q
    unsome e = cc

-- One that stops by itself stands at the exchange with its mark in each message.
pub standing_refused : (code : SuperstepCode) (m : Shape) (bound : ℕ) (states : ℕ → State) (told : ℕ → List Share) (w : ℕ)
    (x : CountedWorker) (row : List WrittenMessage) (mark : HeaderMark) → x.local.way ≡ Stopped mark → mark ≡ own_mark x.reserve →
    ((r : Reserve) (n : ℕ) → x.reserve ≡ Some r → most_instructions code bound < n →
    is_past r (length (ready (setting code m bound n) w (states n)).state.worker.uniform.output) (length (told n)) ≡ true) →
    ((t : Setting) (w : ℕ) (s : State) → IsRow m.parts (λ j. written t.code.rule (message_of t w (marked x.local.way s) j)) row) →
    ((t : Setting) (w : ℕ) (s : State) (j : ℕ) → j < m.parts →
    IsWrittenFor t.code.rule t.map j (purpose_is x.local.purpose) (message_of t w (marked x.local.way s) j) (message_at row j)) →
    IsStanding code m bound states told w x row
standing_refused code m bound states told w x row mark way own past filled read = record {
  worker = λ h. absurd (never x.local.way mark way h);
  shown = λ h n low. absurd (never x.local.way mark way h);
  filled = λ n low. filled (setting code m bound n) w (states n);
  read = λ n j low within. read (setting code m bound n) w (states n) j within;
  refused = λ other h. (let is = way in let by = own in cc);
  past = λ r n e low. ap is_stopped way ∙ sym (past r n e low);
  sent = λ h. absurd (never x.local.way mark way h);
  counted = λ h n low. absurd (never x.local.way mark way h);
  items = λ h. absurd (never x.local.way mark way h);
  reserved = λ h. absurd (never x.local.way mark way h);
}

-- Where a worker comes to its next exchange, with the memory of a reserve, the state there is past that exactly where the worker has
-- stopped or is past it.
module _ (code : SuperstepCode) (m : Shape) (bound : ℕ) (states : ℕ → State) (told : ℕ → List Share) (w : ℕ) (x : CountedWorker) (y : Local)
    (r : Reserve) (between : IsBetween code m bound states told w x) (alive : is_stopped x.local.way ≡ false)
    (has : HasReserve r.items x.local.steps.uniform) (room : r.exchanges ≤ room_of x.counts)
    (shown : is_stopped y.way ≡ false → (n : ℕ) (s : State) → most_instructions code bound < n →
    IsShown (setting code m bound n) x.local.steps.bank.worker x.local s →
    IsAtExchange (setting code m bound n) x.local.steps.bank.worker y s)
    (past : is_stopped y.way ≡ true → (items : ℕ) → HasReserve items x.local.steps.uniform → ComesPast code m bound x.local items)
    (n : ℕ) (low : most_instructions code bound < n) where
  abbrev printed : ℕ → ℕ
  printed v = length (ready (setting code m bound n) v (states n)).state.worker.uniform.output

  here : IsShown (setting code m bound n) x.local.steps.bank.worker x.local (states n)
  here = subst (λ v. IsShown (setting code m bound n) v x.local (states n)) (sym (between.worker alive)) (between.shown alive n low)

  -- where there is no room to count, no exchange is left
  no_room : (a b c : ℕ) (d : Bool) → a ≤ b → (d || nat_le a c) ≡ ((d || nat_le a c) || nat_le b c)
  no_room a b c true l = refl
  no_room a b c false l = go (nat_le a c) refl
    where
      go : (e : Bool) → nat_le a c ≡ e → e ≡ (e || nat_le b c)
      go true h = refl
      go false h = grind (arith, nat_tests)

  pub past_is : is_past r (printed w) (length (told n)) ≡ (is_stopped y.way || is_past r (length y.steps.uniform.output.items)
      (made_of x.counts) || nat_le (room_of x.counts) (made_of x.counts))
  past_is = go (is_stopped y.way) refl
    where
      go : (b : Bool) → is_stopped y.way ≡ b → is_past r (printed w) (length (told n))
          ≡ (b || is_past r (length y.steps.uniform.output.items) (made_of x.counts) || nat_le (room_of x.counts) (made_of x.counts))
      go true e =
          let l : r.items < printed w = subst (λ v. r.items < printed v) (between.worker alive)
          (past e r.items has n (states n) low here) in
          ap (λ d. d || nat_le r.exchanges (length (told n))) (lt-ltb r.items (printed w) l)
      go false e =
          let output : printed w ≡ length y.steps.uniform.output.items = ap printed (sym (between.worker alive))
          ∙ ap (λ (u : UniformPart). length u.output) (shown e n (states n) low here).worker.shows.uniform in
          let many : length (told n) ≡ made_of x.counts = sym (between.counted alive n low).made in
          (λ i. is_past r (output i) (many i))
          ∙ no_room r.exchanges (room_of x.counts) (made_of x.counts) (nat_lt r.items (length y.steps.uniform.output.items)) room

-- Where a worker comes to its next exchange, and stops there or has no room for its items, it has none for those of the state there.
module _ (code : SuperstepCode) (m : Shape) (bound : ℕ) (states : ℕ → State) (told : ℕ → List Share) (w : ℕ) (x : CountedWorker) (y : Local)
    (between : IsBetween code m bound states told w x) (alive : is_stopped x.local.way ≡ false)
    (shown : is_stopped y.way ≡ false → (n : ℕ) (s : State) → most_instructions code bound < n →
    IsShown (setting code m bound n) x.local.steps.bank.worker x.local s →
    IsAtExchange (setting code m bound n) x.local.steps.bank.worker y s)
    (past : is_stopped y.way ≡ true → (items : ℕ) → HasReserve items x.local.steps.uniform → ComesPast code m bound x.local items)
    (n : ℕ) (low : most_instructions code bound < n) where
  abbrev printed_there : ℕ → ℕ
  printed_there v = length (ready (setting code m bound n) v (states n)).state.worker.uniform.output

  here_it_is : IsShown (setting code m bound n) x.local.steps.bank.worker x.local (states n)
  here_it_is = subst (λ v. IsShown (setting code m bound n) v x.local (states n)) (sym (between.worker alive)) (between.shown alive n low)

  pub stopped_short : is_stopped y.way ≡ true → IsShortOfItems code m bound (states n) w n x
  stopped_short e =
      inl (subst (λ v. vec_capacity x.local.steps.uniform.output < printed_there v) (between.worker alive)
      (past e (vec_capacity x.local.steps.uniform.output) (omega arith) n (states n) low here_it_is))

  pub short_of_room : vec_capacity x.items < length x.items.items + length y.steps.uniform.output.items →
      IsShortOfItems code m bound (states n) w n x
  short_of_room l = go (is_stopped y.way) refl
    where
      go : (b : Bool) → is_stopped y.way ≡ b → IsShortOfItems code m bound (states n) w n x
      go true e = stopped_short e
      go false e =
          let output : printed_there w ≡ length y.steps.uniform.output.items = ap printed_there (sym (between.worker alive))
          ∙ ap (λ (u : UniformPart). length u.output) (shown e n (states n) low here_it_is).worker.shows.uniform in
          let none : length x.items.items ≡ 0 = ap length (between.items alive).none in
          inr (omega (arith, l, output, none))
