-- A `for` on its way.
use Rattle.std.proofs.Common.{◌≡◌, ◌⊎◌, inl, inr, ℕ, ℤ, pos, ◌+ℤ◌, ◌≤ℤ◌, ◌<ℤ◌, suc, ◌≤◌, List, true, false, int_le, refl, ap, sym, ◌∙◌}
use Rattle.std.proofs.Common.{arith, Err}
use Rattle.std.proofs.lemmas.Int.{ints, by_lt_z}
use Rattle.pram_check.specs.Checked.{Checked}
use Rattle.pram_names.specs.declared.body.Statement.{Statement}
use Rattle.pram_meaning.specs.Attempt.{next}
use Rattle.pram_meaning.specs.Bounded.{Goes, counted, for_turns, perform_list, then_do}
use Rattle.pram_meaning.specs.Runs.{IsBehaviour}
use Rattle.pram_meaning.specs.Store.{State, with_uniform}
use Rattle.pram_meaning.specs.declared.run.Halt.{Halt}
use Rattle.pram_model.specs.Layout.{width}
use Rattle.pram_meaning.proofs.Halts.{halts}

cases_lt_z : (a z : ℤ) → (a <ℤ z) ⊎ (z ≤ℤ a)
cases_lt_z a z = by_lt_z a z inl inr

-- from a number that isn't above the last one
pub width_more : (a z : ℤ) → a ≤ℤ z → width a z ≡ suc (width (a +ℤ pos 1) z)
width_more a z h =
    let e : int_le a z ≡ true = grind (arith, ints) in
    elim (cases_lt_z a z) [
      | inl l ↦ let f : int_le (a +ℤ pos 1) z ≡ true = grind (arith, ints) in rw (e, f) (grind (arith, ints))
      | inr l ↦ let f : int_le (a +ℤ pos 1) z ≡ false = grind (arith, ints) in rw (e, f) (grind (arith, ints))
    ]

pub width_none : (a z : ℤ) → z <ℤ a → width a z ≡ 0
width_none a z h = let e : int_le a z ≡ false = grind (arith, ints) in rw e

-- what is left gives what the whole gives
pub record InFor (w : Checked) (n x : ℕ) (body : List Statement) (first last : ℤ) (start : State) (value end : ℤ)
    (now : State) : Type 0 where
  pub same : for_turns n (width first last) x first (perform_list w n body) start ≡ for_turns n (width value last) x value
      (perform_list w n body) now
  pub within : value ≤ℤ last
  pub to : end ≡ last
  pub grows : start.count ≤ now.count

pub turns_start : (w : Checked) (n x : ℕ) (body : List Statement) (first last : ℤ) (m : State) → first ≤ℤ last →
    InFor w n x body first last m first last m
turns_start w n x body first last m h = record { same = refl; within = h; to = refl; grows = omega arith }

pub no_turns : (w : Checked) (n x : ℕ) (body : List Statement) (first last : ℤ) (m : State) → last <ℤ first →
    for_turns n (width first last) x first (perform_list w n body) m ≡ Goes tt m
no_turns w n x body first last m h = ap (λ k. for_turns n k x first (perform_list w n body) m) (width_none first last h)

-- the next turn
turn_of : (w : Checked) (n x : ℕ) (body : List Statement) (first last value end : ℤ) (start now : State) →
    InFor w n x body first last start value end now →
    for_turns n (width first last) x first (perform_list w n body) start ≡ then_do (counted n now)
    (λ u m. then_do (perform_list w n body (with_uniform x value m)) (λ u. for_turns n (width (value +ℤ pos 1) last) x (value +ℤ pos 1)
    (perform_list w n body)))
turn_of w n x body first last value end start now i =
    i.same ∙ ap (λ k. for_turns n k x value (perform_list w n body) now) (width_more value last i.within)

pub setting_halts : (w : Checked) (n x : ℕ) (body : List Statement) (first last value end : ℤ) (start now new : State) (h : Halt) →
    InFor w n x body first last start value end now → IsBehaviour {A = Unit {0}} (Err h) new (counted n now) → IsBehaviour {A = Unit {0}}
    (Err h) new (for_turns n (width first last) x first (perform_list w n body) start)
setting_halts w n x body first last value end start now new h i e =
    rw (turn_of w n x body first last value end start now i)
    (halts h new (counted n now) (λ u m. then_do (perform_list w n body (with_uniform x value m))
    (λ u. for_turns n (width (value +ℤ pos 1) last) x (value +ℤ pos 1) (perform_list w n body))) e)

begun : (w : Checked) (n x : ℕ) (body : List Statement) (first last value end : ℤ) (start now mid set : State) →
    InFor w n x body first last start value end now → counted n now ≡ Goes tt mid → set ≡ with_uniform x value mid →
    for_turns n (width first last) x first (perform_list w n body) start ≡ then_do (perform_list w n body set)
    (λ u. for_turns n (width (value +ℤ pos 1) last) x (value +ℤ pos 1) (perform_list w n body))
begun w n x body first last value end start now mid set i c s =
    turn_of w n x body first last value end start now i
    ∙ ap (λ b. then_do b (λ u m. then_do (perform_list w n body (with_uniform x value m))
    (λ u. for_turns n (width (value +ℤ pos 1) last) x (value +ℤ pos 1) (perform_list w n body)))) c
    ∙ ap (λ m. then_do (perform_list w n body m) (λ u. for_turns n (width (value +ℤ pos 1) last) x (value +ℤ pos 1)
    (perform_list w n body))) (sym s)

pub turn_halts : (w : Checked) (n x : ℕ) (body : List Statement) (first last value end : ℤ) (start now mid set new : State) (h : Halt) →
    InFor w n x body first last start value end now → counted n now ≡ Goes tt mid → set ≡ with_uniform x value mid →
    IsBehaviour {A = Unit {0}} (Err h) new (perform_list w n body set) → IsBehaviour {A = Unit {0}}
    (Err h) new (for_turns n (width first last) x first (perform_list w n body) start)
turn_halts w n x body first last value end start now mid set new h i c s e =
    rw (begun w n x body first last value end start now mid set i c s)
    (halts h new (perform_list w n body set) (λ u. for_turns n (width (value +ℤ pos 1) last) x (value +ℤ pos 1) (perform_list w n body))
    e)

gone : (w : Checked) (n x : ℕ) (body : List Statement) (first last value end : ℤ) (start now mid set new : State) →
    InFor w n x body first last start value end now → counted n now ≡ Goes tt mid → set ≡ with_uniform x value mid →
    perform_list w n body set ≡ Goes tt new →
    for_turns n (width first last) x first (perform_list w n body) start ≡ for_turns n (width (value +ℤ pos 1) last) x (value +ℤ pos 1)
    (perform_list w n body) new
gone w n x body first last value end start now mid set new i c s e =
    begun w n x body first last value end start now mid set i c s
    ∙ ap (λ b. then_do b (λ u. for_turns n (width (value +ℤ pos 1) last) x (value +ℤ pos 1) (perform_list w n body))) e

pub turn_goes : (w : Checked) (n x : ℕ) (body : List Statement) (first last value end next till : ℤ) (start now mid set new : State) →
    InFor w n x body first last start value end now → counted n now ≡ Goes tt mid → set ≡ with_uniform x value mid →
    perform_list w n body set ≡ Goes tt new → next ≡ value +ℤ pos 1 → till ≡ end → ¬ (value ≡ end) → start.count ≤ new.count →
    InFor w n x body first last start next till new
turn_goes w n x body first last value end next till start now mid set new i c s e k t h g = record {
  same = gone w n x body first last value end start now mid set new i c s e
      ∙ ap (λ v. for_turns n (width v last) x v (perform_list w n body) new) (sym k);
  within = let l = i.within in let m : end ≡ last = i.to in grind (arith, ints);
  to = t ∙ i.to;
  grows = g;
}

pub turns_end : (w : Checked) (n x : ℕ) (body : List Statement) (first last value end : ℤ) (start now mid set new : State) →
    InFor w n x body first last start value end now → counted n now ≡ Goes tt mid → set ≡ with_uniform x value mid →
    perform_list w n body set ≡ Goes tt new → value ≡ end →
    for_turns n (width first last) x first (perform_list w n body) start ≡ Goes tt new
turns_end w n x body first last value end start now mid set new i c s e is =
    gone w n x body first last value end start now mid set new i c s e
    ∙ no_turns w n x body (value +ℤ pos 1) last new (let m : end ≡ last = i.to in omega (arith, ints, is))

-- another number is left
pub is_left : (w : Checked) (n x : ℕ) (body : List Statement) (first last value end : ℤ) (start now : State) →
    InFor w n x body first last start value end now → ¬ (value ≡ end) → value <ℤ end
is_left w n x body first last value end start now i h = let l = i.within in let m : end ≡ last = i.to in grind (arith, ints)
