-- Stretches that are judged one by one make code.
use Rattle.std.proofs.Common.{◌≡◌, ℕ, zero, suc, ◌+◌, ◌-◌, ◌<◌, ◌≤◌, List, [], ◌∷◌, ◌++◌, length, take, Bool, true, false, not, ◌||◌, Some}
use Rattle.std.proofs.Common.{refl, sym, ap, ◌∙◌, subst, arith, ⊎_elim, ◌⊎◌, inl, inr}
use Rattle.std.specs.Prelude.{nat_lt, slice_get}
use Rattle.std.proofs.lemmas.Bool.{cases_lt}
use Rattle.std.proofs.lemmas.Bool.Decides.{nat_tests}
use Rattle.std.proofs.lemmas.List.{append_assoc, append-nil, length-append, take-append-le}
use Rattle.std.proofs.Math.Seq.{take-append-add}
use Rattle.superstep_instructions.specs.declared.instr.Instr.{Instr}
use Rattle.superstep_instructions.specs.declared.instr.Instr.TheVariants.{Jump, JumpIfZero, Halt}
use Rattle.superstep_instructions.specs.Code.{SuperstepCode}
use Rattle.bsp_verify.specs.declared.state.State.{State}
use Rattle.bsp_verify.specs.States.{opening, after}
use Rattle.bsp_verify.specs.Control.{Leads, goes_on, IsReached}
use Rattle.bsp_verify.specs.Judging.{stays_within, IsAllowed}
use Rattle.bsp_verify.specs.WellFormed.{IsMet}
use Rattle.bsp_verify.specs.Stretches.{behind, scan_of, Stands, JumpsTo, IsPlaced, IsStretch, StretchesCompose, StretchesLeave, IsClosed}
use Rattle.bsp_verify.specs.Stretches.{AStretchIsCode, PartsStand, WhatStandsIsThere}

-- ---- the state behind instructions

behind-append : (xs ys : List Instr) (s : State) → behind (xs ++ ys) s ≡ behind ys (behind xs s)
behind-append [] ys s = refl
behind-append (x ∷ xs) ys s = behind-append xs ys (after x s)

got-append-add : (xs ys : List Instr) (k : ℕ) → slice_get (xs ++ ys) (length xs + k) ≡ slice_get ys k
got-append-add [] ys k = ap (slice_get ys) (let e : 0 + k ≡ k = omega arith in e)
got-append-add (x ∷ xs) ys k = ap (slice_get (x ∷ (xs ++ ys))) (let e : suc (length xs) + k ≡ suc (length xs + k) = omega arith in e)
    ∙ got-append-add xs ys k

got-append : (xs ys : List Instr) (k : ℕ) → k < length xs → slice_get (xs ++ ys) k ≡ slice_get xs k
got-append [] ys k h = absurd (omega arith)
got-append (x ∷ xs) ys zero h = refl
got-append (x ∷ xs) ys (suc k) h = got-append xs ys k (omega arith)

-- ---- composing

pub stretches_compose : StretchesCompose
stretches_compose code at s m e [] ys a b =
    subst (λ (r : State). IsStretch code at r ys e) (sym a) (subst (λ k. IsStretch code k m ys e) (let h : at + 0 ≡ at = omega arith in
    h) b)
stretches_compose code at s m e (x ∷ xs) ys a b = (
  a.0,
  stretches_compose code (at + 1) (after x s) m e xs ys a.1
      (subst (λ k. IsStretch code k m ys e) (let h : at + suc (length xs) ≡ at + 1 + length xs = omega arith in h) b),
)

pub stretches_leave : StretchesLeave
stretches_leave code at s m [] h = sym h
stretches_leave code at s m (i ∷ is) h = stretches_leave code (at + 1) (after i s) m is h.1

-- ---- where a stretch stands

module _ (code : SuperstepCode) where
  whole_stands : Stands code 0 opening code.instructions
  whole_stands = record { before = []; rest = []; whole = append-nil code.instructions; from = refl; state = refl }

  module _ (at : ℕ) (s : State) (xs ys : List Instr) (h : Stands code at s (xs ++ ys)) where
    first_stands : Stands code at s xs
    first_stands = record {
      before = h.before;
      rest = ys ++ h.rest;
      whole = ap (λ (l : List Instr). h.before ++ l) (sym (append_assoc xs ys h.rest)) ∙ h.whole;
      from = h.from;
      state = h.state;
    }

    second_stands : Stands code (at + length xs) (behind xs s) ys
    second_stands = record {
      before = h.before ++ xs;
      rest = h.rest;
      whole = append_assoc h.before xs (ys ++ h.rest) ∙ ap (λ (l : List Instr). h.before ++ l) (sym (append_assoc xs ys h.rest)) ∙ h.whole;
      from = length-append h.before xs ∙ ap (λ n. n + length xs) h.from;
      state = behind-append h.before xs opening ∙ ap (behind xs) h.state;
    }

  module _ (at : ℕ) (s : State) (is : List Instr) (h : Stands code at s is) where
    has : (k : ℕ) → k < length is → slice_get code.instructions (at + k) ≡ slice_get is k
    has k l =
        ap (λ (c : List Instr). slice_get c (at + k)) (sym h.whole)
        ∙ ap (λ n. slice_get (h.before ++ (is ++ h.rest)) (n + k)) (sym h.from)
        ∙ got-append-add h.before (is ++ h.rest) k
        ∙ got-append is h.rest k l

    comes : (k : ℕ) → k ≤ length is → scan_of code (at + k) ≡ behind (take k is) s
    comes k l =
        ap (λ (c : List Instr). behind (take (at + k) c) opening) (sym h.whole)
        ∙ ap (λ n. behind (take (n + k) (h.before ++ (is ++ h.rest))) opening) (sym h.from)
        ∙ ap (λ (c : List Instr). behind c opening) (take-append-add h.before (is ++ h.rest) k)
        ∙ behind-append h.before (take k (is ++ h.rest)) opening
        ∙ ap (behind (take k (is ++ h.rest))) h.state
        ∙ ap (λ (c : List Instr). behind c s) (take-append-le k is h.rest l)

pub parts_stand : PartsStand
parts_stand code = (whole_stands code, λ at s xs ys h. (first_stands code at s xs ys h, second_stands code at s xs ys h))

pub what_stands_is_there : WhatStandsIsThere
what_stands_is_there code at s is h k = (has code at s is h k, comes code at s is h k)

-- ---- code that is a stretch

or_true : (b : Bool) → (not b || true) ≡ true
or_true true = refl
or_true false = refl

goes_leads : (i : Instr) (place : ℕ) → goes_on i ≡ true → Leads i place (place + 1)
goes_leads Halt place h = cc
goes_leads (Jump target) place h = cc
goes_leads (JumpIfZero r target) place h = inr refl
goes_leads i place h = refl

-- where an instruction leads, it jumps, or it's the next place
leads_to : (given : ℕ → State) (i : Instr) (place : ℕ) (s : State) → ((t : ℕ) → JumpsTo i t → given t ≡ s) → given (place + 1) ≡ after i s →
    (t : ℕ) → Leads i place t → given t ≡ after i s
leads_to given Halt place s j n t l = absurd l
leads_to given (Jump target) place s j n t l = j t l
leads_to given (JumpIfZero r target) place s j n t l = ⊎_elim (λ e. j t e) (λ e. ap given e ∙ n) l
leads_to given i place s j n t l = ap given l ∙ n

module _ (code : SuperstepCode) (closed : IsClosed code.instructions) where
  abbrev size : ℕ
  size = length code.instructions

  module _ (at : ℕ) (s : State) (i : Instr) (is : List Instr) (h : Stands code at s (i ∷ is)) (p : IsPlaced code at i s) where
    inside : at + length (i ∷ is) ≤ size
    inside =
        let e = ap (λ (l : List Instr). length l) h.whole in
        let a = length-append h.before (i ∷ (is ++ h.rest)) in
        let b = length-append is h.rest in
        let f = h.from in
        omega (arith, e, a, b, f)

    found : slice_get code.instructions at ≡ Some i
    found = ap (slice_get code.instructions) (let q : at ≡ at + 0 = omega arith in q) ∙ has code at s (i ∷ is) h 0 (omega arith)

    here : scan_of code at ≡ s
    here = ap (scan_of code) (let q : at ≡ at + 0 = omega arith in q) ∙ comes code at s (i ∷ is) h 0 (omega arith)

    next : scan_of code (at + 1) ≡ after i s
    next = comes code at s (i ∷ is) h 1 (omega arith)

    -- what goes on isn't the last one
    within : stays_within code at i ≡ true
    within = go (goes_on i) refl (cases_lt (at + 1) size)
      where
        go : (b : Bool) → goes_on i ≡ b → (at + 1 < size) ⊎ (size ≤ at + 1) → (not (goes_on i) || nat_lt (at + 1) size) ≡ true
        go false e q = ap (λ c. not c || nat_lt (at + 1) size) e
        go true e q = ⊎_elim (λ l. below l) (λ l. last l) q
          where
            below : at + 1 < size → (not (goes_on i) || nat_lt (at + 1) size) ≡ true
            below l = ap (λ c. not (goes_on i) || c) (let t : nat_lt (at + 1) size ≡ true = grind (arith, nat_tests) in t)
                ∙ or_true (goes_on i)

            last : size ≤ at + 1 → (not (goes_on i) || nat_lt (at + 1) size) ≡ true
            last l = let f = closed i (ap (slice_get code.instructions) (let o = inside in let t : size - 1 ≡ at = omega (arith, l, o) in t)
                ∙ found) in cc

    met_here : IsReached code at → IsMet code (scan_of code) at
    met_here reached = record {
      instr = i;
      is = found;
      reached = reached;
      allowed = subst (λ (x : State). IsAllowed code at i x) (sym here) (record {
        registers = p.registers;
        entry = p.entry;
        target = p.target;
        mode = p.mode;
        masks = p.masks;
        exchange = p.exchange;
        within = within;
      });
      leaves = λ t l. leads_to (scan_of code) i at s p.joins next t l ∙ ap (after i) (sym here);
    }

    reached_next : 0 < length is → IsReached code (at + 1)
    reached_next l = go (goes_on i) refl
      where
        go : (b : Bool) → goes_on i ≡ b → IsReached code (at + 1)
        go true e = inr (at, i, (let q : at < at + 1 = omega arith in q), found, goes_leads i at e)
        go false e = p.followed e (let o = inside in omega (arith, o, l))

  met : (m s : State) (at : ℕ) (is : List Instr) → Stands code at s is → (0 < length is → IsReached code at) → IsStretch code at s is m →
      (k : ℕ) → at ≤ k → k < at + length is → IsMet code (scan_of code) k
  met m s at [] h reached p k low high = absurd (omega (arith, low, high))
  met m s at (i ∷ is) h reached p k low high =
      ⊎_elim
      (λ l. met m (after i s) (at + 1) is (second_stands code at s (i ∷ []) is h) (reached_next at s i is h p.0) p.1 k (omega (arith, l))
      (omega (arith, high)))
      (λ l. subst (IsMet code (scan_of code)) (let e : at ≡ k = omega (arith, low, l) in
      e) (met_here at s i is h p.0 (reached (omega arith))))
      (cases_lt at k)

pub a_stretch_is_code : AStretchIsCode
a_stretch_is_code code m long closed h = record {
  start = refl;
  each = λ k l. met code closed m opening 0 code.instructions (whole_stands code) (λ q. inl refl) h k (omega arith) (omega (arith, l));
}
