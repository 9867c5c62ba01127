-- What the one pass knows decides whether the instructions can be met.
use Rattle.std.proofs.Common.{◌≡◌, ℕ, ◌+◌, ◌<◌, ◌≤◌, List, [], ◌∷◌, length, Bool, true, false, Option, Some, None, not, refl, sym, ap, ◌∙◌}
use Rattle.std.proofs.Common.{subst, arith, ⊎_elim, inl, inr}
use Rattle.std.specs.Prelude.{if◌then◌else◌, slice_get}
use Rattle.std.proofs.lemmas.Bool.{cases_lt}
use Rattle.std.proofs.Common.{get_or, set, replicate, unwrap_or}
use Rattle.std.proofs.lemmas.Option.{unwrap_or-slice_get, slice_get_within}
use Rattle.std.proofs.lemmas.List.{get_or-set_same, get_or-set_other, get_or-replicate, length-set, length-replicate}
use Rattle.std.proofs.Math.ListN.{get_or-eq_default}
use Rattle.superstep_instructions.specs.declared.instr.Instr.{Instr}
use Rattle.superstep_instructions.specs.Code.{SuperstepCode}
use Rattle.bsp_verify.specs.declared.state.State.{State}
use Rattle.bsp_verify.specs.declared.fault.Reason.{Reason}
use Rattle.bsp_verify.specs.declared.fault.Reason.TheVariants as Why
use Rattle.bsp_verify.specs.States.{opening, after}
use Rattle.bsp_verify.specs.Control.{Leads, IsLed, IsReached}
use Rattle.bsp_verify.specs.Judging.{has_registers, has_entry, has_target, fits_mode, fits_masks, fits_exchange, stays_within, IsAllowed}
use Rattle.bsp_verify.specs.Judging.{first_reason}
use Rattle.bsp_verify.specs.WellFormed.{IsMet, AreMet, CanBeMet, IsWellFormed}
use Rattle.bsp_verify.specs.FirstFault.{or_state, reason_at, IsFirstFault}
use Rattle.bsp_verify.specs.Table.{or_opening, given_by, or_none, state_at, Adds, Clashes, IsDone, IsTable}
use Rattle.pram_model.proofs.Truths.{unsome}

picked : {A : Type 0} (a : Bool) (x y : A) → a ≡ true → (if not a then x else y) ≡ y
picked true x y h = refl
picked false x y h = cc

-- an instruction that may stand there has no reason against it
pub allowed_none : (code : SuperstepCode) (place : ℕ) (i : Instr) (s : State) → IsAllowed code place i s →
    first_reason code place i s ≡ None
allowed_none code place i s a =
    picked (has_registers code i) _ _ a.registers ∙ picked (has_entry code i) _ _ a.entry ∙ picked (has_target code place i) _ _ a.target
    ∙ picked (fits_mode i s) _ _ a.mode ∙ picked (fits_masks i s) _ _ a.masks ∙ picked (fits_exchange i s) _ _ a.exchange
    ∙ picked (stays_within code place i) _ _ a.within

none_true : (a : Bool) (w : Reason) (rest : Option Reason) → (if not a then Some w else rest) ≡ None → (a ≡ true) × (rest ≡ None)
none_true true w rest h = (refl, h)
none_true false w rest h = cc

-- one without a reason against it may stand there
pub none_allowed : (code : SuperstepCode) (place : ℕ) (i : Instr) (s : State) → first_reason code place i s ≡ None →
    IsAllowed code place i s
none_allowed code place i s h =
    let a = none_true (has_registers code i) _ _ h in
    let b = none_true (has_entry code i) _ _ a.1 in
    let c = none_true (has_target code place i) _ _ b.1 in
    let d = none_true (fits_mode i s) _ _ c.1 in
    let e = none_true (fits_masks i s) _ _ d.1 in
    let f = none_true (fits_exchange i s) _ _ e.1 in
    let g = none_true (stays_within code place i) _ _ f.1 in
    record { registers = a.0; entry = b.0; target = c.0; mode = d.0; masks = e.0; exchange = f.0; within = g.0 }

none_some : {A : Type 0} (o : Option A) (x : A) → o ≡ None → o ≡ Some x → ⊥
none_some o x h k = cc

module _ (code : SuperstepCode) (k : ℕ) where
  pub fewer : (given : ℕ → State) → AreMet code (k + 1) given → AreMet code k given
  fewer given m = record { start = m.start; each = λ j l. m.each j (omega (arith, l)) }

  fewer_than : (n : ℕ) (given : ℕ → State) → k + 1 ≤ n → AreMet code n given → AreMet code (k + 1) given
  fewer_than n given l m = record { start = m.start; each = λ j h. m.each j (omega (arith, h, l)) }

  -- where this instruction is bad, the code is
  ill : k < length code.instructions → (CanBeMet code (k + 1) → ⊥) → IsWellFormed code → ⊥
  ill l bad w = bad (w.1.0, fewer_than (length code.instructions) w.1.0 (omega (arith, l)) w.1.1)

  module _ (table : List (Option State)) (kept : IsTable code k table) where
    abbrev from_table : ℕ → State
    from_table t = given_by table t

    from_some : (t : ℕ) (s : State) → state_at table t ≡ Some s → from_table t ≡ s
    from_some t s h = ap or_opening h

    pub meets_table : AreMet code k (given_by table)
    meets_table = record { start = from_some 0 opening kept.start; each = fits }
      where
        fits : (j : ℕ) → j < k → IsMet code from_table j
        fits j l =
            let d = kept.each j l in
            let e = from_some j d.state d.has in
            record {
              instr = d.instr;
              is = d.is;
              reached = d.reached;
              allowed = subst (λ s. IsAllowed code j d.instr s) (sym e) d.allowed;
              leaves = λ t lead. from_some t (after d.instr d.state) (d.leaves t lead) ∙ ap (after d.instr) (sym e);
            }

    pub can_meet : CanBeMet code k
    can_meet = (given_by table, meets_table)

    -- a place without a state isn't reached
    not_reached : state_at table k ≡ None → IsReached code k → ⊥
    not_reached h w = ⊎_elim zero_has led w
      where
        zero_has : k ≡ 0 → ⊥
        zero_has e = none_some (state_at table 0) opening (ap (state_at table) (sym e) ∙ h) kept.start

        led : ((j : ℕ) × (i : Instr) × (j < k) × (slice_get code.instructions j ≡ Some i) × Leads i j k) → ⊥
        led w =
            let d = kept.each w.0 w.2 in
            let same = unsome w.1 d.instr (sym w.3 ∙ d.is) in
            none_some (state_at table k) (after d.instr d.state) h (d.leaves k (subst (λ (i : Instr). Leads i w.0 k) same w.4))

    pub bad_no_state : k < length code.instructions → state_at table k ≡ None → IsFirstFault code k Why.State
    bad_no_state place h = record {
      refused = ill place (λ c. not_reached h (c.1.each k (omega arith)).reached);
      below = can_meet;
      bad = λ c. not_reached h (c.1.each k (omega arith)).reached;
      no_state = λ w. refl;
      reason = λ w given m. absurd (not_reached h w);
    }

    module _ (i : Instr) (s : State) (is : slice_get code.instructions k ≡ Some i) (has : state_at table k ≡ Some s) where
      -- what any way to meet the instructions up to this one says of it
      at_k : (given : ℕ → State) → AreMet code (k + 1) given → (given k ≡ s) × IsAllowed code k i s
          × ((t : ℕ) → Leads i k t → given t ≡ after i s)
      at_k given m =
          let f = m.each k (omega arith) in
          let e = kept.forced given (fewer given m) k s has in
          let same = unsome f.instr i (sym f.is ∙ is) in
          let allowed = subst (λ (j : Instr). IsAllowed code k j (given k)) same f.allowed in
          let gives = subst (λ (j : Instr). (t : ℕ) → Leads j k t → given t ≡ after j (given k)) same f.leaves in
          (e, subst (λ x. IsAllowed code k i x) e allowed, λ t l. gives t l ∙ ap (after i) e)

      said : (why : Option Reason) → first_reason code k i s ≡ why → (given : ℕ → State) → AreMet code k given →
          or_state why ≡ reason_at code k (slice_get code.instructions k) (given k)
      said why h given m = ap or_state (sym h) ∙ ap (λ x. reason_at code k (Some i) x) (sym (kept.forced given m k s has))
          ∙ ap (λ o. reason_at code k o (given k)) (sym is)

      pub bad_instr : (why : Reason) → first_reason code k i s ≡ Some why → IsFirstFault code k why
      bad_instr why h = record {
        refused = ill (slice_get_within code.instructions k i is)
            (λ c. none_some (first_reason code k i s) why (allowed_none code k i s (at_k c.0 c.1).1) h);
        below = can_meet;
        bad = λ c. none_some (first_reason code k i s) why (allowed_none code k i s (at_k c.0 c.1).1) h;
        no_state = λ w. absurd (w (kept.why k s has));
        reason = λ w given m. said (Some why) h given m;
      }

      pub bad_next : first_reason code k i s ≡ None → Clashes table (λ t. Leads i k t) (after i s) → IsFirstFault code k Why.State
      bad_next h c = record {
        refused = ill (slice_get_within code.instructions k i is)
            (λ w. c.differs (sym (kept.forced w.0 (fewer w.0 w.1) c.place c.other c.has) ∙ (at_k w.0 w.1).2 c.place c.here));
        below = can_meet;
        bad = λ w. c.differs (sym (kept.forced w.0 (fewer w.0 w.1) c.place c.other c.has) ∙ (at_k w.0 w.1).2 c.place c.here);
        no_state = λ w. refl;
        reason = λ w given m. said None h given m;
      }

      pub kept_next : (new : List (Option State)) → first_reason code k i s ≡ None → Adds table new (λ t. Leads i k t) (after i s) →
          IsTable code (k + 1) new
      kept_next new h a = record {
        long = a.long ∙ kept.long;
        start = a.grows 0 opening kept.start;
        each = each;
        why = λ t x e. ⊎_elim (λ old. later t (kept.why t x old)) (λ p. inr (k, i, omega arith, is, p.0)) (a.only t x e);
        forced = λ given m t x e. ⊎_elim (λ old. kept.forced given (fewer given m) t x old) (λ p. (at_k given m).2 t p.0
            ∙ sym p.1) (a.only t x e);
      }
        where
          later : (t : ℕ) → IsLed code k t → IsLed code (k + 1) t
          later t w = ⊎_elim (λ z. inl z) (λ l. inr (l.0, l.1, (let x = l.2 in omega (arith, x)), l.3, l.4)) w

          done : (j : ℕ) → IsDone code table j → IsDone code new j
          done j d = record {
            instr = d.instr;
            state = d.state;
            is = d.is;
            has = a.grows j d.state d.has;
            reached = d.reached;
            allowed =
                d.allowed;
            leaves = λ t l. a.grows t (after d.instr d.state) (d.leaves t l);
          }

          this : IsDone code new k
          this = record {
            instr = i;
            state = s;
            is = is;
            has = a.grows k s has;
            reached = kept.why k s has;
            allowed =
                none_allowed code k i s h;
            leaves = a.gives;
          }

          each : (j : ℕ) → j < k + 1 → IsDone code new j
          each j l = ⊎_elim (λ under. done j (kept.each j under)) (λ at. subst (IsDone code new) (here j at l) this) (cases_lt j k)
            where
              here : (j : ℕ) → k ≤ j → j < k + 1 → k ≡ j
              here j a b = omega arith

-- the opening table
pub kept_first : (code : SuperstepCode) (table : List (Option State)) → length table ≡ length code.instructions →
    state_at table 0 ≡ Some opening → ((t : ℕ) (s : State) → state_at table t ≡ Some s → t ≡ 0) → IsTable code 0 table
kept_first code table long start alone = record {
  long = long;
  start = start;
  each = λ j l. absurd (omega (arith, l));
  why = λ t s h. inl (alone t s h);
  forced = λ given m t s h. ap given (alone t s h) ∙ m.start ∙ unsome opening s (sym start ∙ ap (state_at table) (sym (alone t s h)) ∙ h);
}

state_read : (table : List (Option State)) (t : ℕ) → state_at table t ≡ get_or table t None
state_read table t = same (slice_get table t) ∙ unwrap_or-slice_get table t None
  where
    same : (o : Option (Option State)) → or_none o ≡ unwrap_or o None
    same None = refl
    same (Some o) = refl

pub kept_opening : (code : SuperstepCode) (n : ℕ) → n ≡ length code.instructions → 0 < n →
    IsTable code 0 (set (replicate n None) 0 (Some opening))
kept_opening code n e l = kept_first code (set (replicate n None) 0 (Some opening)) (length-set _ _ _ ∙ length-replicate n _
    ∙ e) (state_read (set (replicate n None) 0 (Some opening)) 0
    ∙ get_or-set_same (replicate n None) 0 (Some opening) None (subst (λ m. 0 < m) (sym (length-replicate n _)) l)) alone
  where
    free : (t : ℕ) → get_or (replicate n (let o : Option State = None in o)) t None ≡ None
    free t = ⊎_elim (λ below. get_or-replicate n t None None below)
        (λ past. get_or-eq_default (replicate n None) None (subst (λ m. m ≤ t) (sym (length-replicate n _)) past)) (cases_lt t n)

    alone : (t : ℕ) (s : State) → state_at (set (replicate n None) 0 (Some opening)) t ≡ Some s → t ≡ 0
    alone t s h = ⊎_elim (λ up. absurd (none_some (state_at (set (replicate n None) 0 (Some opening)) t) s
        (state_read (set (replicate n None) 0 (Some opening)) t
        ∙ get_or-set_other (replicate n None) 0 t (Some opening) None (λ z. omega (arith, z, up)) ∙ free t) h)) (λ low. omega (arith, low))
        (cases_lt 0 t)

-- code without instructions
pub bad_empty : (code : SuperstepCode) → length code.instructions ≡ 0 → IsFirstFault code 0 Why.End
bad_empty code empty = record {
  refused = λ w. (let l = w.0 in absurd (omega (arith, l, empty)));
  below = (λ t. opening, record { start = refl; each = λ j l. absurd (omega (arith, l)) });
  bad = λ c. let f = c.1.each 0 (omega arith) in let l = slice_get_within code.instructions 0 f.instr f.is in
      absurd (omega (arith, l, empty));
  no_state = λ w. absurd (w (inl refl));
  reason = λ w given m. ap (λ o. reason_at code 0 o (given 0)) (sym (nothing code.instructions empty));
}
  where
    nothing : (xs : List Instr) → length xs ≡ 0 → slice_get xs 0 ≡ None
    nothing [] h = refl
    nothing (x ∷ xs) h = absurd (omega arith)

-- there is one first fault
pub one_place : (code : SuperstepCode) (k l : ℕ) (v w : Reason) → IsFirstFault code k v → IsFirstFault code l w → k ≡ l
one_place code k l v w a b = ⊎_elim (λ low. absurd (a.bad (b.below.0, fewer_than code k l b.below.0 (omega (arith, low)) b.below.1)))
    (λ le. ⊎_elim (λ low. absurd (b.bad (a.below.0, fewer_than code l k a.below.0 (omega (arith, low)) a.below.1)))
    (λ ge. omega (arith, le, ge)) (cases_lt l k)) (cases_lt k l)
