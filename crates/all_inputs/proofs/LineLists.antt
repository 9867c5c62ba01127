-- Lists of lines with their faults, in which one is written over or put between others.
use Rattle.std.proofs.Common.{◌≡◌, ◌≢◌, ◌∙◌, ℕ, ◌+◌, ◌-◌, ◌<◌, ◌≤◌, ◌||◌, Bool, true, false, Option, Some, None, List}
use Rattle.std.proofs.Common.{◌⊎◌, inl, inr, ◌∷◌, length, get_or, set, take, drop, refl, sym, ap, subst, arith}
use Rattle.std.specs.List.{All, insert}
use Rattle.std.specs.Option.{option_or}
use Rattle.std.specs.Prelude.{IsSome, is_some}
use Rattle.std.proofs.lemmas.Bool.{cases_lt}
use Rattle.std.proofs.lemmas.List.{get_or-set_same, get_or-set_other, get_or_default, length-set}
use Rattle.std.proofs.lemmas.List.Edits.{length-insert, get_or-insert_below, get_or-insert_at, get_or-insert_above}
use Rattle.std.proofs.lemmas.List.Elements.{All-set, All-append, All-cons, All-take, All-drop}
use Rattle.pram_values.specs.declared.kind.Kind.{Kind}
use Rattle.pram_values.specs.declared.kind.Kind.TheVariants.{Overflow, DivideByZero, OutOfRange, TooWide, ReadConflict, WriteConflict}
use Rattle.all_inputs.specs.declared.faults.Faults.{Faults}
use Rattle.all_inputs.specs.declared.line_faults.LineFaults.{LineFaults}
use Rattle.all_inputs.specs.declared.reason.Reason.{Reason}
use Rattle.all_inputs.specs.Faulting.{AreKept, has_fault, reason_for}
use Rattle.all_inputs.specs.Lines.{AreAscending, HaveFaults, IsGapFor, IsHeld}

-- ---- faults and those of another

-- the reasons of the first, or else of the second
abbrev Both : Faults → Faults → Faults → Type 0
Both f g both = (kind : Kind) → reason_for kind both ≡ option_or (reason_for kind f) (reason_for kind g)

some_first : (p q : Option Reason) → IsSome p → IsSome (option_or p q)
some_first None q h = absurd (cc h)
some_first (Some x) q h = refl

some_second : (p q : Option Reason) → IsSome q → IsSome (option_or p q)
some_second None q h = h
some_second (Some x) q h = refl

pub first_kept : (f g both : Faults) → Both f g both → AreKept f both
first_kept f g both h kind may =
    subst (λ (o : Option Reason). IsSome o) (sym (h kind)) (some_first (reason_for kind f) (reason_for kind g) may)

pub second_kept : (f g both : Faults) → Both f g both → AreKept g both
second_kept f g both h kind may =
    subst (λ (o : Option Reason). IsSome o) (sym (h kind)) (some_second (reason_for kind f) (reason_for kind g) may)

any_second : (p q : Option Reason) (b c : Bool) → (IsSome p → IsSome q) → (b ≡ true → c ≡ true) →
    is_some p || b ≡ true → is_some q || c ≡ true
any_second None None b c h k any = k any
any_second (Some x) None b c h k any = absurd (cc (h refl))
any_second p (Some y) b c h k any = refl

-- where what may come is kept, some fault is
pub fault_kept : (f g : Faults) → AreKept f g → has_fault f ≡ true → has_fault g ≡ true
fault_kept f g h =
    any_second f.overflow g.overflow _ _ (h Overflow)
    (any_second f.divide_by_zero g.divide_by_zero _ _ (h DivideByZero)
    (any_second f.out_of_range g.out_of_range _ _ (h OutOfRange)
    (any_second f.too_wide g.too_wide _ _ (h TooWide)
    (any_second f.read_conflict g.read_conflict _ _ (h ReadConflict)
    (any_second f.write_conflict g.write_conflict false false (h WriteConflict) (λ e. e))))))

-- ---- one is written over

same_or_other : (k at : ℕ) → (k < at) ⊎ (at ≤ k) → (at < k) ⊎ (k ≤ at) → (k ≡ at) ⊎ (k ≢ at)
same_or_other k at (inl below) q = inr (λ same. omega arith)
same_or_other k at (inr le) (inl above) = inr (λ same. omega arith)
same_or_other k at (inr le) (inr ge) = inl (omega arith)

module _ (es : List LineFaults) (at : ℕ) (new : LineFaults) (within : at < length es) where
  pub set_faulty : HaveFaults es → has_fault new.faults ≡ true → HaveFaults (set es at new)
  set_faulty all one = All-set (λ (e : LineFaults). has_fault e.faults ≡ true) es at new one all

  pub set_held : (e : LineFaults) → new.line ≡ e.line → AreKept e.faults new.faults → IsHeld (set es at new) e
  set_held e line kept = record {
    entry = new;
    among = (at, subst (λ n. at < n) (sym (length-set es at new)) within, get_or-set_same es at new new within);
    line_is = line;
    faults = kept;
  }

  set_other : (k : ℕ) (d : LineFaults) → k < length es → k ≢ at → IsHeld (set es at new) (get_or es k d)
  set_other k d lt other = record {
    entry = get_or es k d;
    among = (
      k,
      subst (λ n. k < n) (sym (length-set es at new)) lt,
      get_or-set_other es at k new (get_or es k d) other ∙ get_or_default es k (get_or es k d) d lt,
    );
    line_is = refl;
    faults = λ kind may. may;
  }

  set_step : (old : LineFaults) → old ≡ get_or es at old → new.line ≡ old.line → AreKept old.faults new.faults →
      (k : ℕ) (d : LineFaults) → k < length es → (k ≡ at) ⊎ (k ≢ at) → IsHeld (set es at new) (get_or es k d)
  set_step old read line kept k d lt (inl same) =
      let is : get_or es k d ≡ old = ap (λ n. get_or es n d) same ∙ get_or_default es at d old within ∙ sym read in
      subst (IsHeld (set es at new)) (sym is) (set_held old line kept)
  set_step old read line kept k d lt (inr other) = set_other k d lt other

  pub set_kept : (old : LineFaults) → old ≡ get_or es at old → new.line ≡ old.line → AreKept old.faults new.faults →
      All (IsHeld (set es at new)) es
  set_kept old read line kept k d lt = set_step old read line kept k d lt (same_or_other k at (cases_lt k at) (cases_lt at k))

  -- each line stays what it was
  set_line : ((d : LineFaults) → (get_or es at d).line ≡ new.line) → (k : ℕ) (d : LineFaults) → k < length es → (k ≡ at) ⊎ (k ≢ at) →
      (get_or (set es at new) k d).line ≡ (get_or es k d).line
  set_line is k d lt (inl same) =
      ap (λ n. (get_or (set es at new) n d).line) same ∙ ap (λ (e : LineFaults). e.line) (get_or-set_same es at new d within)
      ∙ sym (is d) ∙ ap (λ n. (get_or es n d).line) (sym same)
  set_line is k d lt (inr other) = ap (λ (e : LineFaults). e.line) (get_or-set_other es at k new d other)

  pub set_ascending : ((d : LineFaults) → (get_or es at d).line ≡ new.line) → AreAscending es → AreAscending (set es at new)
  set_ascending is ascending i j d lt below =
      let inside : j < length es = omega (arith, length-set es at new) in
      let first = set_line is i d (omega arith) (same_or_other i at (cases_lt i at) (cases_lt at i)) in
      let second = set_line is j d inside (same_or_other j at (cases_lt j at) (cases_lt at j)) in
      omega (arith, ascending i j d lt inside, first, second)

-- ---- one is put between others

module _ (es : List LineFaults) (at : ℕ) (new : LineFaults) (gap : IsGapFor es new.line at) where
  pub insert_held : IsHeld (insert es at new) new
  insert_held = record {
    entry = new;
    among = (
      at,
      omega (arith, length-insert es at new gap.place.within, gap.place.within),
      get_or-insert_at es at new new gap.place.within,
    );
    line_is = refl;
    faults = λ kind may. may;
  }

  pub insert_faulty : HaveFaults es → has_fault new.faults ≡ true → HaveFaults (insert es at new)
  insert_faulty all one =
      let P : LineFaults → Type 0 = λ e. has_fault e.faults ≡ true in
      All-append P (take at es) (new ∷ drop at es) (All-take P at es all) (All-cons P new (drop at es) one (All-drop P at es all))

  insert_step : (k : ℕ) (d : LineFaults) → k < length es → (k < at) ⊎ (at ≤ k) → IsHeld (insert es at new) (get_or es k d)
  insert_step k d lt (inl below) = record {
    entry = get_or es k d;
    among = (
      k,
      omega (arith, length-insert es at new gap.place.within),
      get_or-insert_below es at new (get_or es k d) k below gap.place.within ∙ get_or_default es k (get_or es k d) d lt,
    );
    line_is = refl;
    faults = λ kind may. may;
  }
  insert_step k d lt (inr above) = record {
    entry = get_or es k d;
    among = (
      k + 1,
      omega (arith, length-insert es at new gap.place.within),
      get_or-insert_above es at new (get_or es k d) k above gap.place.within ∙ get_or_default es k (get_or es k d) d lt,
    );
    line_is = refl;
    faults = λ kind may. may;
  }

  pub insert_kept : All (IsHeld (insert es at new)) es
  insert_kept k d lt = insert_step k d lt (cases_lt k at)

  -- each line is an old one before the place, the new one at it, or an old one behind it
  pub insert_ascending : AreAscending es → AreAscending (insert es at new)
  insert_ascending ascending i j d lt within =
      let all = insert es at new in
      let line : LineFaults → ℕ = λ e. e.line in
      let length_all = length-insert es at new gap.place.within in
      let below : (k : ℕ) → k < at → (get_or all k d).line ≡ (get_or es k d).line =
      λ k lt. ap line (get_or-insert_below es at new d k lt gap.place.within) in
      let here : (k : ℕ) → k ≡ at → (get_or all k d).line ≡ new.line =
      λ k is. rw is (ap line (get_or-insert_at es at new d gap.place.within)) in
      let above : (k : ℕ) → at < k → (get_or all k d).line ≡ (get_or es (k - 1) d).line =
      λ k gt. subst (λ n. (get_or all n d).line ≡ (get_or es (k - 1) d).line) {x = k - 1 + 1} (omega arith)
      (ap line (get_or-insert_above es at new d (k - 1) (omega arith) gap.place.within)) in
      let greater : (k : ℕ) → at ≤ k → k < length es → new.line < (get_or es k d).line =
      λ k le lt. grind (arith, gap.greater d, ascending at k d, λ (is : at ≡ k). ap (λ n. (get_or es n d).line) is) in
      grind (
        arith,
        below i,
        here i,
        above i,
        below j,
        here j,
        above j,
        ascending i j d,
        ascending i (j - 1) d,
        ascending (i - 1) (j - 1) d,
        gap.place.before i d,
        greater (j - 1),
      )
