-- Where one fault is told alone, it is the one that comes.
use Rattle.std.proofs.Common.{◌≡◌, ◌∙◌, ℕ, zero, suc, Bool, true, false, cond, Option, Some, None}
use Rattle.std.proofs.Common.{List, [], ◌∷◌, ap, arith, refl, subst, sym}
use Rattle.std.specs.List.{Contains, filter}
use Rattle.std.specs.Option.{option_map}
use Rattle.std.specs.Prelude.{IfSome, IsSomeAnd, is_some}
use Rattle.write_rules.specs.Verdict.{Verdict, Ended, Faulted, GoesOn}
use Rattle.pram_model.specs.Layout.{SharedEntry}
use Rattle.pram_values.specs.declared.kind.Kind.{Kind}
use Rattle.pram_values.specs.declared.kind.Kind.TheVariants.{Overflow, DivideByZero, OutOfRange, TooWide, ReadConflict, WriteConflict}
use Rattle.all_inputs.specs.declared.line_faults.LineFaults.{LineFaults}
use Rattle.all_inputs.specs.declared.overall.Overall.{Overall}
use Rattle.all_inputs.specs.Faulting.{May, all_kinds, kinds_of, reason_for, single}
use Rattle.all_inputs.specs.Overall.{IsFaultAt, IsToldOf, single_fault}

-- ---- lists of one

behind : {X : Type 0} (x y : X) (xs : List X) → Contains xs y → Contains (x ∷ xs) y
behind x y xs (k, lt, e) = (suc k, omega arith, e)

kept_step : {X : Type 0} (t : X → Bool) (a x : X) (xs : List X) (b : Bool) → Contains (filter t xs) x →
    Contains (cond b (a ∷ filter t xs) (filter t xs)) x
kept_step t a x xs true h = behind a x (filter t xs) h
kept_step t a x xs false h = h

-- what passes the test is among what does
kept : {X : Type 0} (t : X → Bool) (xs : List X) (x : X) → Contains xs x → t x ≡ true → Contains (filter t xs) x
kept t [] x (k, lt, e) h = absurd (omega arith)
kept {X} t (a ∷ xs) x (zero, lt, e) h =
    subst (λ (b : Bool). Contains (cond b (a ∷ filter t xs) (filter t xs)) x) (sym (ap t e ∙ h)) (0, omega arith, e)
kept t (a ∷ xs) x (suc k, lt, e) h = kept_step t a x xs (t a) (kept t xs x (k, omega arith, e) h)

-- the one item is each item
one_alone : {X : Type 0} (xs : List X) (x y : X) → single xs ≡ Some x → Contains xs y → y ≡ x
one_alone [] x y one (k, lt, e) = absurd (omega arith)
one_alone (a ∷ []) x y one (zero, lt, e) = sym e ∙ cc one
one_alone (a ∷ []) x y one (suc k, lt, e) = absurd (omega arith)
one_alone (a ∷ b ∷ xs) x y one (k, lt, e) = absurd (cc one)

-- ---- faults

each_kind : (kind : Kind) → Contains all_kinds kind
each_kind Overflow = (0, omega arith, refl)
each_kind DivideByZero = (1, omega arith, refl)
each_kind OutOfRange = (2, omega arith, refl)
each_kind TooWide = (3, omega arith, refl)
each_kind ReadConflict = (4, omega arith, refl)
each_kind WriteConflict = (5, omega arith, refl)

-- the one kind of an entry is that of each fault that may come
one_kind : (e : LineFaults) (f : ℕ × Kind) (o : Option Kind) → o ≡ single (kinds_of e.faults) →
    option_map (λ (k : Kind). (e.line, k)) o ≡ Some f → (kind : Kind) → May kind e.faults → (e.line ≡ f.0) × (kind ≡ f.1)
one_kind e f None from one kind may = absurd (cc one)
one_kind e f (Some k) from one kind may =
    let same : (e.line, k) ≡ f = cc one in
    let is : kind ≡ k = one_alone (kinds_of e.faults) k kind (sym from)
    (kept (λ (q : Kind). is_some (reason_for q e.faults)) all_kinds kind (each_kind kind) may) in
    (ap (λ (p : ℕ × Kind). p.0) same, is ∙ ap (λ (p : ℕ × Kind). p.1) same)

-- the one fault is each that may come
one_fault : (es : List LineFaults) (f : ℕ × Kind) → single_fault es ≡ Some f → (e : LineFaults) → Contains es e →
    (kind : Kind) → May kind e.faults → (e.line ≡ f.0) × (kind ≡ f.1)
one_fault [] f one e (k, lt, is) kind may = absurd (cc one)
one_fault (a ∷ []) f one e (zero, lt, is) kind may =
    subst (λ (x : LineFaults). May kind x.faults → (x.line ≡ f.0) × (kind ≡ f.1)) is
    (one_kind a f (single (kinds_of a.faults)) refl one kind) may
one_fault (a ∷ []) f one e (suc k, lt, is) kind may = absurd (omega arith)
one_fault (a ∷ b ∷ es) f one e (k, lt, is) kind may = absurd (cc one)

-- ---- verdicts

not_ended : {X : Type 0} (o : Option X) (P : X → Type 0) → is_some o ≡ false → IsSomeAnd o P → ⊥
not_ended None P none h = h
not_ended (Some x) P none h = cc none

faults_so : (o : Overall) (f : ℕ × Kind) → o.told.may_go_on ≡ false → is_some o.end ≡ false → single_fault o.told.lines.items ≡ Some f →
    (layout : List SharedEntry) (v : Verdict) → IsToldOf layout o v → IsFaultAt f.0 f.1 v
faults_so o f stops none one layout (Ended output memory) told = absurd (not_ended o.end _ none told)
faults_so o f stops none one layout (Faulted fault output) told =
    let both = one_fault o.told.lines.items f one told.entry told.among fault.kind told.may in
    (sym told.line_is ∙ both.0, both.1)
faults_so o f stops none one layout (GoesOn output) told = absurd (cc (sym stops ∙ told))

-- where no run may go on and none ends, each faults by the one fault that is told
pub certain : (o : Overall) (r : Option (ℕ × Kind)) → o.told.may_go_on ≡ false → is_some o.end ≡ false →
    r ≡ single_fault o.told.lines.items →
    IfSome r (λ f. (layout : List SharedEntry) (v : Verdict) → IsToldOf layout o v → IsFaultAt f.0 f.1 v)
certain o None stops none is = tt
certain o (Some f) stops none is = faults_so o f stops none (sym is)
