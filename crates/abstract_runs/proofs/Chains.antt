-- A chain of operations, operand by operand.
use Rattle.std.proofs.Common.{◌≡◌, ℕ, [], ◌∷◌, ◌⊎◌, inl, inr, ℤ, List, Option, Some, None, refl, ap, sym, subst, ◌∙◌, length, drop, get_or}
use Rattle.std.proofs.Common.{◌<◌, ◌≤◌, ◌+◌, Global, Box, Vec, append-nil}
use Rattle.std.proofs.lemmas.List.{drop_more, drop_all}
use Rattle.pram_values.specs.declared.kind.Kind.{Kind}
use Rattle.pram_names.specs.declared.body.Expression.{Chain, Expression}
use Rattle.pram_names.specs.declared.body.Link.{Link}
use Rattle.pram_meaning.specs.Attempt.{Attempt, Gives, Fails, Trail, attempt, and_then, operation}
use Rattle.pram_meaning.specs.Operation.{operate}
use Rattle.pram_meaning.specs.Store.{View}
use Rattle.pram_meaning.proofs.Links.{attempt_items, attempt_chain}
use Rattle.intervals.specs.declared.interval.Interval.{Interval}
use Rattle.intervals.specs.Intervals.{IsIn}
use Rattle.abstract_runs.specs.declared.findings.Findings.{Findings}
use Rattle.abstract_runs.specs.declared.outlook as outlook
use Rattle.abstract_runs.specs.Covers.{IsAmong, Shows}
use Rattle.abstract_runs.specs.Finding.{MayBy, AreKept}
use Rattle.abstract_runs.specs.Tried.{EndsAt, GoesThrough, IsTried, IsLonger}
use Rattle.abstract_runs.proofs.Trails.{Reaches, ends_longer, longer_then, tried_then}

-- it has failed along the positions
pub record HasFailed (more : Reaches) (faults : Findings) (a : Attempt ℤ) : Type 0 where
  pub trail : Trail
  pub kind : Kind
  pub fails : a ≡ Fails trail kind
  pub along : EndsAt more trail
  pub may : MayBy kind (length trail) faults

-- it goes on from a value of the interval, behind the positions, with what is left of the chain
pub record GoesOn (s : View) (more : Reaches) (links : List Link) (value : Interval) (a : Attempt ℤ) : Type 0 where
  pub trail : Trail
  pub from : ℤ
  pub rest : a ≡ attempt_items s links trail from
  pub among : IsIn from value
  pub through : GoesThrough more trail

abbrev pub Comes : View → Reaches → Findings → List Link → Interval → Attempt ℤ → Type 0
Comes s more faults links value a = HasFailed more faults a ⊎ GoesOn s more links value a

abbrev pub IsOnWay : outlook.Outlook.Outlook → (rs more : Reaches) → Findings → Expression → List Link → Interval → Type 0
IsOnWay known rs more faults e links value =
    (s : View) (t : Trail) → Shows known s → GoesThrough rs t → Comes s more faults links value (attempt s e t)

failed_on : (more end : Reaches) (faults all : Findings) (a : Attempt ℤ) → HasFailed more faults a → IsLonger more end →
    AreKept faults all →
    HasFailed end all a
failed_on more end faults all a h l k = record {
  trail = h.trail;
  kind = h.kind;
  fails = h.fails;
  along = ends_longer more end h.trail l h.along;
  may = k h.kind (length h.trail) h.may;
}

failed_is : (Q : ℤ → Type 0) (more : Reaches) (faults : Findings) (a : Attempt ℤ) → HasFailed more faults a → IsTried Q more faults a
failed_is Q more faults a h = subst (IsTried Q more faults) (sym h.fails) (h.along, h.may)

-- an attempt, and then the chain from what it gives
then_comes : (P : ℤ → Type 0) (s : View) (mid end : Reaches) (some all : Findings) (links : List Link) (value : Interval) (a : Attempt ℤ)
    (f : Trail → ℤ → Attempt ℤ) → IsTried P mid some a → IsLonger mid end → AreKept some all →
    ((t : Trail) (x : ℤ) → P x → GoesThrough mid t → Comes s end all links value (f t x)) → Comes s end all links value (and_then a f)
then_comes P s mid end some all links value (Gives t x) f h l k g = g t x h.0 h.1
then_comes P s mid end some all links value (Fails t kind) f h l k g =
    inl (record { trail = t; kind = kind; fails = refl; along = ends_longer mid end t l h.0; may = k kind (length t) h.1 })

-- the first operand
pub comes_first : (s : View) (e x : Expression) (first : Box Expression Global) (links : Vec Link Global) (xs : List Link) (more : Reaches)
    (faults : Findings) (o : Option Interval) (value : Interval) (t : Trail) → e ≡ Chain first links → x ≡ first.value → xs ≡ links.items →
    o ≡ Some value → IsTried (IsAmong o) more faults (attempt s x t) → Comes s more faults xs value (attempt s e t)
comes_first s e x first links xs more faults o value t is from same some h =
    subst (Comes s more faults xs value) (sym whole)
    (then_comes (IsAmong (Some value)) s more more faults faults xs value (attempt s x t) (attempt_items s xs)
    (subst (λ o. IsTried (IsAmong o) more faults (attempt s x t)) some h) ([], sym (append-nil more)) (λ kind at may. may)
    (λ t v i g. inr (record { trail = t; from = v; rest = refl; among = i; through = g })))
  where
    whole : attempt s e t ≡ and_then (attempt s x t) (attempt_items s xs)
    whole = ap (λ e. attempt s e t) is ∙ attempt_chain s first links t
        ∙ (λ j. and_then (attempt s (sym from j) t) (attempt_items s (sym same j)))

-- what has come goes on as the rest does
on_from : (s : View) (more end : Reaches) (faults all : Findings) (links next : List Link) (value given : Interval) (a : Attempt ℤ) →
    Comes s more faults links value a → IsLonger more end → AreKept faults all →
    ((t : Trail) (v : ℤ) → IsIn v value → GoesThrough more t → Comes s end all next given (attempt_items s links t v)) →
    Comes s end all next given a
on_from s more end faults all links next value given a (inl h) l k g = inl (failed_on more end faults all a h l k)
on_from s more end faults all links next value given a (inr h) l k g =
    subst (Comes s end all next given) (sym h.rest) (g h.trail h.from h.among h.through)

-- the rest of a chain, by its first link
opened : (s : View) (items : List Link) (i : ℕ) (l : Link) (t : Trail) (v : ℤ) → i < length items → l ≡ get_or items i l →
    attempt_items s (drop i items) t v
    ≡ and_then (attempt s l.operand t) (λ t w. and_then (operation (operate l.operator v w) t) (attempt_items s (drop (i + 1) items)))
opened s items i l t v h is =
    ap (λ xs. attempt_items s xs t v) (drop_more items i l h ∙ ap (λ x. x ∷ drop (i + 1) items) (sym is))

-- one link more
pub comes_on : (s : View) (a : Attempt ℤ) (items : List Link) (i : ℕ) (l : Link) (more mid end : Reaches) (faults some all : Findings)
    (value operand given : Interval) (o g : Option Interval) → Comes s more faults (drop i items) value a → i < length items →
    l ≡ get_or items i l → ((t : Trail) → GoesThrough more t → IsTried (IsAmong o) mid some (attempt s l.operand t)) → o ≡ Some operand →
    IsLonger more mid → AreKept faults some →
    ((x y : ℤ) (t : Trail) → IsIn x value → IsIn y operand → GoesThrough mid t →
    IsTried (IsAmong g) end all (operation (operate l.operator x y) t)) →
    g ≡ Some given → IsLonger mid end → AreKept some all → Comes s end all (drop (i + 1) items) given a
comes_on s a items i l more mid end faults some all value operand given o g h below is tried o_is longer kept told g_is on all_kept =
    on_from s more end faults all (drop i items) (drop (i + 1) items) value given a h (longer_then more mid end longer on)
    (λ kind at may. all_kept kind at (kept kind at may))
    (λ t v among through. subst (Comes s end all (drop (i + 1) items) given) (sym (opened s items i l t v below is))
    (then_comes (IsAmong (Some operand)) s mid end some all (drop (i + 1) items) given (attempt s l.operand t) _
    (subst (λ o. IsTried (IsAmong o) mid some (attempt s l.operand t)) o_is (tried t through)) on all_kept
    (λ t2 w here through2. then_comes (IsAmong (Some given)) s end end all all (drop (i + 1) items) given
    (operation (operate l.operator v w) t2)
    (attempt_items s (drop (i + 1) items))
    (subst (λ g. IsTried (IsAmong g) end all (operation (operate l.operator v w) t2)) g_is (told v w t2 among here through2))
    ([], sym (append-nil end)) (λ kind at may. may)
    (λ t3 u inside through3. inr (record { trail = t3; from = u; rest = refl; among = inside; through = through3 })))))

-- an attempt that gives nothing fails
nothing_then : {A : Type 0} (Q : A → Type 0) (mid : Reaches) (some : Findings) (a : Attempt ℤ) (f : Trail → ℤ → Attempt A)
    (o : Option Interval) →
    o ≡ None → IsTried (IsAmong o) mid some a → IsTried Q mid some (and_then a f)
nothing_then Q mid some (Gives t x) f o none h = absurd (subst (λ o. IsAmong o x) none h.0)
nothing_then Q mid some (Fails t kind) f o none h = h

-- an operand that always faults
pub operand_stops : (s : View) (a : Attempt ℤ) (items : List Link) (i : ℕ) (l : Link) (more mid : Reaches) (faults some : Findings)
    (value : Interval) (o : Option Interval) → Comes s more faults (drop i items) value a → i < length items → l ≡ get_or items i l →
    ((t : Trail) → GoesThrough more t → IsTried (IsAmong o) mid some (attempt s l.operand t)) → o ≡ None → IsLonger more mid →
    AreKept faults some → IsTried (IsAmong None) mid some a
operand_stops s a items i l more mid faults some value o (inl h) below is tried none longer kept =
    failed_is (IsAmong None) mid some a (failed_on more mid faults some a h longer kept)
operand_stops s a items i l more mid faults some value o (inr h) below is tried none longer kept =
    subst (IsTried (IsAmong None) mid some) (sym (h.rest ∙ opened s items i l h.trail h.from below is))
    (nothing_then (IsAmong None) mid some (attempt s l.operand h.trail) _ o none (tried h.trail h.through))

-- an operation that always faults
pub operation_stops : (s : View) (a : Attempt ℤ) (items : List Link) (i : ℕ) (l : Link) (more mid end : Reaches)
    (faults some all : Findings)
    (value operand : Interval) (o g : Option Interval) → Comes s more faults (drop i items) value a → i < length items →
    l ≡ get_or items i l → ((t : Trail) → GoesThrough more t → IsTried (IsAmong o) mid some (attempt s l.operand t)) → o ≡ Some operand →
    IsLonger more mid → AreKept faults some →
    ((x y : ℤ) (t : Trail) → IsIn x value → IsIn y operand → GoesThrough mid t →
    IsTried (IsAmong g) end all (operation (operate l.operator x y) t)) →
    g ≡ None → IsLonger mid end → AreKept some all → IsTried (IsAmong None) end all a
operation_stops s a items i l more mid end faults some all value operand o g (inl h) below is tried o_is longer kept told none on all_kept =
    failed_is (IsAmong None) end all a
    (failed_on more end faults all a h (longer_then more mid end longer on) (λ kind at may. all_kept kind at (kept kind at may)))
operation_stops s a items i l more mid end faults some all value operand o g (inr h) below is tried o_is longer kept told none on all_kept =
    subst (IsTried (IsAmong None) end all) (sym (h.rest ∙ opened s items i l h.trail h.from below is))
    (tried_then (IsAmong (Some operand)) (IsAmong None) mid end some all (attempt s l.operand h.trail) _
    (subst (λ o. IsTried (IsAmong o) mid some (attempt s l.operand h.trail)) o_is (tried h.trail h.through)) on all_kept
    (λ t w here through. nothing_then (IsAmong None) end all (operation (operate l.operator h.from w) t) _ g none
    (told h.from w t h.among here through)))

-- the last one
pub comes_last : (s : View) (a : Attempt ℤ) (items : List Link) (i : ℕ) (more : Reaches) (faults : Findings) (value : Interval) →
    Comes s more faults (drop i items) value a → length items ≤ i → IsTried (IsAmong (Some value)) more faults a
comes_last s a items i more faults value (inl h) past = failed_is (IsAmong (Some value)) more faults a h
comes_last s a items i more faults value (inr h) past =
    subst (IsTried (IsAmong (Some value)) more faults)
    (sym (h.rest ∙ ap (λ xs. attempt_items s xs h.trail h.from) (drop_all i items past))) (h.among, h.through)
