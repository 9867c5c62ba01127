-- A run looks neither at how many statements have run nor at what was printed: the parts.
use Rattle.std.proofs.Common.{◌≡◌, ℕ, zero, suc, ◌+◌, List, [], Bool, true, false, Result, ℤ, pos, ◌+ℤ◌}
use Rattle.std.proofs.Common.{ap, refl, subst, sym}
use Rattle.pram_check.specs.Checked.{Checked}
use Rattle.pram_names.specs.declared.body.Expression.{Expression}
use Rattle.pram_meaning.specs.Attempt.{Attempt, attempt}
use Rattle.pram_meaning.specs.Meaning as relation
use Rattle.pram_meaning.specs.Meaning.{Begins, Does, Either, Ends, Evaluated, Fate, Fates, ForTurns, IsEnd, Tested, Then, Turns, Yields}
use Rattle.pram_meaning.specs.Meaning.{at_fault, at_start, begins, faults, on, waits, yields}
use Rattle.pram_meaning.specs.Store.{State, seen, with_uniform}
use Rattle.pram_meaning.specs.Together.{alone}
use Rattle.pram_values.specs.Truth.{is_nonzero}
use Rattle.write_rules.specs.declared.fault.Fault.{Fault}

-- the same state, but for these two
abbrev pub moved : ℕ → List ℤ → State → State
moved c out m = record m { count = c; output = out }

-- the same fate, but for these two
abbrev pub Like : {A : Type 0} → Fate A → Fate A → Type 0
Like (Ends a m) f = (c : ℕ) × (out : List ℤ) × (f ≡ Ends a (moved c out m))
Like (relation.Stops k c out) f = (d : ℕ) × (o : List ℤ) × (f ≡ relation.Stops k d o)
Like (relation.Reaches c out) f = (d : ℕ) × (o : List ℤ) × (f ≡ relation.Reaches d o)

-- what a relation tells of a state, it tells so of one that is the same but for these two
abbrev pub IsBlind : {A : Type 0} → (State → Fates A) → Type 0
IsBlind {A} M = (m : State) (c : ℕ) (out : List ℤ) (f : Fate A) → M m f → (g : Fate A) × M (moved c out m) g × Like f g

pub blind_then : {A B : Type 0} (M : State → Fates A) (N : A → State → Fates B) → IsBlind M → ((a : A) → IsBlind (N a)) →
    IsBlind (λ m. Then A B (M m) N)
blind_then M N first rest m c out f (on {a} {m = k} p q) =
    let x = first m c out (Ends a k) p in
    let l = x.2 in
    let y = rest a k l.0 l.1 f q in (y.0, on (subst (M (moved c out m)) l.2 x.1) y.1, y.2)
blind_then M N first rest m c out f (at_fault {k} {c = d} {out = o} p) =
    let x = first m c out (relation.Stops k d o) p in
    let l = x.2 in (relation.Stops k l.0 l.1, at_fault (subst (M (moved c out m)) l.2 x.1), (l.0, l.1, refl))
blind_then M N first rest m c out f (at_start {c = d} {out = o} p) =
    let x = first m c out (relation.Reaches d o) p in
    let l = x.2 in (relation.Reaches l.0 l.1, at_start (subst (M (moved c out m)) l.2 x.1), (l.0, l.1, refl))

pub blind_begins : IsBlind Begins
blind_begins m c out f begins = (Ends tt (moved (c + 1) out m), begins, (c + 1, out, refl))
blind_begins m c out f waits = (relation.Reaches c out, waits, (c, out, refl))

pub blind_yields : {A : Type 0} (r : Result A Fault) → IsBlind (λ m. Yields A m r)
blind_yields r m c out f (yields {a}) = (Ends a (moved c out m), yields, (c, out, refl))
blind_yields r m c out f (faults {k}) = (relation.Stops k c out, faults, (c, out, refl))

-- a value, which is found from what both states have in common
pub blind_value : {A : Type 0} (r : State → Result A Fault) → ((m : State) (c : ℕ) (out : List ℤ) → r (moved c out m) ≡ r m) →
    IsBlind (λ m. Then (Unit {0}) A (Begins m) (λ u m. Yields A m (r m)))
blind_value {A} r same = blind_then Begins (λ u m. Yields A m (r m)) blind_begins (λ u m c out f y.
    let x = blind_yields (r m) m c out f y in (x.0, subst (λ v. Yields A (moved c out m) v x.0) (sym (same m c out)) x.1, x.2))

pub blind_evaluated : {A : Type 0} (line : ℕ) (a : State → Attempt A) → ((m : State) (c : ℕ) (out : List ℤ) → a (moved c out m) ≡ a m) →
    IsBlind (Evaluated line a)
blind_evaluated line a same = blind_value (λ m. alone line (a m)) (λ m c out. ap (alone line) (same m c out))

-- a step that only changes the store
pub blind_end : {A : Type 0} (a : A) (g : State → State)
    → ((m : State) (c : ℕ) (out : List ℤ) → (d : ℕ) × (o : List ℤ) × (g (moved c out m) ≡ moved d o (g m))) → IsBlind (λ m. IsEnd a (g m))
blind_end a g same m c out f e =
    let s = same m c out in
    (Ends a (g (moved c out m)), refl, subst (λ f. Like f (Ends a (g (moved c out m)))) (sym e) (s.0, s.1, ap (Ends a) s.2))

pub blind_nothing : {A : Type 0} (a : A) → IsBlind (λ m. IsEnd a m)
blind_nothing a = blind_end a (λ m. m) (λ m c out. (c, out, refl))

pub blind_tested : (w : Checked) (line : ℕ) (e : Expression) → IsBlind (Tested w line e)
blind_tested w line e = blind_then (Evaluated line (λ m. attempt (seen w m) e [])) (λ v m. IsEnd (is_nonzero v) m)
    (blind_evaluated line (λ m. attempt (seen w m) e []) (λ m c out. refl)) (λ v. blind_nothing (is_nonzero v))

pub blind_either : (z : Bool) (M N : State → Does) → IsBlind M → IsBlind N → IsBlind (λ m. Either z (M m) (N m))
blind_either true M N p q = p
blind_either false M N p q = q

-- ---- loops

pub blind_turns : (T : State → Fates Bool) (B : State → Does) → IsBlind T → IsBlind B → (k : ℕ) → IsBlind (Turns k T B)
blind_turns T B t b zero m c out f r = absurd r
blind_turns T B t b (suc k) m c out f r =
    blind_then T (λ z m. Either z (Then (Unit {0}) (Unit {0}) (B m) (λ u. Turns k T B)) (IsEnd tt m)) t
    (λ z. blind_either z (λ m. Then (Unit {0}) (Unit {0}) (B m) (λ u. Turns k T B)) (λ m. IsEnd tt m)
    (blind_then B (λ u. Turns k T B) b (λ u. blind_turns T B t b k)) (blind_nothing tt)) m c out f r

pub blind_for : (B : State → Does) → IsBlind B → (k x : ℕ) (a : ℤ) → IsBlind (ForTurns k x a B)
blind_for B b zero x a = blind_nothing tt
blind_for B b (suc k) x a =
    blind_then Begins (λ u m. Then (Unit {0}) (Unit {0}) (B (with_uniform x a m)) (λ u. ForTurns k x (a +ℤ pos 1) B)) blind_begins
    (λ u. blind_then (λ m. B (with_uniform x a m)) (λ u. ForTurns k x (a +ℤ pos 1) B) (λ m. b (with_uniform x a m))
    (λ u. blind_for B b k x (a +ℤ pos 1)))
