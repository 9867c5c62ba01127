-- Two runs side by side: where the first comes to no conflict, the second comes to the same.
use Rattle.std.proofs.Common.{◌≡◌, ◌∙◌, ℕ, zero, suc, ◌+◌, ℤ, pos, ◌+ℤ◌, Bool, true, false, List, [], ◌∷◌, ap, if◌then◌else◌, nat_lt, refl}
use Rattle.pram_model.specs.declared.rule.Rule.{Rule}
use Rattle.pram_meaning.specs.Attempt.{Attempt, Fails, Gives}
use Rattle.pram_meaning.specs.Bounded.{Behaviour, Done, Goes, Reaches, Stops, counted, evaluated, for_turns, then_do, turns, turns_on}
use Rattle.pram_meaning.specs.Bounded.{unless_none, valued}
use Rattle.pram_meaning.specs.Conflict.{Part}
use Rattle.pram_meaning.specs.Store.{State, with_uniform}
use Rattle.pram_meaning.specs.Together.{alone, those}
use Rattle.pram_meaning.specs.Values.{ComesToValues, HasValues, IsValue}
use Rattle.pram_meaning.proofs.SoundValues.{AreNumbers, all_set, numbers_first, numbers_rest}
use Rattle.pram_meaning.proofs.ValuesOfAttempts.{IfGives}
use Rattle.rule_laws.proofs.OneCell.{Needs}
use Rattle.rule_laws.proofs.OneStatement.{IsForbidden}

-- no fault of a kind that the rule forbids
abbrev pub Lawful : {A : Type 0} → Rule → Behaviour A → Type 0
Lawful r (Goes a m) = Unit {0}
Lawful r (Stops k out) = IsForbidden r k.kind → ⊥
Lawful r (Reaches out) = Unit {0}

abbrev pub Same : {A : Type 0} → Rule → Behaviour A → Behaviour A → Type 0
Same r b c = Lawful r b → c ≡ b

-- what is known where a run goes on
abbrev pub Holds : {A : Type 0} → (A → State → Type 0) → Behaviour A → Type 0
Holds P (Goes a m) = P a m
Holds P (Stops k out) = Unit {0}
Holds P (Reaches out) = Unit {0}

-- a state that suits the rule: under sum its values have 64 bits
abbrev pub Fit : Rule → State → Type 0
Fit s m = Needs s (HasValues m)

abbrev pub GoesFit : {A : Type 0} → Rule → Behaviour A → Type 0
GoesFit s = Holds (λ a m. Fit s m)

abbrev pub Anywhere : {A : Type 0} → A → State → Type 0
Anywhere a m = Unit {0}

pub anywhere : {A : Type 0} (b : Behaviour A) → Holds Anywhere b
anywhere (Goes a m) = tt
anywhere (Stops k out) = tt
anywhere (Reaches out) = tt

pub itself : {A : Type 0} (r : Rule) (b : Behaviour A) → Same r b b
itself r b lawful = refl

pub holds_then : {A B : Type 0} (P : A → State → Type 0) (Q : B → State → Type 0) (b : Behaviour A) (f : A → State → Behaviour B) →
    Holds P b → ((a : A) (m : State) → P a m → Holds Q (f a m)) → Holds Q (then_do b f)
holds_then P Q (Goes a m) f h rest = rest a m h
holds_then P Q (Stops k out) f h rest = tt
holds_then P Q (Reaches out) f h rest = tt

pub same_then : {A B : Type 0} (r : Rule) (P : A → State → Type 0) (b c : Behaviour A) (f g : A → State → Behaviour B) → Same r b c →
    Holds P b → ((a : A) (m : State) → P a m → Same r (f a m) (g a m)) → Same r (then_do b f) (then_do c g)
same_then r P (Goes a m) c f g same h rest lawful = ap (λ b. then_do b g) (same tt) ∙ rest a m h lawful
same_then r P (Stops k out) c f g same h rest lawful = ap (λ b. then_do b g) (same lawful)
same_then r P (Reaches out) c f g same h rest lawful = ap (λ b. then_do b g) (same tt)

-- ---- states that suit a rule

pub counted_fit : (s : Rule) (n : ℕ) (m : State) → Fit s m → GoesFit s (counted n m)
counted_fit s n m h = by (nat_lt m.count n)
  where
    by : (b : Bool) → GoesFit {A = Unit {0}} s (if b then Goes tt (record m { count = m.count + 1 }) else Reaches m.output)
    by true = λ i. let g = h i in record { output = g.output; uniforms = g.uniforms; cells = g.cells; team = g.team }
    by false = tt

-- a statement's value, where it is needed
abbrev pub GivesFit : {A : Type 0} → Rule → (A → Type 0) → A → State → Type 0
GivesFit s P a m = Needs s (P a) × Fit s m

pub evaluated_fit : {A : Type 0} (s : Rule) (P : A → Type 0) (n line : ℕ) (a : State → Attempt A) (m : State) → Fit s m →
    ((m : State) → Fit s m → Needs s (IfGives P (a m))) → Holds (GivesFit s P) (evaluated n line a m)
evaluated_fit {A} s P n line a m h gives =
    holds_then (λ u m. Fit s m) (GivesFit s P) (counted n m) (λ u m. valued (alone line (a m)) m) (counted_fit s n m h)
    (λ u m fit. by m fit (a m) (gives m fit))
  where
    by : (m : State) → Fit s m → (o : Attempt A) → Needs s (IfGives P o) → Holds (GivesFit s P) (valued (alone line o) m)
    by m fit (Gives t c) is = (is, fit)
    by m fit (Fails t k) is = tt

abbrev pub Any : {A : Type 0} → A → Type 0
Any a = Unit {0}

pub gives_any : {A : Type 0} (a : Attempt A) → IfGives Any a
gives_any (Gives t c) = tt
gives_any (Fails t k) = tt

pub evaluated_goes : {A : Type 0} (s : Rule) (n line : ℕ) (a : State → Attempt A) (m : State) → Fit s m →
    Holds (GivesFit s Any) (evaluated n line a m)
evaluated_goes s n line a m h = evaluated_fit s Any n line a m h (λ m fit i. gives_any (a m))

pub kept : (s : Rule) (b : Done) → Needs s (ComesToValues b) → GoesFit s b
kept s (Goes u m) h = h
kept s (Stops k out) h = tt
kept s (Reaches out) h = tt

pub uniform_fit : (s : Rule) (x : ℕ) (v : ℤ) (m : State) → Needs s (IsValue v) → Fit s m → Fit s (with_uniform x v m)
uniform_fit s x v m is fit i =
    let h = fit i in
    record { output = h.output; uniforms = all_set IsValue m.uniforms x v h.uniforms (is i); cells = h.cells; team = h.team }

-- ---- loops

pub turns_same : (r s : Rule) (k : ℕ) (test : State → Behaviour Bool) (f g : State → Done) →
    ((m : State) → Fit s m → GoesFit s (test m)) → ((m : State) → Fit s m → Same r (f m) (g m)) →
    ((m : State) → Fit s m → GoesFit s (f m)) → (m : State) → Fit s m → Same r (turns k test f m) (turns k test g m)
turns_same r s zero test f g t same goes m h = λ lawful. refl
turns_same r s (suc k) test f g t same goes m h =
    same_then r (λ z m. Fit s m) (test m) (test m) (λ z m. if z then then_do (f m) (λ u. turns k test f) else Goes tt m)
    (λ z m. if z then then_do (g m) (λ u. turns k test g) else Goes tt m) (itself r (test m)) (t m h)
    (λ z m fit. one z m
    (same_then r (λ u m. Fit s m) (f m) (g m) (λ u. turns k test f) (λ u. turns k test g) (same m fit) (goes m fit)
    (λ u m fit. turns_same r s k test f g t same goes m fit)))
  where
    one : (z : Bool) (m : State) → Same r (then_do (f m) (λ u. turns k test f)) (then_do (g m) (λ u. turns k test g)) →
        Same r (if z then then_do (f m) (λ u. turns k test f) else Goes tt m)
        (if z then then_do (g m) (λ u. turns k test g) else Goes tt m)
    one true m rest = rest
    one false m rest = λ lawful. refl

pub for_same : (r s : Rule) (n k x : ℕ) (a : ℤ) (f g : State → Done) → Needs s (AreNumbers a k) →
    ((m : State) → Fit s m → Same r (f m) (g m)) → ((m : State) → Fit s m → GoesFit s (f m)) → (m : State) → Fit s m →
    Same r (for_turns n k x a f m) (for_turns n k x a g m)
for_same r s n zero x a f g are same goes m h = λ lawful. refl
for_same r s n (suc k) x a f g are same goes m h =
    same_then r (λ u m. Fit s m) (counted n m) (counted n m)
    (λ u m. then_do (f (with_uniform x a m)) (λ u. for_turns n k x (a +ℤ pos 1) f))
    (λ u m. then_do (g (with_uniform x a m)) (λ u. for_turns n k x (a +ℤ pos 1) g)) (itself r (counted n m)) (counted_fit s n m h)
    (λ u m fit. let set : Fit s (with_uniform x a m) = uniform_fit s x a m (λ i. numbers_first a k (are i)) fit in
    same_then r (λ u m. Fit s m) (f (with_uniform x a m)) (g (with_uniform x a m)) (λ u. for_turns n k x (a +ℤ pos 1) f)
    (λ u. for_turns n k x (a +ℤ pos 1) g) (same (with_uniform x a m) set) (goes (with_uniform x a m) set)
    (λ u m fit. for_same r s n k x (a +ℤ pos 1) f g (λ i. numbers_rest a k (are i)) same goes m fit))

unless_same : (r : Rule) (us : List ℕ) (b c d : Done) → Same r c d → Same r (unless_none us b c) (unless_none us b d)
unless_same r [] b c d same = λ lawful. refl
unless_same r (u ∷ us) b c d same = same

pub turns_on_same : (r s : Rule) (k : ℕ) (test other : List ℕ → State → Behaviour (List Part)) (f g : List ℕ → State → Done) →
    ((vs : List ℕ) (m : State) → Fit s m → Same r (test vs m) (other vs m)) →
    ((vs : List ℕ) (m : State) → Fit s m → GoesFit s (test vs m)) →
    ((vs : List ℕ) (m : State) → Fit s m → Same r (f vs m) (g vs m)) →
    ((vs : List ℕ) (m : State) → Fit s m → GoesFit s (f vs m)) → (vs : List ℕ) (m : State) → Fit s m →
    Same r (turns_on k test f vs m) (turns_on k other g vs m)
turns_on_same r s zero test other f g tests t same goes vs m h = λ lawful. refl
turns_on_same r s (suc k) test other f g tests t same goes vs m h =
    same_then r (λ xs m. Fit s m) (test vs m) (other vs m)
    (λ xs m. unless_none (those true xs) (Goes tt m) (then_do (f (those true xs) m) (λ u. turns_on k test f (those true xs))))
    (λ xs m. unless_none (those true xs) (Goes tt m) (then_do (g (those true xs) m) (λ u. turns_on k other g (those true xs))))
    (tests vs m h) (t vs m h)
    (λ xs m fit. unless_same r (those true xs) (Goes tt m) (then_do (f (those true xs) m) (λ u. turns_on k test f (those true xs)))
    (then_do (g (those true xs) m) (λ u. turns_on k other g (those true xs)))
    (same_then r (λ u m. Fit s m) (f (those true xs) m) (g (those true xs) m) (λ u. turns_on k test f (those true xs))
    (λ u. turns_on k other g (those true xs)) (same (those true xs) m fit) (goes (those true xs) m fit)
    (λ u m fit. turns_on_same r s k test other f g tests t same goes (those true xs) m fit)))
