-- What is told with smaller inputs.
use Rattle.std.proofs.Common.{◌≡◌, ◌∙◌, ℕ, Bool, true, false, Option, Some, None, List, [], ◌∷◌, ◌++◌, ℤ}
use Rattle.std.proofs.Common.{refl, sym, ap, subst, arith}
use Rattle.std.proofs.lemmas.List.Elements.{All-cons, All-head, All-nil, All-tail, All-weaker}
use Rattle.std.specs.List.{All, Contains, filter}
use Rattle.std.specs.Prelude.{slice_get}
use Rattle.pram_check.specs.Checked.{Checked}
use Rattle.write_rules.specs.declared.fault.Fault.{Fault}
use Rattle.scopes.specs.Firsts.{Met, are_alike}
use Rattle.scopes.specs.Found.{found}
use Rattle.scopes.specs.Runs.{fault_of, is_going_on, verdict_on}
use Rattle.scopes.specs.Scopes.{inputs_of}
use Rattle.scopes.specs.Shrunk.{AreShrunkMet, IsShrunkInput, IsShrunkMet}
use Rattle.scopes.specs.Specified.{counting, fails}
use Rattle.scopes.specs.Wrong.{goes_wrong, is_like}
use Rattle.scopes.specs.declared.scope.Scope.{Scope}
use Rattle.scopes.specs.declared.specification.Specification.{Specification}
use Rattle.scopes.specs.declared.wrong.Wrong.TheVariants.{Faults, GoesOn, Fails}
use Rattle.scopes.proofs.InScope.{there_wrong, wrong_there}
use Rattle.scopes.proofs.Lists.{from_filter}
use Rattle.scopes.proofs.Shrinkings.{keeps_wanted}
use Rattle.scopes.proofs.Told.{alike_itself, occur}

-- ---- faults

-- the fault that is like another
pub like_it : (f g : Fault) (o : Option Fault) → o ≡ Some g → is_like f o ≡ true → are_alike f g ≡ true
like_it f g o is like = sym (ap (is_like f) is) ∙ like

pub some_like : (f : Fault) (o : Option Fault) → is_like f o ≡ true → (g : Fault) × (o ≡ Some g)
some_like f None like = absurd (let P : false ≡ true → ⊥ = λ k. cc in P like)
some_like f (Some g) like = (g, refl)

-- on what is found it goes wrong so
pub all_wrong : (s : Scope) (t : Specification) (p : Checked) (n : ℕ) →
    All (λ (m : Met). goes_wrong s t p n (Faults m.fault) m.input ≡ true) (found t p n (inputs_of s)).faults
all_wrong s t p n =
    All-weaker (λ (m : Met). Contains (counting t.precondition n (inputs_of s)) m.input × (fault_of (verdict_on p n m.input) ≡ Some m.fault))
    (λ (m : Met). goes_wrong s t p n (Faults m.fault) m.input ≡ true)
    (λ m h. there_wrong s t p n (Faults m.fault) m.input h.0 (ap (is_like m.fault) h.1 ∙ alike_itself m.fault))
    (found t p n (inputs_of s)).faults (occur t p n (inputs_of s))

-- what it shrinks to goes wrong too
still_wrong : (s : Scope) (t : Specification) (p : Checked) (n : ℕ) (m q : Met) → goes_wrong s t p n (Faults m.fault) m.input ≡ true →
    IsShrunkMet s t p n m q → goes_wrong s t p n (Faults m.fault) q.input ≡ true
still_wrong s t p n m q h shrunk = keeps_wanted (goes_wrong s t p n (Faults m.fault)) m.input q.input shrunk.input h

pub still_alike : (s : Scope) (t : Specification) (p : Checked) (n : ℕ) (m q : Met) → goes_wrong s t p n (Faults m.fault) m.input ≡ true →
    IsShrunkMet s t p n m q → are_alike m.fault q.fault ≡ true
still_alike s t p n m q h shrunk =
    like_it m.fault q.fault (fault_of (verdict_on p n q.input)) shrunk.fault
    (wrong_there s t p n (Faults m.fault) q.input (still_wrong s t p n m q h shrunk)).1

pub faults_told : (s : Scope) (t : Specification) (p : Checked) (n : ℕ) (ms qs : List Met) → AreShrunkMet s t p n ms qs →
    All (λ (m : Met). goes_wrong s t p n (Faults m.fault) m.input ≡ true) ms →
    All (λ (m : Met). Contains (counting t.precondition n (inputs_of s)) m.input × (fault_of (verdict_on p n m.input) ≡ Some m.fault)) qs
faults_told s t p n [] qs shrunk all =
    let P : Met → Type 0 = λ m. Contains (counting t.precondition n (inputs_of s)) m.input × (fault_of (verdict_on p n m.input) ≡ Some m.fault) in
    subst (All P) (sym shrunk) (All-nil P)
faults_told s t p n (m ∷ ms) [] shrunk all = absurd shrunk
faults_told s t p n (m ∷ ms) (q ∷ qs) shrunk all =
    let P : Met → Type 0 = λ m. Contains (counting t.precondition n (inputs_of s)) m.input × (fault_of (verdict_on p n m.input) ≡ Some m.fault) in
    let W : Met → Type 0 = λ m. goes_wrong s t p n (Faults m.fault) m.input ≡ true in
    let here = still_wrong s t p n m q (All-head W m ms all) shrunk.0 in
    All-cons P q qs ((wrong_there s t p n (Faults m.fault) q.input here).0, shrunk.0.fault)
    (faults_told s t p n ms qs shrunk.1 (All-tail W m ms all))

-- one more
pub shrunk_push : (s : Scope) (t : Specification) (p : Checked) (n : ℕ) (ms qs : List Met) (m q : Met) → AreShrunkMet s t p n ms qs →
    IsShrunkMet s t p n m q → AreShrunkMet s t p n (ms ++ m ∷ []) (qs ++ q ∷ [])
shrunk_push s t p n [] qs m q shrunk one =
    subst (λ (rs : List Met). AreShrunkMet s t p n (m ∷ []) (rs ++ q ∷ [])) (sym shrunk) (one, refl)
shrunk_push s t p n (a ∷ ms) [] m q shrunk one = absurd shrunk
shrunk_push s t p n (a ∷ ms) (b ∷ qs) m q shrunk one = (shrunk.0, shrunk_push s t p n ms qs m q shrunk.1 one)

-- ---- inputs

first_in : (xs : List (List ℤ)) (x : List ℤ) → slice_get xs 0 ≡ Some x → Contains xs x
first_in [] x is = absurd (let P : None ≡ Some x → ⊥ = λ k. cc in P is)
first_in (y ∷ xs) x is = let e : y ≡ x = cc in (0, omega arith, e)

-- what is told in the place of an input that is wanted is wanted
pub input_told : (wanted : List ℤ → Bool) (o told : Option (List ℤ)) (zs : List ℤ) → IsShrunkInput wanted o told →
    ((xs : List ℤ) → o ≡ Some xs → wanted xs ≡ true) → told ≡ Some zs → wanted zs ≡ true
input_told wanted None told zs shrunk h is = absurd (let P : None ≡ Some zs → ⊥ = λ k. cc in P (sym shrunk ∙ is))
input_told wanted (Some xs) None zs shrunk h is = absurd (let P : None ≡ Some zs → ⊥ = λ k. cc in P is)
input_told wanted (Some xs) (Some ys) zs shrunk h is =
    let e : ys ≡ zs = cc in
    subst (λ (us : List ℤ). wanted us ≡ true) e (keeps_wanted wanted xs ys shrunk (h xs refl))

pub goes_on_wrong : (s : Scope) (t : Specification) (p : Checked) (n : ℕ) (xs : List ℤ) →
    (found t p n (inputs_of s)).goes_on_at ≡ Some xs → goes_wrong s t p n GoesOn xs ≡ true
goes_on_wrong s t p n xs is =
    let all = counting t.precondition n (inputs_of s) in
    let test : List ℤ → Bool = λ x. is_going_on (verdict_on p n x) in
    let h = from_filter test all xs (first_in (filter test all) xs is) in
    there_wrong s t p n GoesOn xs h.0 h.1

pub fails_wrong : (s : Scope) (t : Specification) (p : Checked) (n : ℕ) (xs : List ℤ) →
    (found t p n (inputs_of s)).fails_at ≡ Some xs → goes_wrong s t p n Fails xs ≡ true
fails_wrong s t p n xs is =
    let all = counting t.precondition n (inputs_of s) in
    let test : List ℤ → Bool = fails t.postcondition p n in
    let h = from_filter test all xs (first_in (filter test all) xs is) in
    there_wrong s t p n Fails xs h.0 h.1
