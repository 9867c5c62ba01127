-- Inputs of a scope on which it goes wrong.
use Rattle.std.proofs.Common.{◌≡◌, ◌≢◌, ◌≤ℤ◌, ◌∙◌, ◌&&◌, ◌||◌, not, ℕ, Bool, true, false, List, [], ◌∷◌, ℤ, length}
use Rattle.std.proofs.Common.{refl, ap, arith, nat_eq}
use Rattle.std.proofs.lemmas.Bool.Decides.{nat_tests}
use Rattle.std.proofs.lemmas.Int.{ints}
use Rattle.std.proofs.lemmas.List.Elements.{All-cons, All-head, All-nil, All-tail}
use Rattle.std.specs.List.{AllPairs, Contains, list_all}
use Rattle.std.specs.Prelude.{int_le}
use Rattle.pram_check.specs.Checked.{Checked}
use Rattle.pram_model.proofs.Truths.{both}
use Rattle.scopes.specs.Lists.{AreWithin, are_apart}
use Rattle.scopes.specs.Runs.{verdict_on}
use Rattle.scopes.specs.Scopes.{inputs_of}
use Rattle.scopes.specs.Shrunk.{ShrinksTo, Stays, Shrinks, smaller}
use Rattle.scopes.specs.Specified.{counting, counts}
use Rattle.scopes.specs.Wrong.{goes_wrong, is_input, is_within, is_wrong}
use Rattle.scopes.specs.declared.scope.Scope.{Scope}
use Rattle.scopes.specs.declared.specification.Specification.{Specification}
use Rattle.scopes.specs.declared.wrong.Wrong.{Wrong}
use Rattle.scopes.proofs.Lists.{from_filter, in_filter}
use Rattle.scopes.proofs.Nearer.{find_has}
use Rattle.scopes.proofs.Those.{just_those, no_pair, pairs_apart}

-- ---- tests

pub all_true : (a b c : Bool) → a ≡ true → b ≡ true → c ≡ true → a && (b && c) ≡ true
all_true a b c e f g = ap (λ t. t && (b && c)) e ∙ ap (λ t. t && c) f ∙ g

within_is : (low high x : ℤ) → (low ≤ℤ x) × (x ≤ℤ high) → is_within low high x ≡ true
within_is low high x h =
    let below : int_le low x ≡ true = grind (arith, ints, h.0) in
    let above : int_le x high ≡ true = grind (arith, ints, h.1) in
    ap (λ t. t && int_le x high) below ∙ above

is_so : (low high x : ℤ) → is_within low high x ≡ true → (low ≤ℤ x) × (x ≤ℤ high)
is_so low high x h =
    let b = both (int_le low x) (int_le x high) h in
    (grind (arith, ints, b.0), grind (arith, ints, b.1))

all_are : (low high : ℤ) (xs : List ℤ) → AreWithin low high xs → list_all (is_within low high) xs ≡ true
all_are low high [] h = refl
all_are low high (x ∷ xs) h =
    let P : ℤ → Type 0 = λ z. (low ≤ℤ z) × (z ≤ℤ high) in
    ap (λ t. t && list_all (is_within low high) xs) (within_is low high x (All-head P x xs h))
    ∙ all_are low high xs (All-tail P x xs h)

are_all : (low high : ℤ) (xs : List ℤ) → list_all (is_within low high) xs ≡ true → AreWithin low high xs
are_all low high [] h = All-nil (λ (z : ℤ). (low ≤ℤ z) × (z ≤ℤ high))
are_all low high (x ∷ xs) h =
    let b = both (is_within low high x) (list_all (is_within low high) xs) h in
    All-cons (λ (z : ℤ). (low ≤ℤ z) × (z ≤ℤ high)) x xs (is_so low high x b.0) (are_all low high xs b.1)

apart_is : (apart : Bool) (xs : List ℤ) → (apart ≡ true → AllPairs (λ (x y : ℤ). x ≢ y) xs) → not apart || are_apart xs ≡ true
apart_is true xs h = pairs_apart xs (λ i j d lt le e. h refl i j d lt le e)
apart_is false xs h = refl

is_apart : (apart : Bool) (xs : List ℤ) → not apart || are_apart xs ≡ true → apart ≡ true → AllPairs (λ (x y : ℤ). x ≢ y) xs
is_apart true xs h e = λ i j d lt le is. no_pair xs h i j d lt le is
is_apart false xs h e = absurd (let P : false ≡ true → ⊥ = λ k. cc in P e)

-- ---- inputs

pub input_there : (s : Scope) (xs : List ℤ) → is_input s xs ≡ true → Contains (inputs_of s) xs
input_there s xs h =
    let a = both (nat_eq (length xs) s.count) (list_all (is_within s.low s.high) xs && (not s.apart || are_apart xs)) h in
    let b = both (list_all (is_within s.low s.high) xs) (not s.apart || are_apart xs) a.1 in
    let many : length xs ≡ s.count = grind (arith, nat_tests, a.0) in
    (just_those s xs).1 (many, are_all s.low s.high xs b.0, is_apart s.apart xs b.1)

pub there_input : (s : Scope) (xs : List ℤ) → Contains (inputs_of s) xs → is_input s xs ≡ true
there_input s xs h =
    let those = (just_those s xs).0 h in
    let many : nat_eq (length xs) s.count ≡ true = grind (arith, nat_tests, those.0) in
    all_true (nat_eq (length xs) s.count) (list_all (is_within s.low s.high) xs) (not s.apart || are_apart xs) many
    (all_are s.low s.high xs those.1) (apart_is s.apart xs those.2)

-- ---- where it goes wrong

pub wrong_there : (s : Scope) (t : Specification) (p : Checked) (n : ℕ) (wrong : Wrong) (xs : List ℤ) → goes_wrong s t p n wrong xs ≡ true →
    Contains (counting t.precondition n (inputs_of s)) xs × (is_wrong wrong t.postcondition p n xs (verdict_on p n xs) ≡ true)
wrong_there s t p n wrong xs h =
    let so = is_wrong wrong t.postcondition p n xs (verdict_on p n xs) in
    let a = both (is_input s xs) (counts t.precondition n xs && so) h in
    let b = both (counts t.precondition n xs) so a.1 in
    (in_filter (counts t.precondition n) (inputs_of s) xs (input_there s xs a.0) b.0, b.1)

pub there_wrong : (s : Scope) (t : Specification) (p : Checked) (n : ℕ) (wrong : Wrong) (xs : List ℤ) →
    Contains (counting t.precondition n (inputs_of s)) xs → is_wrong wrong t.postcondition p n xs (verdict_on p n xs) ≡ true →
    goes_wrong s t p n wrong xs ≡ true
there_wrong s t p n wrong xs in' so =
    let h = from_filter (counts t.precondition n) (inputs_of s) xs in' in
    all_true (is_input s xs) (counts t.precondition n xs) (is_wrong wrong t.postcondition p n xs (verdict_on p n xs))
    (there_input s xs h.0) h.1 so

-- an input of the scope shrinks to one of the scope
pub shrinks_within : (s : Scope) (t : Specification) (p : Checked) (n : ℕ) (wrong : Wrong) (xs zs : List ℤ) →
    ShrinksTo (goes_wrong s t p n wrong) xs zs → Contains (inputs_of s) xs → Contains (inputs_of s) zs
shrinks_within s t p n wrong xs zs (Stays _ e) in' = in'
shrinks_within s t p n wrong xs zs (Shrinks _ ys _ e h) in' =
    let w = goes_wrong s t p n wrong in
    let here : w ys ≡ true = (find_has w (λ (us : List ℤ). ℕ) (smaller xs) ys (λ i d lt. 0) e).1 in
    shrinks_within s t p n wrong ys zs h
    (input_there s ys (both (is_input s ys)
    (counts t.precondition n ys && is_wrong wrong t.postcondition p n ys (verdict_on p n ys)) here).0)
