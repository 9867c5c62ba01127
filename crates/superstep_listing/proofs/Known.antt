-- Which names are known.
use Rattle.std.proofs.Common.{◌≡◌, ℕ, List, [], ◌∷◌, ◌++◌, refl, sym, ap, ◌∙◌, Bool, true, false, not, cond, inl, inr}
use Rattle.std.specs.List.{list_any}
use Rattle.std.specs.Prelude.{◌||◌}
use Rattle.std.specs.Str.{bytes_eq}
use Rattle.pram_model.specs.Layout.{SharedEntry}
use Rattle.superstep_instructions.specs.Limits.{IsNew, names_of}
use Rattle.superstep_listing.specs.Names.{AreKnown}
use Rattle.superstep_listing.proofs.Entries.{names-more}
use lib.Pointwise.{bytes_decides}
use Rattle.std.proofs.lemmas.Bool.{not-true, not-false, or_cases, or_parts}

pub cond_or : (b c : Bool) → cond b true c ≡ (b || c)
cond_or true c = refl
cond_or false c = refl

-- the test of two texts doesn't depend on their order
turned_by : (a b : List ℕ) (x y : Bool) → bytes_eq a b ≡ x → bytes_eq b a ≡ y → bytes_eq a b ≡ bytes_eq b a
turned_by a b true y x_is y_is = x_is ∙ sym ((bytes_decides b a).1 (sym ((bytes_decides a b).0 x_is)))
turned_by a b false true x_is y_is = absurd (let h : false ≡ true = sym x_is ∙ (bytes_decides a b).1 (sym ((bytes_decides b a).0 y_is)) in
    cc)
turned_by a b false false x_is y_is = x_is ∙ sym y_is

bytes_turned : (a b : List ℕ) → bytes_eq a b ≡ bytes_eq b a
bytes_turned a b = turned_by a b (bytes_eq a b) (bytes_eq b a) refl refl

-- a name is among others, or new
among : (names : List (List ℕ)) (name : List ℕ) → list_any (λ other. bytes_eq name other) names ≡ true → IsNew names name → ⊥
among [] name h new = absurd (cc)
among (x ∷ names) name h new =
    elim (or_cases (bytes_eq name x) (list_any (λ other. bytes_eq name other) names) h) [
      | inl is ↦ new.0 ((bytes_decides name x).0 is)
      | inr rest ↦ among names name rest new.1
    ]

apart_from : (names : List (List ℕ)) (name : List ℕ) → list_any (λ other. bytes_eq name other) names ≡ false → IsNew names name
apart_from [] name h = tt
apart_from (x ∷ names) name h =
    let neither = or_parts (bytes_eq name x) (list_any (λ other. bytes_eq name other) names) h in
    (λ same. absurd (let k : true ≡ false = sym ((bytes_decides name x).1 same) ∙ neither.0 in cc), apart_from names name neither.1)

turned : (a b c : Bool) → (a || (b || c)) ≡ (b || (a || c))
turned true true c = refl
turned true false c = refl
turned false true c = refl
turned false false c = refl

pub known_taken : (has : List ℕ → Bool) (es : List SharedEntry) (name : List ℕ) (r : Bool) → AreKnown has es → r ≡ not (has name) →
    r ≡ false → IsNew (names_of es) name → ⊥
known_taken has es name r known told is = among (names_of es) name (sym (known name) ∙ not-false (has name) (sym told ∙ is))

pub known_new : (has : List ℕ → Bool) (es : List SharedEntry) (name : List ℕ) (r : Bool) → AreKnown has es → r ≡ not (has name) → r ≡ true →
    IsNew (names_of es) name
known_new has es name r known told is = apart_from (names_of es) name (sym (known name) ∙ not-true (has name) (sym told ∙ is))

any_more : (names : List (List ℕ)) (q name : List ℕ) → list_any (λ other. bytes_eq q other)
    (names ++ name ∷ []) ≡ (bytes_eq q name || list_any (λ other. bytes_eq q other) names)
any_more [] q name = refl
any_more (x ∷ names) q name = ap (λ b. bytes_eq q x || b) (any_more names q name)
    ∙ turned (bytes_eq q x) (bytes_eq q name) (list_any (λ other. bytes_eq q other) names)

pub known_more : (has now : List ℕ → Bool) (es all : List SharedEntry) (e : SharedEntry) → AreKnown has es → all ≡ es ++ e ∷ [] →
    ((q : List ℕ) → now q ≡ (bytes_eq e.name q || has q)) → AreKnown now all
known_more has now es all e known same told q =
    told q ∙ ap (λ b. b || has q) (bytes_turned e.name q) ∙ ap (λ b. bytes_eq q e.name || b) (known q)
    ∙ sym (any_more (names_of es) q e.name)
    ∙ ap (list_any (λ other. bytes_eq q other)) (sym (ap names_of same ∙ names-more es e))
