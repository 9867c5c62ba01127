-- The processors whose test may come out so.
use Rattle.std.proofs.Common.{◌≡◌, ℕ, List, [], ◌∷◌, ◌++◌, Bool, true, false, map, refl, sym, subst, ap, ◌∙◌, if◌then◌else◌, append-nil}
use Rattle.std.proofs.lemmas.Grind.{flat_map-append}
use Rattle.pram_values.specs.Truth.{is_nonzero}
use Rattle.pram_meaning.specs.Conflict.{Part}
use Rattle.pram_meaning.specs.Together.{those, those_of, value_in}
use Rattle.abstract_runs.specs.declared.active.Active.{Active}
use Rattle.abstract_runs.specs.Rows.{AreActive}
use Rattle.abstract_runs.specs.Rows as rows

pub active_both : (known more : List Active) (vs ws : List ℕ) → AreActive known vs → AreActive more ws →
    AreActive (known ++ more) (vs ++ ws)
active_both [] more vs ws (rows.none) g = g
active_both (a ∷ known) more vs ws (rows.takes h) g = rows.takes (active_both known more _ ws h g)
active_both (a ∷ known) more vs ws (rows.passes u h) g = rows.passes u (active_both known more vs ws h g)

pub active_past : (known : List Active) (one : Active) (vs : List ℕ) → AreActive known vs → one.is_sure ≡ false →
    AreActive (known ++ one ∷ []) vs
active_past known one vs h u =
    subst (AreActive (known ++ one ∷ [])) (append-nil vs) (active_both known (one ∷ []) vs [] h (rows.passes u rows.none))

pub those_last : (b : Bool) (xs : List Part) (x : Part) → those b (xs ++ x ∷ []) ≡ those b xs ++ those_of b x
those_last b xs x = flat_map-append (those_of b) xs (x ∷ []) ∙ ap (λ vs. those b xs ++ vs) (append-nil (those_of b x))

-- ---- members of which none is sure

abbrev pub as_unsure : Active → Active
as_unsure a = record { member = a.member; is_sure = false }

pub unsure_same : (known : List Active) (vs : List ℕ) → AreActive known vs → AreActive (map as_unsure known) vs
unsure_same [] vs (rows.none) = rows.none
unsure_same (a ∷ known) vs (rows.takes h) = rows.takes (unsure_same known _ h)
unsure_same (a ∷ known) vs (rows.passes u h) = rows.passes refl (unsure_same known vs h)

fewer_one : (a : Active) (known : List Active) (x : Part) (xs : List Part) (b : Bool) → is_nonzero (value_in x.attempt) ≡ b →
    x.member ≡ a.member → AreActive (map as_unsure known) (those true xs) →
    AreActive (map as_unsure (a ∷ known)) ((if b then x.member ∷ [] else []) ++ those true xs)
fewer_one a known x xs true e is h =
    subst (λ m. AreActive (map as_unsure (a ∷ known)) (m ∷ those true xs)) (sym is) (rows.takes h)
fewer_one a known x xs false e is h = rows.passes refl h

pub unsure_fewer : (known : List Active) (vs : List ℕ) (xs : List Part) → AreActive (map as_unsure known) vs →
    map (λ (x : Part). x.member) xs ≡ vs → AreActive (map as_unsure known) (those true xs)
unsure_fewer [] vs [] (rows.none) e = rows.none
unsure_fewer [] vs (x ∷ xs) (rows.none) e = absurd (cc e)
unsure_fewer (a ∷ known) vs [] (rows.takes h) e = absurd (cc e)
unsure_fewer (a ∷ known) vs (x ∷ xs) (rows.takes h) e =
    fewer_one a known x xs (is_nonzero (value_in x.attempt)) refl (cc e) (unsure_fewer known _ xs h (cc e))
unsure_fewer (a ∷ known) vs xs (rows.passes u h) e = rows.passes refl (unsure_fewer known vs xs h e)

-- ---- one row

not_sure : (s : Bool) → (s ≡ true → ⊥) → s ≡ false
not_sure true h = absurd (h refl)
not_sure false h = refl

taken_one : (a : Active) (x : Part) → x.member ≡ a.member → AreActive (a ∷ []) (x.member ∷ [])
taken_one a x is = subst (λ m. AreActive (a ∷ []) (m ∷ [])) (sym is) (rows.takes rows.none)

-- it goes that way, or isn't sure
pub one_goes : (wanted b : Bool) (a : Active) (x : Part) → x.member ≡ a.member → is_nonzero (value_in x.attempt) ≡ b →
    (a.is_sure ≡ true → b ≡ wanted) → AreActive (a ∷ []) (those_of wanted x)
one_goes true true a x is e h = subst (λ c. AreActive (a ∷ []) (if c then x.member ∷ [] else [])) (sym e) (taken_one a x is)
one_goes true false a x is e h =
    subst (λ c. AreActive (a ∷ []) (if c then x.member ∷ [] else [])) (sym e) (rows.passes (not_sure a.is_sure (λ s. absurd (cc
    (h s)))) rows.none)
one_goes false true a x is e h =
    subst (λ c. AreActive (a ∷ []) (if c then [] else x.member ∷ [])) (sym e) (rows.passes (not_sure a.is_sure (λ s. absurd (cc
    (h s)))) rows.none)
one_goes false false a x is e h = subst (λ c. AreActive (a ∷ []) (if c then [] else x.member ∷ [])) (sym e) (taken_one a x is)

-- ---- one part more

pub skipped : (b : Bool) (known : List Active) (xs : List Part) (x : Part) → AreActive known (those b xs) → those_of b x ≡ [] →
    AreActive known (those b (xs ++ x ∷ []))
skipped b known xs x h e =
    subst (AreActive known) (sym (those_last b xs x ∙ ap (λ vs. those b xs ++ vs) e ∙ append-nil (those b xs))) h

pub taken : (b : Bool) (known more : List Active) (one : Active) (xs : List Part) (x : Part) → AreActive known (those b xs) →
    AreActive (one ∷ []) (those_of b x) → more ≡ known ++ one ∷ [] → AreActive more (those b (xs ++ x ∷ []))
taken b known more one xs x h g e =
    subst (λ is. AreActive is (those b (xs ++ x ∷ []))) (sym e)
    (subst (AreActive (known ++ one ∷ [])) (sym (those_last b xs x)) (active_both known (one ∷ []) (those b xs) (those_of b x) h g))
