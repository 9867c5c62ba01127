-- What is so of an option that is told to be wrong.
use Rattle.std.proofs.Common.{◌≡◌, ◌∙◌, ℕ, Bool, true, false, List, [], ◌∷◌, ◌++◌, ap, inl, inr, length, refl, subst, sym}
use Rattle.std.proofs.Common.{Some, None, Option, ◌⊎◌, if◌then◌else◌, get_or}
use Rattle.std.specs.Prelude.{◌<◌, nat_lt}
use Rattle.std.specs.List.{after_first, before_first, position_or_len}
use Rattle.std.proofs.lemmas.Bool.{eqb-true, ltb-true}
use Rattle.std.proofs.lemmas.List.Sums.{passes_at_first, split_at_first}
use Rattle.command_requests.specs.declared.given.Given.{Given}
use Rattle.command_requests.specs.Options.{Takes, named_in}
use Rattle.command_requests.specs.Values.{IsFirst, IsRefusedBy, IsValueOf, IsWrongBehind, Behind, Joined}
use Rattle.command_requests.specs.Values.{first_of, held_by, holds, is_equals, joined, value_at}

-- ---- it doesn't take the word

here_refuses : (v here : Option Given) (told : List ℕ) (Later : Option Given → Type 0) (g : Given) → IsRefusedBy v told here →
    IsFirst here Later (Some g) → (Later (Some g) → ¬ (Takes g told)) → ¬ (Takes g told)
here_refuses v None told Later g r f later = later f
here_refuses None (Some h) told Later g r f later = absurd (cc r)
here_refuses (Some k) (Some h) told Later g r f later =
    let same : g ≡ k = cc (f, r.0) in
    λ takes. r.1 (subst (λ x. Takes x told) same takes)

pub it_refuses : (costs : Bool) (before : Option Given) (words : List (List ℕ)) (told : List ℕ) (g : Given) →
    IsWrongBehind costs before words told (Some g) → ¬ (Takes g told)
it_refuses costs before [] told g w = absurd (cc w)
it_refuses costs before (word ∷ words) told g w =
    here_refuses (value_at costs before word told) w.0 told (IsWrongBehind costs (named_in costs word) words told) g w.1 w.2
    (it_refuses costs (named_in costs word) words told g)

-- ---- the word is its value

-- the value stands in one word with the option's name
record IsJoined (costs : Bool) (word told : List ℕ) (g : Given) : Type 0 where
  name : List ℕ
  value : List ℕ
  whole : word ≡ name ++ 61 ∷ value
  is : named_in costs name ≡ Some g
  has : holds g value told ≡ true

-- the value is a word, behind the option's name
abbrev IsHeld : Option Given → (value told : List ℕ) → Given → Type 0
IsHeld before value told g = (before ≡ Some g) × (holds g value told ≡ true)

held_if : (k g : Given) (value told : List ℕ) (b : Bool) → holds k value told ≡ b → (if b then Some k else None) ≡ Some g →
    IsHeld (Some k) value told g
held_if k g value told true has e =
    let same : k ≡ g = cc e in
    (e, subst (λ x. holds x value told ≡ true) same has)
held_if k g value told false has e = absurd (cc e)

held : (before : Option Given) (value told : List ℕ) (g : Given) → held_by before value told ≡ Some g → IsHeld before value told g
held None value told g e = absurd (cc e)
held (Some k) value told g e = held_if k g value told (holds k value told) refl e

-- a word with an `=` is what stands before the first one, and what stands behind it
parted : (word : List ℕ) → position_or_len is_equals word < length word →
    word ≡ before_first is_equals word ++ 61 ∷ after_first is_equals word
parted word there =
    let equals = eqb-true (get_or word (position_or_len is_equals word) 0) 61 (passes_at_first is_equals word 0 there) in
    split_at_first is_equals word 0 there ∙ ap (λ b. before_first is_equals word ++ b ∷ after_first is_equals word) equals

joined_if : (costs : Bool) (word told : List ℕ) (g : Given) (b : Bool) → nat_lt (position_or_len is_equals word) (length word) ≡ b →
    (if b then held_by (named_in costs (before_first is_equals word)) (after_first is_equals word) told else None) ≡ Some g →
    IsJoined costs word told g
joined_if costs word told g true there e =
    let h = held (named_in costs (before_first is_equals word)) (after_first is_equals word) told g e in
    record {
      name = before_first is_equals word;
      value = after_first is_equals word;
      whole = parted word (ltb-true _ _ there);
      is = h.0;
      has = h.1;
    }
joined_if costs word told g false there e = absurd (cc e)

one_of : (a b : Option Given) (g : Given) → first_of a b ≡ Some g → (a ≡ Some g) ⊎ (b ≡ Some g)
one_of None b g e = inr e
one_of (Some k) b g e = inl e

at : (costs : Bool) (before : Option Given) (word told : List ℕ) (g : Given) → value_at costs before word told ≡ Some g →
    IsHeld before word told g ⊎ IsJoined costs word told g
at costs before word told g e = elim (one_of (held_by before word told) (joined costs word told) g e) [
  | inl h ↦ inl (held before word told g h)
  | inr j ↦ inr (joined_if costs word told g (nat_lt (position_or_len is_equals word) (length word)) refl j)
]

refused_is : (v : Option Given) (told : List ℕ) (h : Given) → IsRefusedBy v told (Some h) → v ≡ Some h
refused_is None told h r = absurd (cc r)
refused_is (Some k) told h r = ap Some (sym r.0)

later_on : (costs : Bool) (word : List ℕ) (words : List (List ℕ)) (told : List ℕ) (g : Given) →
    IsValueOf costs words told g → IsValueOf costs (word ∷ words) told g
later_on costs word words told g (Behind front back name value e is has) =
    Behind (word ∷ front) back name value (ap (λ l. word ∷ l) e) is has
later_on costs word words told g (Joined front back name value e is has) =
    Joined (word ∷ front) back name value (ap (λ l. word ∷ l) e) is has

-- the value is the first word
record IsNext (before : Option Given) (words : List (List ℕ)) (told : List ℕ) (g : Given) : Type 0 where
  value : List ℕ
  rest : List (List ℕ)
  whole : words ≡ value ∷ rest
  held : IsHeld before value told g

-- behind a word
behind : (costs : Bool) (word : List ℕ) (words : List (List ℕ)) (told : List ℕ) (g : Given) →
    IsValueOf costs words told g ⊎ IsNext (named_in costs word) words told g → IsValueOf costs (word ∷ words) told g
behind costs word words told g (inl later) = later_on costs word words told g later
behind costs word words told g (inr n) = Behind [] n.rest word n.value (ap (λ l. word ∷ l) n.whole) n.held.0 n.held.1

here : (costs : Bool) (before : Option Given) (word : List ℕ) (words : List (List ℕ)) (told : List ℕ) (g : Given) →
    IsHeld before word told g ⊎ IsJoined costs word told g →
    IsValueOf costs (word ∷ words) told g ⊎ IsNext before (word ∷ words) told g
here costs before word words told g (inl h) = inr (record { value = word; rest = words; whole = refl; held = h })
here costs before word words told g (inr j) = inl (Joined [] words j.name j.value (ap (λ w. w ∷ words) j.whole) j.is j.has)

placed : (costs : Bool) (before : Option Given) (word : List ℕ) (words : List (List ℕ)) (told : List ℕ) (g : Given) (found : Option Given) →
    IsRefusedBy (value_at costs before word told) told found →
    IsFirst found (IsWrongBehind costs (named_in costs word) words told) (Some g) →
    (IsWrongBehind costs (named_in costs word) words told (Some g) →
    IsValueOf costs words told g ⊎ IsNext (named_in costs word) words told g) →
    IsValueOf costs (word ∷ words) told g ⊎ IsNext before (word ∷ words) told g
placed costs before word words told g None r f later = inl (behind costs word words told g (later f))
placed costs before word words told g (Some h) r f later =
    here costs before word words told g (at costs before word told g (refused_is (value_at costs before word told) told h r ∙ sym f))

stands : (costs : Bool) (before : Option Given) (words : List (List ℕ)) (told : List ℕ) (g : Given) →
    IsWrongBehind costs before words told (Some g) → IsValueOf costs words told g ⊎ IsNext before words told g
stands costs before [] told g w = absurd (cc w)
stands costs before (word ∷ words) told g w =
    placed costs before word words told g w.0 w.1 w.2 (stands costs (named_in costs word) words told g)

of_call : (costs : Bool) (words : List (List ℕ)) (told : List ℕ) (g : Given) →
    IsValueOf costs words told g ⊎ IsNext None words told g → IsValueOf costs words told g
of_call costs words told g (inl is) = is
of_call costs words told g (inr n) = let none = n.held.0 in absurd (cc none)

pub it_is_its_value : (costs : Bool) (words : List (List ℕ)) (told : List ℕ) (g : Given) →
    IsWrongBehind costs None words told (Some g) → IsValueOf costs words told g
it_is_its_value costs words told g w = of_call costs words told g (stands costs None words told g w)
