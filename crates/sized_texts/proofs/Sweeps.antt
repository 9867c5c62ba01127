-- The sizes of a sweep, one by one.
use Rattle.std.proofs.Common.{◌≡◌, ◌∙◌, ◌<◌, ◌≤◌, ◌≢◌, ◌+◌, ◌++◌, ◌∷◌, [], List, ℕ, ap, append_assoc, arith, drop, get_or, length}
use Rattle.std.proofs.Common.{length-append, map, refl, subst, sym}
use Rattle.std.specs.Prelude.{Some, None}
use Rattle.std.proofs.lemmas.List.{append-nil, at_drop_all, drop_more}
use Rattle.sized_texts.specs.declared.size_range.Growth.{Growth}
use Rattle.sized_texts.specs.declared.size_range.Range.{Range}
use Rattle.sized_texts.specs.SizeRanges.{Goes, IsProgression, next}
use Rattle.sized_texts.specs.Sweeps.{AreListed, parts}
use Rattle.sized_texts.specs.SizeWords.{digits_value}

-- What holds before each turn of a loop: those sizes, with any that are left, are all; and all begin with those.
pub record IsReadTo (Are Left : List ℕ → Type 0) (found : List ℕ) : Type 0 where
  pub make : (rest : List ℕ) → Left rest → Are (found ++ rest)
  pub begin : (all : List ℕ) → Are all → (rest : List ℕ) × (all ≡ found ++ rest) × Left rest
  pub few : length found ≤ 1000

pub starts : (Are : List ℕ → Type 0) → IsReadTo Are Are []
starts Are = record { make = λ rest h. h; begin = λ all h. (all, refl, h); few = omega arith }

-- one size more, where what is left is that size and what is left behind it
pub one_more : (Are Left Behind : List ℕ → Type 0) (found : List ℕ) (size : ℕ) → IsReadTo Are Left found → length found ≢ 1000 →
    ((rest : List ℕ) → Behind rest → Left (size ∷ rest)) →
    ((rest : List ℕ) → Left rest → (more : List ℕ) × (rest ≡ size ∷ more) × Behind more) → IsReadTo Are Behind (found ++ size ∷ [])
one_more Are Left Behind found size before room put split = record {
  make = λ rest h. subst Are (sym (append_assoc found (size ∷ []) rest)) (before.make (size ∷ rest) (put rest h));
  begin = λ all h.
      let b = before.begin all h in
      let s = split b.0 b.2 in (s.0, b.1 ∙ ap (λ l. found ++ l) s.1 ∙ sym (append_assoc found (size ∷ []) s.0), s.2);
  few = omega (arith, length-append found (size ∷ []), before.few, room);
}

-- where nothing may be left, those are all
pub ends : (Are Left : List ℕ → Type 0) (found : List ℕ) → IsReadTo Are Left found → Left [] → Are found
ends Are Left found before none = subst Are (append-nil found) (before.make [] none)

-- where 1,000 are read and some are left, there are more
pub too_many : (Are Left : List ℕ → Type 0) (found : List ℕ) → IsReadTo Are Left found → length found ≡ 1000 →
    ((rest : List ℕ) → Left rest → 0 < length rest) → (all : List ℕ) → Are all → 1000 < length all
too_many Are Left found before full some all h =
    let b = before.begin all h in
    let more = some b.0 b.2 in
    omega (arith, ap length b.1, length-append found b.0, full, more)

-- ---- the sizes of a range

goes_split : (growth : Growth) (last at : ℕ) → at ≤ last → (rest : List ℕ) → Goes growth last at rest →
    (more : List ℕ) × (rest ≡ at ∷ more) × Goes growth last (next growth at) more
goes_split growth last at below [] h = absurd (omega (arith, below, h))
goes_split growth last at below (x ∷ xs) h = (xs, ap (λ y. y ∷ xs) h.0, h.2)

pub one_step : (range : Range) (at behind : ℕ) (found : List ℕ) → IsReadTo (IsProgression range) (Goes range.growth range.last at) found →
    length found ≢ 1000 → at ≤ range.last → behind ≡ next range.growth at →
    IsReadTo (IsProgression range) (Goes range.growth range.last behind) (found ++ at ∷ [])
one_step range at behind found before room below is =
    subst (λ n. IsReadTo (IsProgression range) (Goes range.growth range.last n) (found ++ at ∷ [])) (sym is)
    (one_more (IsProgression range) (Goes range.growth range.last at) (Goes range.growth range.last (next range.growth at)) found at
    before room
    (λ rest h. (refl, below, h)) (goes_split range.growth range.last at below))

-- ---- numbers with commas between them

-- what is left of the parts from one on
abbrev pub Listed : (text : List ℕ) → (n : ℕ) → List ℕ → Type 0
Listed text n rest = map digits_value (drop n (parts text)) ≡ map Some rest

module _ (text : List ℕ) (n : ℕ) (part read : List ℕ) (here : (n < length (parts text)) × (part ≡ get_or (parts text) n part))
    (same : read ≡ part) (found : List ℕ) (before : IsReadTo (AreListed text) (Listed text n) found) where
  next_parts : map digits_value (drop n (parts text)) ≡ digits_value read ∷ map digits_value (drop (n + 1) (parts text))
  next_parts =
      ap (map digits_value) (drop_more (parts text) n part here.0)
      ∙ ap (λ p. digits_value p ∷ map digits_value (drop (n + 1) (parts text))) (sym here.1 ∙ sym same)

  some_left : (rest : List ℕ) → Listed text n rest → 0 < length rest
  some_left [] h = absurd (cc (sym next_parts ∙ h))
  some_left (x ∷ xs) h = omega arith

  pub listed_too_many : length found ≡ 1000 → (all : List ℕ) → AreListed text all → 1000 < length all
  listed_too_many full = too_many (AreListed text) (Listed text n) found before full some_left

  pub listed_none : digits_value read ≡ None → (all : List ℕ) → AreListed text all → 1000 < length all
  listed_none none all h =
      let b = before.begin all h in
      by b.0 (sym next_parts ∙ b.2)
    where
      by : (rest : List ℕ) → digits_value read ∷ map digits_value (drop (n + 1) (parts text)) ≡ map Some rest → 1000 < length all
      by [] e = absurd (cc e)
      by (x ∷ xs) e = let k : digits_value read ≡ Some x = cc e in let l : None ≡ Some x = sym none ∙ k in absurd (cc l)

  pub listed_one : (size m : ℕ) → digits_value read ≡ Some size → length found ≢ 1000 → m ≡ n + 1 →
      IsReadTo (AreListed text) (Listed text m) (found ++ size ∷ [])
  listed_one size m is room next =
      subst (λ m. IsReadTo (AreListed text) (Listed text m) (found ++ size ∷ [])) (sym next)
      (one_more (AreListed text) (Listed text n) (Listed text (n + 1)) found size before room put
      (λ rest h. split rest (sym next_parts ∙ h)))
    where
      put : (rest : List ℕ) → Listed text (n + 1) rest → Listed text n (size ∷ rest)
      put rest h =
          next_parts ∙ ap (λ o. o ∷ map digits_value (drop (n + 1) (parts text))) is ∙ ap (λ l. Some size ∷ l) h

      split : (rest : List ℕ) → digits_value read ∷ map digits_value (drop (n + 1) (parts text)) ≡ map Some rest →
          (more : List ℕ) × (rest ≡ size ∷ more) × Listed text (n + 1) more
      split [] e = absurd (cc e)
      split (x ∷ xs) e =
          let k : digits_value read ≡ Some x = cc e in
          let l : Some size ≡ Some x = sym is ∙ k in
          let y : x ≡ size = cc l in
          let rest : map digits_value (drop (n + 1) (parts text)) ≡ map Some xs = cc e in
          (xs, ap (λ z. z ∷ xs) y, rest)

-- at the end all parts are read
pub listed_all : (text : List ℕ) (n : ℕ) (found : List ℕ) → length (parts text) ≤ n → IsReadTo (AreListed text) (Listed text n) found →
    AreListed text found
listed_all text n found over before =
    ends (AreListed text) (Listed text n) found before (at_drop_all (map digits_value) (parts text) n over)
