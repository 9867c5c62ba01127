-- The least of some faults, where those behind a processor's own are of kinds that a rule forbids.
use Rattle.std.proofs.Common.{◌≡◌, ◌∙◌, ◌⊎◌, inl, inr, Bool, true, false, List, [], ◌∷◌, ◌++◌, Option, Some, None, ℕ, ap, fold, refl}
use Rattle.std.proofs.Common.{if◌then◌else◌, nat_eq, nat_lt, subst, sym, ◌&&◌, ◌||◌}
use Rattle.std.specs.List.{AllByRecursion}
use Rattle.pram_values.specs.Place.{is_place_before}
use Rattle.pram_values.specs.declared.place.Place.{Place}
use Rattle.pram_meaning.specs.Conflict.{is_key_before, lesser}
use Rattle.pram_meaning.specs.declared.key.Key.{Key}

-- faults that have this of their positions and places
abbrev pub AllAt : (ℕ → Place → Type 0) → List Key → Type 0
AllAt P = AllByRecursion (λ k. P k.at k.place)

-- a fault there comes before this one: not so
abbrev pub NotBefore : Key → ℕ → Place → Type 0
NotBefore k at place = (nat_lt at k.at || (nat_eq at k.at && is_place_before place k.place)) ≡ false

-- there is no such fault
abbrev pub Nowhere : ℕ → Place → Type 0
Nowhere at place = ⊥

pub none_there : (ks : List Key) → AllAt Nowhere ks → ks ≡ []
none_there [] h = refl
none_there (k ∷ ks) h = absurd h.0

pub there_none : (ks : List Key) → ks ≡ [] → AllAt Nowhere ks
there_none ks e = subst (AllAt Nowhere) (sym e) tt

pub all_both : {A : Type 0} (P : A → Type 0) (xs ys : List A) → AllByRecursion P (xs ++ ys) → AllByRecursion P xs × AllByRecursion P ys
all_both P [] ys h = (tt, h)
all_both P (x ∷ xs) ys h = let r = all_both P xs ys h.1 in ((h.0, r.0), r.1)

-- ---- from a key on

-- none comes before it, so it is told
pub told_still : (k : Key) (ks : List Key) → AllAt (NotBefore k) ks → fold lesser (Some k) ks ≡ Some k
told_still k [] h = refl
told_still k (j ∷ ks) h = ap (λ c. fold lesser (if c then Some j else Some k) ks) h.0 ∙ told_still k ks h.1

module _ (Bad : Key → Type 0) where
  -- a bad one is told
  abbrev pub IsBad : Option Key → Type 0
  IsBad o = (m : Key) × (o ≡ Some m) × Bad m

  bad_from : (ks : List Key) → AllByRecursion Bad ks → (k : Key) → Bad k → IsBad (fold lesser (Some k) ks)
  bad_from [] all k is = (k, refl, is)
  bad_from (j ∷ ks) all k is = by (is_key_before j k) (bad_from ks all.1 j all.0) (bad_from ks all.1 k is)
    where
      by : (b : Bool) → IsBad (fold lesser (Some j) ks) → IsBad (fold lesser (Some k) ks) →
          IsBad (fold lesser (if b then Some j else Some k) ks)
      by true first second = first
      by false first second = second

  pub told_or_bad : (k : Key) (ks : List Key) → AllByRecursion Bad ks → AllAt (NotBefore k) ks ⊎ IsBad (fold lesser (Some k) ks)
  told_or_bad k [] all = inl tt
  told_or_bad k (j ∷ ks) all = by (is_key_before j k) refl (told_or_bad k ks all.1)
    where
      by : (b : Bool) → is_key_before j k ≡ b → AllAt (NotBefore k) ks ⊎ IsBad (fold lesser (Some k) ks) →
          AllAt (NotBefore k) (j ∷ ks) ⊎ IsBad (fold lesser (if b then Some j else Some k) ks)
      by true is rest = inr (bad_from ks all.1 j all.0)
      by false is (inl rest) = inl (is, rest)
      by false is (inr rest) = inr rest

  pub none_or_bad : (ks : List Key) → AllByRecursion Bad ks → AllAt Nowhere ks ⊎ IsBad (fold lesser None ks)
  none_or_bad [] all = inl tt
  none_or_bad (j ∷ ks) all = inr (bad_from ks all.1 j all.0)
