-- Faults are told in the machine's order.
use Rattle.std.proofs.Common.{◌≡◌, ◌⊎◌, inl, inr, ℕ, ◌<◌, List, [], ◌∷◌, Bool, true, false, ◌||◌, ◌&&◌, fold, if◌then◌else◌, Option, Some}
use Rattle.std.proofs.Common.{None, nat_lt, nat_eq, refl, sym, ap, ◌∙◌, arith}
use Rattle.std.specs.List.{AllByRecursion}
use Rattle.std.proofs.lemmas.Bool.Decides.{nat_tests}
use Rattle.pram_values.specs.declared.kind.Kind.{Kind}
use Rattle.pram_values.specs.declared.place.Place.{Place}
use Rattle.pram_values.specs.declared.place.Place.TheVariants.{All, Processor, Cell}
use Rattle.pram_values.specs.Place.{is_place_before}
use Rattle.pram_values.specs.Total.{total}
use Rattle.pram_values.proofs.PlaceOrder.{one_is_before}
use Rattle.pram_values.proofs.Totals.{neutral_right}
use Rattle.superstep_machine.specs.declared.key as machine
use Rattle.superstep_machine.specs.Keys.{is_first, least}
use Rattle.superstep_machine.proofs.KeyOrder.{keys_are_monoid, least_again, by_lesser_position, by_lesser_class, by_earlier_place}
use Rattle.pram_meaning.specs.declared.key.Key.{Key}
use Rattle.pram_meaning.specs.Conflict.{is_key_before, lesser}
use Rattle.pram_meaning.proofs.Swaps.{tied_at, tied_place}
use Rattle.statement_evaluation.specs.Noted.{Heading}
use Rattle.statement_evaluation.specs.LeastFaults.{is_cell, key_of, told, AreToldInOneOrder}

-- ---- two keys

place_split : (p q : Place) → is_place_before p q ≡ true → (is_cell p ≡ is_cell q) ⊎ ((is_cell p ≡ false) × (is_cell q ≡ true))
place_split All All h = inl refl
place_split All (Processor j) h = inl refl
place_split All (Cell d) h = inr (refl, refl)
place_split (Processor i) All h = inl refl
place_split (Processor i) (Processor j) h = inl refl
place_split (Processor i) (Cell d) h = inr (refl, refl)
place_split (Cell c) All h = absurd (cc h)
place_split (Cell c) (Processor j) h = absurd (cc h)
place_split (Cell c) (Cell d) h = inl refl

at_cases : (a b : ℕ) (p : Bool) → (nat_lt a b || (nat_eq a b && p)) ≡ true → (a < b) ⊎ ((a ≡ b) × (p ≡ true))
at_cases a b p h = go (nat_lt a b) (nat_eq a b) refl refl h
  where
    go : (x y : Bool) → nat_lt a b ≡ x → nat_eq a b ≡ y → (x || (y && p)) ≡ true → (a < b) ⊎ ((a ≡ b) × (p ≡ true))
    go true y e f g = inl (grind (arith, nat_tests, e))
    go false true e f g = inr ((let k : a ≡ b = grind (arith, nat_tests, f) in k), g)
    go false false e f g = absurd (cc g)

-- the one before comes first
before_first : (h : Heading) (k j : Key) → is_key_before k j ≡ true → is_first (key_of h k) (key_of h j) ≡ true
before_first h k j b = go (at_cases k.at j.at (is_place_before k.place j.place) b)
  where
    go : (k.at < j.at) ⊎ ((k.at ≡ j.at) × (is_place_before k.place j.place ≡ true)) → is_first (key_of h k) (key_of h j) ≡ true
    go (inl l) = by_lesser_position (key_of h k) (key_of h j) refl l
    go (inr s) = elim (place_split k.place j.place s.1) [
      | inl e ↦ by_earlier_place (key_of h k) (key_of h j) refl s.0 e s.1
      | inr e ↦ by_lesser_class (key_of h k) (key_of h j) refl s.0 e.0 e.1
    ]

pub one_order : AreToldInOneOrder
one_order h k j same = go (is_key_before j k) (is_key_before k j) refl refl
  where
    go : (x y : Bool) → is_key_before j k ≡ x → is_key_before k j ≡ y →
        told h (if x then Some j else Some k) ≡ least (told h (Some k)) (told h (Some j))
    go true y e f =
        sym (keys_are_monoid.commutative (told h (Some k)) (told h (Some j))
        ∙ ap (λ b. let x : machine.Key.Key = if b then key_of h j else key_of h k in Some x) (before_first h j k e))
    go false true e f = sym (ap (λ b. let x : machine.Key.Key = if b then key_of h k else key_of h j in Some x) (before_first h k j f))
    go false false e f =
        let at : k.at ≡ j.at = tied_at k.at j.at (is_place_before k.place j.place) (is_place_before j.place k.place) f e in
        let place : k.place ≡ j.place = one_is_before k.place j.place
        (tied_place k.at j.at (is_place_before k.place j.place) at f)
        (tied_place j.at k.at (is_place_before j.place k.place) (sym at) e) in
        let one : k ≡ j = λ i. record { at = at i; place = place i; kind = same at place i } in
        sym (ap (λ x. least (told h (Some k)) (told h (Some x))) (sym one) ∙ least_again (told h (Some k)))

-- ---- all keys of a list

-- keys whose kinds are decided by their position and place
abbrev pub IsOfKind : (ℕ → Place → Kind) → Key → Type 0
IsOfKind kind k = k.kind ≡ kind k.at k.place

abbrev IsSomeOfKind : (ℕ → Place → Kind) → Option Key → Type 0
IsSomeOfKind kind None = Unit {0}
IsSomeOfKind kind (Some k) = IsOfKind kind k

pub one_kind : (kind : ℕ → Place → Kind) (k j : Key) → IsOfKind kind k → IsOfKind kind j → k.at ≡ j.at → k.place ≡ j.place → k.kind ≡ j.kind
one_kind kind k j a b e f = a ∙ (λ i. kind (e i) (f i)) ∙ sym b

module _ (h : Heading) (kind : ℕ → Place → Kind) where
  one_told : (o : Option Key) (j : Key) → IsSomeOfKind kind o → IsOfKind kind j → told h (lesser o j) ≡ least (told h o) (told h (Some j))
  one_told None j a b = refl
  one_told (Some k) j a b = one_order h k j (one_kind kind k j a b)

  still : (o : Option Key) (j : Key) → IsSomeOfKind kind o → IsOfKind kind j → IsSomeOfKind kind (lesser o j)
  still None j a b = b
  still (Some k) j a b = go (is_key_before j k)
    where
      go : (x : Bool) → IsSomeOfKind kind (if x then Some j else Some k)
      go true = b
      go false = a

  pub told_fold : (ks : List Key) (o : Option Key) → IsSomeOfKind kind o → AllByRecursion (IsOfKind kind) ks →
      told h (fold lesser o ks) ≡ least (told h o) (total None least (λ k. told h (Some k)) ks)
  told_fold [] o a b = sym (neutral_right None least keys_are_monoid (told h o))
  told_fold (k ∷ ks) o a b =
      told_fold ks (lesser o k) (still o k a b.0) b.1
      ∙ ap (λ x. least x (total None least (λ k. told h (Some k)) ks)) (one_told o k a b.0)
      ∙ keys_are_monoid.associative (told h o) (told h (Some k)) (total None least (λ k. told h (Some k)) ks)
