-- Keys are in a linear order, and what may be missing is collected in any order.
use Rattle.std.proofs.Common.{◌≡◌, ◌⊎◌, inl, inr, ℕ, zero, suc, ◌<◌, Bool, true, false, Option, Some, None, nat_le, if◌then◌else◌, refl}
use Rattle.std.proofs.Common.{sym, ap, ◌∙◌, arith}
use Rattle.std.proofs.lemmas.Bool.Decides.{nat_tests}
use Rattle.pram_values.specs.declared.kind.Kind.{Kind}
use Rattle.pram_values.specs.declared.kind.Kind.TheVariants.{Overflow, DivideByZero, OutOfRange, TooWide, ReadConflict, WriteConflict}
use Rattle.pram_values.specs.declared.place.Place.{Place}
use Rattle.pram_values.specs.Place.{is_place_before}
use Rattle.pram_values.specs.Total.{IsMonoid}
use Rattle.pram_values.proofs.PlaceOrder.{never_before_itself, before_is_passed_on, one_is_before}
use Rattle.superstep_machine.specs.declared.key.Key.{Key}
use Rattle.superstep_machine.specs.Keys.{rank, class_of, by_number, by_place, is_first, first_key, together, least}
use Rattle.pram_model.proofs.Truths.{either}

-- ---- by a number, then by the rest

number_total : (x y : ℕ) (r s : Bool) → (r ≡ false → s ≡ true) → by_number x y r ≡ false → by_number y x s ≡ true
number_total x y true s h e = grind (arith, nat_tests)
number_total x y false true h e = grind (arith, nat_tests)
number_total x y false false h e = absurd (cc (h refl))

number_passed : (x y z : ℕ) (r s t : Bool) → (r ≡ true → s ≡ true → t ≡ true) → by_number x y r ≡ true → by_number y z s ≡ true →
    by_number x z t ≡ true
number_passed x y z r s true h e f = grind (arith, nat_tests)
number_passed x y z true true false h e f = absurd (cc (h refl refl))
number_passed x y z true false false h e f = grind (arith, nat_tests)
number_passed x y z false s false h e f = grind (arith, nat_tests)

number_same : (x y : ℕ) (r s : Bool) → by_number x y r ≡ true → by_number y x s ≡ true → x ≡ y
number_same x y r s e f = grind (arith, nat_tests)

number_rest : (x y : ℕ) (r s : Bool) → by_number x y r ≡ true → by_number y x s ≡ true → r ≡ true
number_rest x y true s e f = refl
number_rest x y false s e f = grind (arith, nat_tests)

-- ---- by a place, then by the rest

place_by : (p q : Place) (b c : Bool) (r : Bool) → is_place_before p q ≡ b → is_place_before q p ≡ c →
    by_place p q r ≡ (if b then true else if c then false else r)
place_by p q b c r e f = λ i. if e i then true else if f i then false else r

never_both : (p q : Place) → is_place_before p q ≡ true → is_place_before q p ≡ false
never_both p q e = go (is_place_before q p) refl
  where
    go : (b : Bool) → is_place_before q p ≡ b → is_place_before q p ≡ false
    go true f = absurd (cc (before_is_passed_on p q p e f, never_before_itself p))
    go false f = f

place_total : (p q : Place) (r s : Bool) → (r ≡ false → s ≡ true) → by_place p q r ≡ false → by_place q p s ≡ true
place_total p q r s h e = go (is_place_before p q) (is_place_before q p) refl refl
  where
    go : (b c : Bool) → is_place_before p q ≡ b → is_place_before q p ≡ c → by_place q p s ≡ true
    go true c f g = absurd (cc (sym (place_by p q true c r f g) ∙ e))
    go false true f g = place_by q p true false s g f
    go false false f g = place_by q p false false s g f ∙ h (sym (place_by p q false false r f g) ∙ e)

-- where by_place holds, p is before q, or they are one place and the rest holds
place_cases : (p q : Place) (r : Bool) → by_place p q r ≡ true → (is_place_before p q ≡ true) ⊎ ((p ≡ q) × (r ≡ true))
place_cases p q r e = go (is_place_before p q) (is_place_before q p) refl refl
  where
    go : (b c : Bool) → is_place_before p q ≡ b → is_place_before q p ≡ c → (is_place_before p q ≡ true) ⊎ ((p ≡ q) × (r ≡ true))
    go true c f g = inl f
    go false true f g = absurd (cc (sym (place_by p q false true r f g) ∙ e))
    go false false f g = inr (one_is_before p q f g, sym (place_by p q false false r f g) ∙ e)

place_first : (p q : Place) (r : Bool) → is_place_before p q ≡ true → by_place p q r ≡ true
place_first p q r e = ap (λ b. if b then true else if is_place_before q p then false else r) e

place_here : (p : Place) (r : Bool) → by_place p p r ≡ r
place_here p r = place_by p p false false r (never_before_itself p) (never_before_itself p)

place_passed : (p q z : Place) (r s t : Bool) → (r ≡ true → s ≡ true → t ≡ true) → by_place p q r ≡ true → by_place q z s ≡ true →
    by_place p z t ≡ true
place_passed p q z r s t h e f = go (place_cases p q r e) (place_cases q z s f)
  where
    go : (is_place_before p q ≡ true) ⊎ ((p ≡ q) × (r ≡ true)) → (is_place_before q z ≡ true) ⊎ ((q ≡ z) × (s ≡ true)) →
        by_place p z t ≡ true
    go (inl a) (inl b) = place_first p z t (before_is_passed_on p q z a b)
    go (inl a) (inr b) = place_first p z t (sym (ap (is_place_before p) b.0) ∙ a)
    go (inr a) (inl b) = place_first p z t (ap (λ x. is_place_before x z) a.0 ∙ b)
    go (inr a) (inr b) = ap (λ x. by_place x z t) (a.0 ∙ b.0) ∙ place_here z t ∙ h a.1 b.1

place_same : (p q : Place) (r s : Bool) → by_place p q r ≡ true → by_place q p s ≡ true → (p ≡ q) × (r ≡ true)
place_same p q r s e f = go (place_cases p q r e) (place_cases q p s f)
  where
    go : (is_place_before p q ≡ true) ⊎ ((p ≡ q) × (r ≡ true)) → (is_place_before q p ≡ true) ⊎ ((q ≡ p) × (s ≡ true)) →
        (p ≡ q) × (r ≡ true)
    go (inr a) b = a
    go (inl a) (inl b) = absurd (cc (b, never_both p q a))
    go (inl a) (inr b) = absurd (cc (a, ap (λ x. is_place_before p x) b.0, never_before_itself p))

-- ---- keys

kind_at : ℕ → Kind
kind_at zero = Overflow
kind_at (suc zero) = DivideByZero
kind_at (suc (suc zero)) = OutOfRange
kind_at (suc (suc (suc zero))) = TooWide
kind_at (suc (suc (suc (suc zero)))) = ReadConflict
kind_at n = WriteConflict

kind_back : (k : Kind) → kind_at (rank k) ≡ k
unfolding kind_at
kind_back Overflow = refl
kind_back DivideByZero = refl
kind_back OutOfRange = refl
kind_back TooWide = refl
kind_back ReadConflict = refl
kind_back WriteConflict = refl

same_kind : (k l : Kind) → rank k ≡ rank l → k ≡ l
same_kind k l e = sym (kind_back k) ∙ ap kind_at e ∙ kind_back l

same_class : (b c : Bool) → class_of b ≡ class_of c → b ≡ c
same_class true true e = refl
same_class true false e = absurd (omega (arith, e))
same_class false true e = absurd (omega (arith, e))
same_class false false e = refl

-- what decides where all before it is equal
abbrev by_line : Key → Key → Bool
by_line a b = nat_le a.line b.line

abbrev by_kind : Key → Key → Bool
by_kind a b = by_number (rank a.kind) (rank b.kind) (by_line a b)

abbrev by_places : Key → Key → Bool
by_places a b = by_place a.place b.place (by_kind a b)

abbrev by_class : Key → Key → Bool
by_class a b = by_number (class_of a.conflict) (class_of b.conflict) (by_places a b)

abbrev by_position : Key → Key → Bool
by_position a b = by_number a.position b.position (by_class a b)

line_total : (x y : ℕ) → nat_le x y ≡ false → nat_le y x ≡ true
line_total x y e = grind (arith, nat_tests)

line_passed : (x y z : ℕ) → nat_le x y ≡ true → nat_le y z ≡ true → nat_le x z ≡ true
line_passed x y z e f = grind (arith, nat_tests)

line_same : (x y : ℕ) → nat_le x y ≡ true → nat_le y x ≡ true → x ≡ y
line_same x y e f = grind (arith, nat_tests)

pub first_total : (a b : Key) → is_first a b ≡ false → is_first b a ≡ true
first_total a b =
    number_total a.count b.count (by_position a b) (by_position b a)
    (number_total a.position b.position (by_class a b) (by_class b a)
    (number_total (class_of a.conflict) (class_of b.conflict) (by_places a b) (by_places b a)
    (place_total a.place b.place (by_kind a b) (by_kind b a)
    (number_total (rank a.kind) (rank b.kind) (by_line a b) (by_line b a) (line_total a.line b.line)))))

first_passed : (a b c : Key) → is_first a b ≡ true → is_first b c ≡ true → is_first a c ≡ true
first_passed a b c =
    number_passed a.count b.count c.count (by_position a b) (by_position b c) (by_position a c)
    (number_passed a.position b.position c.position (by_class a b) (by_class b c) (by_class a c)
    (number_passed (class_of a.conflict) (class_of b.conflict) (class_of c.conflict) (by_places a b) (by_places b c) (by_places a c)
    (place_passed a.place b.place c.place (by_kind a b) (by_kind b c) (by_kind a c)
    (number_passed (rank a.kind) (rank b.kind) (rank c.kind) (by_line a b) (by_line b c) (by_line a c)
    (line_passed a.line b.line c.line)))))

pub first_same : (a b : Key) → is_first a b ≡ true → is_first b a ≡ true → a ≡ b
first_same a b e f =
    let e1 = number_rest a.count b.count (by_position a b) (by_position b a) e f in
    let f1 = number_rest b.count a.count (by_position b a) (by_position a b) f e in
    let e2 = number_rest a.position b.position (by_class a b) (by_class b a) e1 f1 in
    let f2 = number_rest b.position a.position (by_class b a) (by_class a b) f1 e1 in
    let e3 = number_rest (class_of a.conflict) (class_of b.conflict) (by_places a b) (by_places b a) e2 f2 in
    let f3 = number_rest (class_of b.conflict) (class_of a.conflict) (by_places b a) (by_places a b) f2 e2 in
    let p = place_same a.place b.place (by_kind a b) (by_kind b a) e3 f3 in
    let q = place_same b.place a.place (by_kind b a) (by_kind a b) f3 e3 in
    let e4 = number_rest (rank a.kind) (rank b.kind) (by_line a b) (by_line b a) p.1 q.1 in
    let f4 = number_rest (rank b.kind) (rank a.kind) (by_line b a) (by_line a b) q.1 p.1 in
    λ i. record {
      count = number_same a.count b.count (by_position a b) (by_position b a) e f i;
      position = number_same a.position b.position (by_class a b) (by_class b a) e1 f1 i;
      conflict = same_class a.conflict b.conflict (number_same (class_of a.conflict) (class_of b.conflict) (by_places a b) (by_places b a)
          e2 f2) i;
      place = p.0 i;
      kind = same_kind a.kind b.kind (number_same (rank a.kind) (rank b.kind) (by_line a b) (by_line b a) p.1 q.1) i;
      line = line_same a.line b.line e4 f4 i;
    }

-- ---- what decides first

number_first : (x y : ℕ) (r : Bool) → x < y → by_number x y r ≡ true
number_first x y r h = grind (arith, nat_tests)

number_here : (x y : ℕ) (r : Bool) → x ≡ y → by_number x y r ≡ r
number_here x y true h = grind (arith, nat_tests)
number_here x y false h = grind (arith, nat_tests)

pub by_earlier_statement : (a b : Key) → a.count < b.count → is_first a b ≡ true
by_earlier_statement a b h = number_first a.count b.count (by_position a b) h

pub by_lesser_position : (a b : Key) → a.count ≡ b.count → a.position < b.position → is_first a b ≡ true
by_lesser_position a b e h = number_here a.count b.count (by_position a b) e ∙ number_first a.position b.position (by_class a b) h

class_first : (b c r : Bool) → b ≡ false → c ≡ true → by_number (class_of b) (class_of c) r ≡ true
class_first false true r e f = refl
class_first true c r e f = absurd (cc e)
class_first false false r e f = absurd (cc f)

pub by_lesser_class : (a b : Key) → a.count ≡ b.count → a.position ≡ b.position → a.conflict ≡ false → b.conflict ≡ true →
    is_first a b ≡ true
by_lesser_class a b e f g h =
    number_here a.count b.count (by_position a b) e ∙ number_here a.position b.position (by_class a b) f
    ∙ class_first a.conflict b.conflict (by_places a b) g h

pub by_earlier_place : (a b : Key) → a.count ≡ b.count → a.position ≡ b.position → a.conflict ≡ b.conflict →
    is_place_before a.place b.place ≡ true → is_first a b ≡ true
by_earlier_place a b e f g h =
    number_here a.count b.count (by_position a b) e ∙ number_here a.position b.position (by_class a b) f
    ∙ number_here (class_of a.conflict) (class_of b.conflict) (by_places a b) (ap class_of g) ∙ place_first a.place b.place (by_kind a b) h

pick_first : (a b : Key) → is_first a b ≡ true → first_key a b ≡ a
pick_first a b h = ap (λ c. if c then a else b) h

pick_last : (a b : Key) → is_first a b ≡ false → first_key a b ≡ b
pick_last a b h = ap (λ c. if c then a else b) h

first_commutes : (a b : Key) → first_key a b ≡ first_key b a
first_commutes a b = go (either (is_first a b)) (either (is_first b a))
  where
    go : (is_first a b ≡ true) ⊎ (is_first a b ≡ false) → (is_first b a ≡ true) ⊎ (is_first b a ≡ false) → first_key a b ≡ first_key b a
    go (inl h) (inl g) = pick_first a b h ∙ first_same a b h g ∙ sym (pick_first b a g)
    go (inl h) (inr g) = pick_first a b h ∙ sym (pick_last b a g)
    go (inr h) (inl g) = pick_last a b h ∙ sym (pick_first b a g)
    go (inr h) (inr g) = absurd (cc (first_total a b h, g))

last_passed : (a b c : Key) → is_first a b ≡ false → is_first b c ≡ false → first_key a c ≡ c
last_passed a b c h g = go (either (is_first a c))
  where
    back : is_first c a ≡ true
    back = first_passed c b a (first_total b c g) (first_total a b h)

    go : (is_first a c ≡ true) ⊎ (is_first a c ≡ false) → first_key a c ≡ c
    go (inl k) = pick_first a c k ∙ first_same a c k back
    go (inr k) = pick_last a c k

first_associates : (a b c : Key) → first_key (first_key a b) c ≡ first_key a (first_key b c)
first_associates a b c = go (either (is_first a b)) (either (is_first b c))
  where
    go : (is_first a b ≡ true) ⊎ (is_first a b ≡ false) → (is_first b c ≡ true) ⊎ (is_first b c ≡ false) →
        first_key (first_key a b) c ≡ first_key a (first_key b c)
    go (inl h) (inl g) = ap (λ x. first_key x c) (pick_first a b h) ∙ pick_first a c (first_passed a b c h g)
        ∙ sym (ap (first_key a) (pick_first b c g) ∙ pick_first a b h)
    go (inl h) (inr g) = ap (λ x. first_key x c) (pick_first a b h) ∙ sym (ap (first_key a) (pick_last b c g))
    go (inr h) (inl g) = ap (λ x. first_key x c) (pick_last a b h) ∙ pick_first b c g
        ∙ sym (ap (first_key a) (pick_first b c g) ∙ pick_last a b h)
    go (inr h) (inr g) = ap (λ x. first_key x c) (pick_last a b h) ∙ pick_last b c g
        ∙ sym (ap (first_key a) (pick_last b c g) ∙ last_passed a b c h g)

-- ---- what may be missing

module _ {A : Type 0} (op : A → A → A) (assoc : (a b c : A) → op (op a b) c ≡ op a (op b c)) (comm : (a b : A) → op a b ≡ op b a) where
  together_associates : (x y z : Option A) → together op (together op x y) z ≡ together op x (together op y z)
  together_associates None y z = refl
  together_associates (Some a) None z = refl
  together_associates (Some a) (Some b) None = refl
  together_associates (Some a) (Some b) (Some c) = ap Some (assoc a b c)

  together_commutes : (x y : Option A) → together op x y ≡ together op y x
  together_commutes None None = refl
  together_commutes None (Some b) = refl
  together_commutes (Some a) None = refl
  together_commutes (Some a) (Some b) = ap Some (comm a b)

  pub together_is_monoid : IsMonoid (Option A) None (together op)
  together_is_monoid = record { neutral = λ x. refl; associative = together_associates; commutative = together_commutes }

pub keys_are_monoid : IsMonoid (Option Key) None least
keys_are_monoid = together_is_monoid first_key first_associates first_commutes

-- nothing beside a key leaves it
pub none_least : (x : Option Key) → least x None ≡ x
none_least None = refl
none_least (Some a) = refl

-- a key twice is the key
pub least_again : (x : Option Key) → least x x ≡ x
least_again None = refl
least_again (Some a) = ap Some (go (is_first a a))
  where
    go : (b : Bool) → (if b then a else a) ≡ a
    go true = refl
    go false = refl
