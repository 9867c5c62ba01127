-- Places are in a strict linear order.
use Rattle.std.proofs.Common.{◌≡◌, true, false, arith, ap, refl}
use Rattle.std.proofs.lemmas.Int.{ints}
use Rattle.pram_values.specs.declared.place.Place.{Place}
use Rattle.pram_values.specs.declared.place.Place.TheVariants.{All, Processor, Cell}
use Rattle.pram_values.specs.Place.{is_place_before}

pub never_before_itself : (p : Place) → is_place_before p p ≡ false
never_before_itself All = refl
never_before_itself (Processor i) = grind (arith, ints)
never_before_itself (Cell c) = grind arith

pub before_is_passed_on : (p q r : Place) → is_place_before p q ≡ true → is_place_before q r ≡ true → is_place_before p r ≡ true
before_is_passed_on All All r a b = absurd (cc a)
before_is_passed_on All (Processor j) All a b = absurd (cc b)
before_is_passed_on All (Processor j) (Processor k) a b = refl
before_is_passed_on All (Processor j) (Cell e) a b = refl
before_is_passed_on All (Cell d) All a b = absurd (cc b)
before_is_passed_on All (Cell d) (Processor k) a b = refl
before_is_passed_on All (Cell d) (Cell e) a b = refl
before_is_passed_on (Processor i) All r a b = absurd (cc a)
before_is_passed_on (Processor i) (Processor j) All a b = absurd (cc b)
before_is_passed_on (Processor i) (Processor j) (Processor k) a b = grind (arith, ints)
before_is_passed_on (Processor i) (Processor j) (Cell e) a b = refl
before_is_passed_on (Processor i) (Cell d) All a b = absurd (cc b)
before_is_passed_on (Processor i) (Cell d) (Processor k) a b = absurd (cc b)
before_is_passed_on (Processor i) (Cell d) (Cell e) a b = refl
before_is_passed_on (Cell c) All r a b = absurd (cc a)
before_is_passed_on (Cell c) (Processor j) r a b = absurd (cc a)
before_is_passed_on (Cell c) (Cell d) All a b = absurd (cc b)
before_is_passed_on (Cell c) (Cell d) (Processor k) a b = absurd (cc b)
before_is_passed_on (Cell c) (Cell d) (Cell e) a b = grind arith

pub one_is_before : (p q : Place) → is_place_before p q ≡ false → is_place_before q p ≡ false → p ≡ q
one_is_before All All a b = refl
one_is_before All (Processor j) a b = absurd (cc a)
one_is_before All (Cell d) a b = absurd (cc a)
one_is_before (Processor i) All a b = absurd (cc b)
one_is_before (Processor i) (Processor j) a b = ap Processor (grind (arith, ints))
one_is_before (Processor i) (Cell d) a b = absurd (cc a)
one_is_before (Cell c) All a b = absurd (cc b)
one_is_before (Cell c) (Processor j) a b = absurd (cc b)
one_is_before (Cell c) (Cell d) a b = ap Cell (grind arith)
