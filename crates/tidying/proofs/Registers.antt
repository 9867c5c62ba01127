-- What registers hold behind a step, where they held the same before it.
use Rattle.std.proofs.Common.{◌≡◌, ℕ, ◌+◌, List, [], ◌∷◌, map, Bool, true, false, eqb, Option, Some, None, ℤ, pos, refl, sym, ap, ◌∙◌}
use Rattle.std.proofs.Common.{subst}
use Rattle.std.specs.Prelude.{if◌then◌else◌}
use Rattle.std.specs.List.{AllByRecursion, zip}
use Rattle.std.proofs.lemmas.Bool.{eq-eqb, eqb-true}
use Rattle.pram_model.proofs.Truths.{unsome}
use Rattle.superstep_machine.specs.Parts.{Registers, set_register, Read, zeros}
use Rattle.superstep_machine.specs.Steps.{zero_without}
use Rattle.superstep_machine.specs.Answering.{answer, answers, destinations}
use Rattle.tidying.specs.Rows.{Row, Has, Holds, Refines, is_none, unless, put_into, asked_into, left_at, own_place, in_place, one_place}
use Rattle.tidying.specs.Rows.{in_both, all_zero}

pub no_number : (o : Option ℤ) (x : ℤ) → is_none o ≡ true → Has o x
no_number None x h = tt
no_number (Some n) x h = cc

other_than : (e t : ℕ) (o : Option ℕ) → unless e o ≡ Some t → (o ≡ Some t) × (eqb e t ≡ false)
other_than e t None h = cc
other_than e t (Some s) h = go (eqb e s) refl h
  where
    go : (b : Bool) → eqb e s ≡ b → (if b then None else Some s) ≡ Some t → (Some s ≡ Some t) × (eqb e t ≡ false)
    go true q w = cc
    go false q w = (w, ap (eqb e) (sym (unsome s t w)) ∙ q)

module _ (number : ℕ → Option ℤ) where
  pub refined : (there here : Row) (r other : Registers) → Refines there here → Holds number here r other → Holds number there r other
  refined there here r other f h s t e = h s t (f s t e)

  -- one result, put into two registers
  pub put_holds : (row : Row) (r other : Registers) → Holds number row r other → (fits : Bool) (d e : ℕ) (x : ℤ) →
      (fits ≡ true → Has (number d) x) → Holds number (put_into fits d e row) (set_register d x r) (set_register e x other)
  put_holds row r other h fits d e x has s t = go (eqb d s) refl
    where
      chosen : (f : Bool) → (if f then Some e else None) ≡ Some t → (f ≡ true) × (e ≡ t)
      chosen true w = (refl, unsome e t w)
      chosen false w = cc

      go : (b : Bool) → eqb d s ≡ b → (if b then (if fits then Some e else None) else unless e (row s)) ≡ Some t →
          ((if eqb e t then x else other t) ≡ (if b then x else r s)) × Has (number s) (if eqb e t then x else other t)
      go true q w =
          let c = chosen fits w in
          let g : (if eqb e t then x else other t) ≡ x = ap (λ b. if b then x else other t) (eq-eqb e t c.1) in
          (g, subst (λ y. Has (number s) y) (sym g) (subst (λ z. Has (number z) x) (eqb-true d s q) (has c.0)))
      go false q w =
          let c = other_than e t (row s) w in
          let g : (if eqb e t then x else other t) ≡ other t = ap (λ b. if b then x else other t) c.1 in
          let o = h s t c.0 in
          (g ∙ o.0, subst (λ y. Has (number s) y) (sym g) o.1)

  -- a register that lies in its place gets something in both
  pub same_holds : (row : Row) (r other : Registers) → Holds number row r other → (d : ℕ) (x : ℤ) → row d ≡ Some d →
      is_none (number d) ≡ true → Holds number (asked_into d row) (set_register d x r) (set_register d x other)
  same_holds row r other h d x here none s t = go (eqb d s) refl
    where
      go : (b : Bool) → eqb d s ≡ b → (if b then row s else unless d (row s)) ≡ Some t →
          ((if eqb d t then x else other t) ≡ (if b then x else r s)) × Has (number s) (if eqb d t then x else other t)
      go true q w =
          let c : d ≡ t = unsome d t (sym here ∙ ap row (eqb-true d s q) ∙ w) in
          let g : (if eqb d t then x else other t) ≡ x = ap (λ b. if b then x else other t) (eq-eqb d t c) in
          (g, no_number (number s) (if eqb d t then x else other t) (ap (λ z. is_none (number z)) (sym (eqb-true d s q)) ∙ none))
      go false q w =
          let c = other_than d t (row s) w in
          let g : (if eqb d t then x else other t) ≡ other t = ap (λ b. if b then x else other t) c.1 in
          let o = h s t c.0 in
          (g ∙ o.0, subst (λ y. Has (number s) y) (sym g) o.1)

  asked_refines : (row : Row) (d : ℕ) → Refines (asked_into d row) row
  asked_refines row d s t = go (eqb d s)
    where
      go : (b : Bool) → (if b then row s else unless d (row s)) ≡ Some t → row s ≡ Some t
      go true w = w
      go false w = (other_than d t (row s) w).0

  pub asked_holds : (row : Row) (r other : Registers) → Holds number row r other → (d : ℕ) (cell : Option ℕ) → row d ≡ Some d →
      is_none (number d) ≡ true → Holds number (asked_into d row) (zero_without cell d r) (zero_without cell d other)
  asked_holds row r other h d None here none = same_holds row r other h d (pos 0) here none
  asked_holds row r other h d (Some c) here none = refined (asked_into d row) row r other (asked_refines row d) h

  -- the one code alone sets a register
  pub left_holds : (row : Row) (r other : Registers) → Holds number row r other → (fits : Bool) (d : ℕ) (place : Option ℕ) (x : ℤ) →
      (fits ≡ true → is_none (number d) ≡ true) → (fits ≡ true → (t : ℕ) → place ≡ Some t → other t ≡ x) →
      Holds number (left_at fits d place row) (set_register d x r) other
  left_holds row r other h fits d place x none is s t = go (eqb d s) refl
    where
      chosen : (f : Bool) → (if f then place else None) ≡ Some t → (f ≡ true) × (place ≡ Some t)
      chosen true w = (refl, w)
      chosen false w = cc

      go : (b : Bool) → eqb d s ≡ b → (if b then (if fits then place else None) else row s) ≡ Some t →
          (other t ≡ (if b then x else r s)) × Has (number s) (other t)
      go true q w =
          let c = chosen fits w in
          (is c.0 t c.1, no_number (number s) (other t) (ap (λ z. is_none (number z)) (sym (eqb-true d s q)) ∙ none c.0))
      go false q w = h s t w

  pub zero_holds : Holds number (all_zero number) zeros zeros
  zero_holds s t = go (is_none (number s)) refl
    where
      go : (b : Bool) → is_none (number s) ≡ b → (if b then Some s else None) ≡ Some t → (pos 0 ≡ pos 0) × Has (number s) (pos 0)
      go true q w = (refl, no_number (number s) (pos 0) q)
      go false q w = cc

  both_first : (a b : Option ℕ) (t : ℕ) → one_place a b ≡ Some t → (a ≡ Some t) × (b ≡ Some t)
  both_first None b t h = cc
  both_first (Some x) None t h = cc
  both_first (Some x) (Some y) t h = go (eqb x y) refl h
    where
      go : (b : Bool) → eqb x y ≡ b → (if b then Some y else None) ≡ Some t → (Some x ≡ Some t) × (Some y ≡ Some t)
      go true q w = (ap (λ z. Some z) (eqb-true x y q) ∙ w, w)
      go false q w = cc

  pub first_holds : (a b : Row) (r other : Registers) → Holds number a r other → Holds number (in_both a b) r other
  first_holds a b r other h s t e = h s t (both_first (a s) (b s) t e).0

  pub second_holds : (a b : Row) (r other : Registers) → Holds number b r other → Holds number (in_both a b) r other
  second_holds a b r other h s t e = h s t (both_first (a s) (b s) t e).1

  -- ---- a reply

  abbrev pub IsOwn : Row → Type 0
  IsOwn row = (s t : ℕ) → row s ≡ Some t → s ≡ t

  in_own : (row : Row) → IsOwn (in_place row)
  in_own row s t = go (row s)
    where
      go : (o : Option ℕ) → own_place s o ≡ Some t → s ≡ t
      go None w = cc
      go (Some y) w = chosen (eqb s y) refl w
        where
          chosen : (b : Bool) → eqb s y ≡ b → (if b then Some y else None) ≡ Some t → s ≡ t
          chosen true q v = eqb-true s y q ∙ unsome y t v
          chosen false q v = cc

  own_refines : (row : Row) → Refines (in_place row) row
  own_refines row s t = go (row s)
    where
      go : (o : Option ℕ) → own_place s o ≡ Some t → o ≡ Some t
      go None w = w
      go (Some y) w = chosen (eqb s y) w
        where
          chosen : (b : Bool) → (if b then Some y else None) ≡ Some t → Some y ≡ Some t
          chosen true v = v
          chosen false v = cc

  set_own : (row : Row) → IsOwn row → (r other : Registers) → Holds number row r other → (d : ℕ) (x : ℤ) → is_none (number d) ≡ true →
      Holds number row (set_register d x r) (set_register d x other)
  set_own row own r other h d x none s t e =
      subst (λ z. ((if eqb d z then x else other z) ≡ (if eqb d s then x else r s)) × Has (number s) (if eqb d z then x else other z))
      (own s t e) (go (eqb d s) refl)
    where
      o : (other s ≡ r s) × Has (number s) (other s)
      o = subst (λ z. (other z ≡ r s) × Has (number s) (other z)) (sym (own s t e)) (h s t e)

      go : (b : Bool) → eqb d s ≡ b → ((if b then x else other s) ≡ (if b then x else r s)) × Has (number s) (if b then x else other s)
      go true q = (refl, no_number (number s) x (ap (λ z. is_none (number z)) (sym (eqb-true d s q)) ∙ none))
      go false q = o

  -- no destination has a number of its own
  abbrev pub AreFree : List ℕ → Type 0
  AreFree = AllByRecursion (λ d. is_none (number d) ≡ true)

  module _ (value : ℕ → ℕ → ℤ) (row : Row) (own : IsOwn row) where
    one_answer : (k d : ℕ) (cell : Option ℕ) (r other : Registers) → is_none (number d) ≡ true → Holds number row r other →
        Holds number row (answer (value k) d cell r) (answer (value k) d cell other)
    one_answer k d None r other none h = h
    one_answer k d (Some c) r other none h = set_own row own r other h d (value k c) none

    own_answers : (k : ℕ) (reads : List ℕ) (cells : List (Option ℕ)) (r other : Registers) → AreFree reads → Holds number row r other →
        Holds number row (answers value k (zip reads cells) r) (answers value k (zip reads cells) other)
    own_answers k [] cells r other free h = h
    own_answers k (d ∷ reads) [] r other free h = h
    own_answers k (d ∷ reads) (cell ∷ cells) r other free h =
        own_answers (k + 1) reads cells (answer (value k) d cell r) (answer (value k) d cell other) free.1
        (one_answer k d cell r other free.0 h)

    uniform_answers : (k : ℕ) (reads : List Read) (r other : Registers) → AreFree (destinations reads) → Holds number row r other →
        Holds number row (answers value k (map (λ (x : Read). (x.destination, x.cell)) reads) r)
        (answers value k (map (λ (x : Read). (x.destination, x.cell)) reads) other)
    uniform_answers k [] r other free h = h
    uniform_answers k (x ∷ reads) r other free h =
        uniform_answers (k + 1) reads (answer (value k) x.destination x.cell r) (answer (value k) x.destination x.cell other) free.1
        (one_answer k x.destination x.cell r other free.0 h)

  pub own_reply : (value : ℕ → ℕ → ℤ) (row : Row) (reads : List ℕ) (cells : List (Option ℕ)) (r other : Registers) → AreFree reads →
      Holds number row r other → Holds number (in_place row) (answers value 0 (zip reads cells) r) (answers value 0 (zip reads cells) other)
  own_reply value row reads cells r other free h =
      own_answers value (in_place row) (in_own row) 0 reads cells r other free (refined (in_place row) row r other (own_refines row) h)

  pub uniform_reply : (value : ℕ → ℕ → ℤ) (row : Row) (reads : List Read) (r other : Registers) → AreFree (destinations reads) →
      Holds number row r other → Holds number (in_place row)
      (answers value 0 (map (λ (x : Read). (x.destination, x.cell)) reads) r)
      (answers value 0 (map (λ (x : Read). (x.destination, x.cell)) reads) other)
  uniform_reply value row reads r other free h =
      uniform_answers value (in_place row) (in_own row) 0 reads r other free (refined (in_place row) row r other (own_refines row) h)
