-- Who reads a cell together with another: told reader by reader, or once for the cell.
use Rattle.std.proofs.Common.{◌≡◌, ◌≢◌, ℕ, List, [], ◌∷◌, Bool, true, false, not, ◌||◌, ◌&&◌, if◌then◌else◌, cond, Option, Some, None, ℤ}
use Rattle.std.proofs.Common.{refl, sym, ap, ◌∙◌, arith}
use Rattle.std.proofs.lemmas.Int.{ints}
use Rattle.std.specs.List.{AllByRecursion, list_any}
use Rattle.pram_values.specs.Total.{IsMonoid, total}
use Rattle.pram_values.specs.Truth.{is_equal}
use Rattle.superstep_machine.specs.Sending.{several, asks_for, is_several}
use Rattle.statement_evaluation.proofs.Sums.{is_at}
use Rattle.pram_values.proofs.TruthValues.{is_equal-self}

pub unequal : (i j : ℤ) → i ≢ j → is_equal i j ≡ false
unequal i j h = grind (arith, ints, h)

-- no two of these have one index
abbrev pub IsApart : (ℕ → ℤ) → List ℕ → Type 0
IsApart index [] = Unit {0}
IsApart index (v ∷ vs) = AllByRecursion (λ u. index v ≢ index u) vs × IsApart index vs

module _ (index : ℕ → ℤ) (cell : ℕ → Option ℕ) (c : ℕ) where
  abbrev reads : ℕ → Bool
  reads v = is_at c (cell v)

  -- another one reads it
  abbrev pub other : List ℕ → ℕ → Bool
  other all v = list_any (λ u. not (is_equal (index v) (index u)) && reads u) all

  abbrev some : List ℕ → Bool
  some = list_any reads

  abbrev pub askers : List ℕ → Option Bool
  askers = total None several (λ v. asks_for c (cell v))

  asks_is : (o : Option ℕ) → asks_for c o ≡ (if is_at c o then Some false else None)
  asks_is None = refl
  asks_is (Some d) = refl

  -- for one apart from them
  other_some : (v : ℕ) (us : List ℕ) → AllByRecursion (λ u. index v ≢ index u) us → other us v ≡ some us
  other_some v [] h = refl
  other_some v (u ∷ us) h = λ i. (not (unequal (index v) (index u) h.0 i) && reads u) || other_some v us h.1 i

  is_some : Option Bool → Bool
  is_some None = false
  is_some (Some b) = true

  joins : (a : Bool) (o : Option Bool) (s : Bool) → is_some o ≡ s → is_some (several (if a then Some false else None) o) ≡ (a || s)
  unfolding is_some
  joins false o s e = e
  joins true None s e = refl
  joins true (Some b) s e = refl

  askers_some : (us : List ℕ) → is_some (askers us) ≡ some us
  unfolding is_some
  askers_some [] = refl
  askers_some (u ∷ us) = ap (λ a. is_some (several a (askers us))) (asks_is (cell u))
      ∙ joins (reads u) (askers us) (some us) (askers_some us)

  second : (o : Option Bool) → is_several (several (Some false) o) ≡ is_some o
  unfolding is_some
  second None = refl
  second (Some b) = refl

  module _ {M : Type 0} (e : M) (op : M → M → M) (m : IsMonoid M e op) (k : M) (again : op k k ≡ k) where
    abbrev when : Bool → M
    when b = if b then k else e

    right : (x : M) → op x e ≡ x
    right x = m.commutative x e ∙ m.neutral x

    twice : (b : Bool) → op (when b) (when b) ≡ when b
    twice true = again
    twice false = m.neutral e

    with_one : (b : Bool) → op k (when b) ≡ k
    with_one true = again
    with_one false = right k

    -- what is to be said, where f says whether one before them reads it
    abbrev said : Bool → List ℕ → M
    said true vs = when (some vs)
    said false vs = when (is_several (askers vs))

    abbrev Sees : List ℕ → Bool → List ℕ → Type 0
    Sees all f vs = AllByRecursion (λ v. other all v ≡ (f || other vs v)) vs

    seen_on : (all : List ℕ) (f : Bool) (v : ℕ) (vs us : List ℕ) → AllByRecursion (λ u. index v ≢ index u) us →
        AllByRecursion (λ u. other all u ≡ (f || other (v ∷ vs) u)) us →
        AllByRecursion (λ u. other all u ≡ ((f || reads v) || other vs u)) us
    seen_on all f v vs [] a s = tt
    seen_on all f v vs (u ∷ us) a s = (
      s.0 ∙ (λ i. f || ((not (unequal (index u) (index v) (λ e. a.0 (sym e)) i) && reads v) || other vs u))
          ∙ regroup f (reads v) (other vs u),
      seen_on all f v vs us a.1 s.1,
    )
      where
        regroup : (x y z : Bool) → (x || (y || z)) ≡ ((x || y) || z)
        regroup true y z = refl
        regroup false y z = refl

    sum_is : (all : List ℕ) (f : Bool) (vs : List ℕ) → IsApart index vs → Sees all f vs →
        total e op (λ v. cond (reads v) (when (other all v)) e) vs ≡ said f vs
    sum_is all true [] a s = refl
    sum_is all false [] a s = refl
    sum_is all f (v ∷ vs) a s =
        ap (λ b. op (cond (reads v) (when b) e) (total e op (λ v. cond (reads v) (when (other all v)) e) vs)) here
        ∙ ap (op (cond (reads v) (when (f || some vs)) e)) (sum_is all (f || reads v) vs a.1 (seen_on all f v vs vs a.0 s.1))
        ∙ go f (reads v) refl
      where
        here : other all v ≡ (f || some vs)
        here = s.0 ∙ (λ i. f || ((not (is_equal-self (index v) i) && reads v) || other_some v vs a.0 i))

        count : (b : Bool) → reads v ≡ b → askers (v ∷ vs) ≡ several (if b then Some false else None) (askers vs)
        count b h = ap (λ x. several x (askers vs)) (asks_is (cell v) ∙ ap (λ x. if x then Some false else None) h)

        go : (f b : Bool) → reads v ≡ b → op (cond b (when (f || some vs)) e) (said (f || b) vs) ≡ said f (v ∷ vs)
        go true true h = with_one (some vs) ∙ sym (ap (λ b. when (b || some vs)) h)
        go true false h = m.neutral (when (some vs)) ∙ sym (ap (λ b. when (b || some vs)) h)
        go false true h = twice (some vs) ∙ sym (ap (λ o. when (is_several o)) (count true h)
            ∙ ap when (second (askers vs) ∙ askers_some vs))
        go false false h = m.neutral (when (is_several (askers vs))) ∙ sym (ap (λ o. when (is_several o)) (count false h))

    see_all : (vs us : List ℕ) → AllByRecursion (λ v. other vs v ≡ (false || other vs v)) us
    see_all vs [] = tt
    see_all vs (u ∷ us) = (refl, see_all vs us)

    -- reader by reader, if another one reads the cell; or once, if several do
    pub told_once : (vs : List ℕ) → IsApart index vs → total e op (λ v. cond (reads v) (when (other vs v)) e) vs
        ≡ when (is_several (askers vs))
    told_once vs a = sum_is vs false vs a (see_all vs vs)
