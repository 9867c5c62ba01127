-- Keys that ascend behind those that are linked.
use Rattle.std.proofs.Common.{◌≡◌, ℕ, zero, suc, ◌+◌, ◌<◌, ◌≤◌, List, [], ◌∷◌, ◌++◌, length, take, get_or, Bool, true, false, refl, sym, ap}
use Rattle.std.proofs.Common.{◌∙◌, subst, arith, ⊎_elim, length-append}
use Rattle.std.specs.Prelude.{◌==◌, if◌then◌else◌}
use Rattle.std.proofs.lemmas.List.{get_or_push, get_or_append_left, get_or-take, length-take, length-take-le, take-append-le}
use Rattle.std.proofs.Math.Seq.{take-length}
use Rattle.std.proofs.lemmas.Bool.{cases_lt}
use Rattle.combining.specs.Places.{place_of, AreApart, AscendFrom, IsLinked, IsIndexed}
use Rattle.combining.proofs.Chains.{place_none, place_here}

-- a key that is among the first ones has its place there
pub place_take : (key : ℕ) (keys : List ℕ) (n : ℕ) → place_of key (take n keys) < length (take n keys) →
    place_of key (take n keys) ≡ place_of key keys
place_take key [] zero l = absurd (omega (arith, l))
place_take key [] (suc n) l = absurd (omega (arith, l))
place_take key (k ∷ ks) zero l = absurd (omega (arith, l))
place_take key (k ∷ ks) (suc n) l = go (k == key) (place_take key ks n) l
  where
    go : (b : Bool) → (place_of key (take n ks) < length (take n ks) → place_of key (take n ks) ≡ place_of key ks) →
        (if b then 0 else suc (place_of key (take n ks))) < suc (length (take n ks))
        → (if b then 0 else suc (place_of key (take n ks))) ≡ (if b then 0 else suc (place_of key ks))
    go true e m = refl
    go false e m = ap suc (e (omega (arith, m)))

pub place_above : (key : ℕ) (keys : List ℕ) → ((i : ℕ) → i < length keys → get_or keys i 0 < key) → length keys ≡ place_of key keys
place_above key keys h = place_none key keys (λ j l e. let b = h j l in absurd (omega (arith, b, e)))

pub place_last : (key : ℕ) (keys : List ℕ) (n m : ℕ) → AscendFrom m keys → m ≤ n → n < length keys → get_or keys n 0 ≡ key →
    n ≡ place_of key keys
place_last key keys n m ascend small l e =
    place_here key keys n l e (λ j i f. let b = ascend j n i small l in absurd (omega (arith, b, e, f)))

-- all keys are below one that is above the last
pub below_more : (keys : List ℕ) (n m key : ℕ) → AscendFrom m keys → m ≤ n → n + 1 ≡ length keys → get_or keys n 0 < key → (i : ℕ) →
    i < length keys → get_or keys i 0 < key
below_more keys n m key ascend small last less i l =
    ⊎_elim
    (λ lt. let b = ascend i n lt small (omega (arith, last)) in omega (arith, b, less))
    (λ ge. let q : n ≡ i = omega (arith, ge, last, l) in subst (λ (x : ℕ). get_or keys x 0 < key) q less)
    (cases_lt i n)

module _ (keys : List ℕ) (key m : ℕ) (below : (i : ℕ) → i < length keys → get_or keys i 0 < key) where
  longer : length (keys ++ key ∷ []) ≡ length keys + 1
  longer = length-append keys (key ∷ [])

  newest : get_or (keys ++ key ∷ []) (length keys) 0 ≡ key
  newest = get_or_push keys key 0 (length keys) refl

  pub ascend_more : AscendFrom m keys → AscendFrom m (keys ++ key ∷ [])
  ascend_more ascend i j less small l =
      ⊎_elim
      (λ lt.
      let a = get_or_append_left keys (key ∷ []) 0 i (omega (arith, less, lt)) in
      let b = get_or_append_left keys (key ∷ []) 0 j lt in
      let c = ascend i j less small lt in
      omega (arith, a, b, c))
      (λ ge.
      let q : length keys ≡ j = (let n = longer in omega (arith, ge, l, n)) in
      let a = get_or_append_left keys (key ∷ []) 0 i (omega (arith, less, q)) in
      let b : get_or (keys ++ key ∷ []) j 0 ≡ key = subst (λ (x : ℕ). get_or (keys ++ key ∷ []) x 0 ≡ key) q newest in
      let c = below i (omega (arith, less, q)) in
      omega (arith, a, b, c))
      (cases_lt j (length keys))

-- how many are linked
pub few_linked : (mask : ℕ) (keys links heads : List ℕ) → IsIndexed mask keys links heads → length links ≤ length keys
few_linked mask keys links heads indexed =
    let e = indexed.linked.as_many ∙ length-take (length links) keys in omega (arith, e)

-- all are
pub all_linked : (mask : ℕ) (keys links heads : List ℕ) → IsIndexed mask keys links heads → length keys ≤ length links →
    IsLinked mask keys links heads
all_linked mask keys links heads indexed many =
    let few = few_linked mask keys links heads indexed in
    let e : length links ≡ length keys = omega (arith, many, few) in
    subst (λ (ks : List ℕ). IsLinked mask ks links heads) (ap (λ n. take n keys) e ∙ take-length keys) indexed.linked

pub IsIndexed_linked : (mask : ℕ) (keys links heads : List ℕ) → IsLinked mask keys links heads → IsIndexed mask keys links heads
IsIndexed_linked mask keys links heads linked =
    let e = linked.as_many in
    record {
      linked = subst (λ (ks : List ℕ). IsLinked mask ks links heads) (sym (ap (λ n. take n keys) e ∙ take-length keys)) linked;
      ascend = λ i j less small l. absurd (omega (arith, e, small, l));
    }

-- one more is linked
pub IsIndexed_next : (mask : ℕ) (keys links heads more heads' : List ℕ) → IsIndexed mask keys links heads →
    length more ≡ length links + 1 → IsLinked mask (take (length links + 1) keys) more heads' → IsIndexed mask keys more heads'
IsIndexed_next mask keys links heads more heads' indexed one linked = record {
  linked = subst (λ (n : ℕ). IsLinked mask (take n keys) more heads') (sym one) linked;
  ascend = λ i j less small l. indexed.ascend i j less (omega (arith, one, small)) l;
}

-- one more is above all
pub IsIndexed_above : (mask : ℕ) (keys links heads : List ℕ) (key : ℕ) → IsIndexed mask keys links heads →
    ((i : ℕ) → i < length keys → get_or keys i 0 < key) → IsIndexed mask (keys ++ key ∷ []) links heads
IsIndexed_above mask keys links heads key indexed below = record {
  linked = subst (λ (ks : List ℕ). IsLinked mask ks links heads)
      (sym (take-append-le (length links) keys (key ∷ []) (few_linked mask keys links heads indexed))) indexed.linked;
  ascend = ascend_more keys key (length links) below indexed.ascend;
}

-- with no links
pub IsIndexed_ascending : (mask : ℕ) (keys others heads : List ℕ) → IsIndexed mask others [] heads → AscendFrom 0 keys →
    IsIndexed mask keys [] heads
IsIndexed_ascending mask keys others heads indexed ascend = record { linked = indexed.linked; ascend = ascend }

-- no two are equal
pub apart : (mask : ℕ) (keys links heads : List ℕ) → IsIndexed mask keys links heads → AreApart keys
apart mask keys links heads indexed i j less l e =
    let few = few_linked mask keys links heads indexed in
    let n = length-take-le (length links) keys few in
    ⊎_elim
    (λ lt.
    indexed.linked.apart i j less (omega (arith, lt, n))
    (get_or-take (length links) keys i 0 (omega (arith, less, lt)) ∙ e ∙ sym (get_or-take (length links) keys j 0 lt)))
    (λ ge. let b = indexed.ascend i j less ge l in absurd (omega (arith, b, e)))
    (cases_lt j (length links))
