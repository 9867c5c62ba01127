-- Where there is one module, each cell lies there.
use Rattle.std.proofs.Common.{◌≡◌, ℕ, zero, suc, ◌<◌, List, [], ◌∷◌, drop, true, refl, ap, sym, ◌∙◌, arith, eqb}
use Rattle.combining.specs.Held.{paired}
use Rattle.std.proofs.lemmas.Bool.{eq-eqb}
use Rattle.address_map.specs.Lawful.{Shape, IsLawful}

pub lies_there : (m : Shape) → IsLawful m → m.parts ≡ 1 → (cell : ℕ) → cell < m.count → eqb (m.part cell) 0 ≡ true
lies_there m lawful one cell below =
    let part = lawful.part_below cell below in
    eq-eqb (m.part cell) 0 (omega (arith, part, one))

-- what is behind some pairs goes by what is behind the items
pub drop_paired : {X Y : Type 0} (make : ℕ → X → Y) (i : ℕ) (ks : List ℕ) (xs : List X) →
    drop i (paired make ks xs) ≡ paired make (drop i ks) (drop i xs)
drop_paired make zero ks xs = refl
drop_paired make (suc i) [] xs = refl
drop_paired make (suc i) (k ∷ ks) [] = sym (no_pairs make (drop i ks))
  where
    no_pairs : {X Y : Type 0} (make : ℕ → X → Y) (ks : List ℕ) → paired make ks [] ≡ []
    no_pairs make [] = refl
    no_pairs make (k ∷ ks) = refl
drop_paired make (suc i) (k ∷ ks) (x ∷ xs) = drop_paired make i ks xs

-- lists with the same items behind i are the same pairs there
pub rest_of_pairs : {X Y : Type 0} (make : ℕ → X → Y) (i : ℕ) (ks : List ℕ) (xs ys : List X) → drop i xs ≡ drop i ys →
    drop i (paired make ks xs) ≡ drop i (paired make ks ys)
rest_of_pairs make i ks xs ys e = drop_paired make i ks xs ∙ ap (paired make (drop i ks)) e ∙ sym (drop_paired make i ks ys)
