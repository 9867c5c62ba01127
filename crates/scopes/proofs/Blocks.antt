-- What is found block by block.
use Rattle.std.proofs.Common.{◌≡◌, ℕ, ◌+◌, ◌*◌, ◌≤◌, ℤ, List, [], ◌∷◌, ◌++◌, zero, suc, length, take, drop, get_or, refl, ap, sym, ◌∙◌}
use Rattle.std.proofs.Common.{arith}
use Rattle.std.proofs.lemmas.List.{take_all, length-take, length-drop}
use Rattle.std.proofs.Math.Seq.{take-nil}
use Rattle.pram_check.specs.Checked.{Checked}
use Rattle.scopes.proofs.Placed.{drop_further}
use Rattle.scopes.specs.Found.{Found, found}
use Rattle.scopes.specs.Merged.{merged}
use Rattle.scopes.specs.declared.specification.Specification.{Specification}
use Rattle.scopes.proofs.Merges.{blocks_are_merged}

take_more : (a b m : ℕ) (xs : List (List ℤ)) → m ≡ a + b → take a xs ++ take b (drop a xs) ≡ take m xs
take_more zero b m xs e = ap (λ (j : ℕ). take j xs) (let f : b ≡ m = omega (arith, e) in f)
take_more (suc a) b zero xs e = absurd (omega (arith, e))
take_more (suc a) b (suc m) [] e = take-nil b
take_more (suc a) b (suc m) (x ∷ xs) e = ap (λ ys. x ∷ ys) (take_more a b m xs (omega (arith, e)))

-- further on
pub dropped_on : (a b : ℕ) (xs : List (List ℤ)) → drop (a + b) xs ≡ drop b (drop a xs)
dropped_on a b xs = sym (drop_further a b (a + b) xs refl)

at_next : {X : Type 0} (xs : List X) (x d : X) (ys : List X) → get_or (xs ++ x ∷ ys) (length xs) d ≡ x
at_next [] x d ys = refl
at_next (z ∷ xs) x d ys = at_next xs x d ys

-- one block more
pub one_more : (s : Specification) (p : Checked) (n : ℕ) (inputs : List (List ℤ)) (k j size : ℕ) (f g h : Found) →
    f ≡ found s p n (take (k * size) inputs) →
    g ≡ found s p n (take size (drop (k * size) inputs)) → h ≡ merged f g → j ≡ k + 1 → h ≡ found s p n (take (j * size) inputs)
one_more s p n inputs k j size f g h fs gs is next =
    let behind : j * size ≡ k * size + size = ap (λ (i : ℕ). i * size) next ∙ (let e : (k + 1) * size ≡ k * size + size = grind
    arith in e) in
    is ∙ ap (λ (f : Found). merged f g) fs ∙ ap (merged (found s p n (take (k * size) inputs))) gs
    ∙ sym (blocks_are_merged s p n (take (k * size) inputs) (take size (drop (k * size) inputs)))
    ∙ ap (found s p n) (take_more (k * size) size (j * size) inputs behind)

-- as many inputs as there are in both blocks, and no more than there are in all
pub room_for : (s : Specification) (p : Checked) (n : ℕ) (inputs : List (List ℤ)) (k size : ℕ) (f g : Found) →
    f ≡ found s p n (take (k * size) inputs) →
    g ≡ found s p n (take size (drop (k * size) inputs)) → f.inputs + g.inputs ≤ length inputs
room_for s p n inputs k size f g fs gs =
    let a = ap (λ (f : Found). f.inputs) fs in
    let b = ap (λ (f : Found). f.inputs) gs in
    let c = length-take (k * size) inputs in
    let d = length-take size (drop (k * size) inputs) in
    let e = length-drop (k * size) inputs in
    omega (arith, a, b, c, d, e)

-- the next one of a list
pub next_is : {X : Type 0} (xs : List X) (x d : X) (ys all : List X) → xs ++ x ∷ ys ≡ all → get_or all (length xs) d ≡ x
next_is xs x d ys all e = ap (λ zs. get_or zs (length xs) d) (sym e) ∙ at_next xs x d ys

-- all blocks
pub all_blocks : (s : Specification) (p : Checked) (n : ℕ) (inputs : List (List ℤ)) (m : ℕ) (f : Found) →
    f ≡ found s p n (take m inputs) → length inputs ≤ m →
    f ≡ found s p n inputs
all_blocks s p n inputs m f is enough = is ∙ ap (found s p n) (take_all m inputs enough)
