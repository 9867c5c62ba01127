-- How far an exploration has come.
use Rattle.std.proofs.Common.{◌≡◌, ◌⊎◌, inl, inr, ℕ, zero, suc, ◌<◌, ◌≤◌, ℤ, List, [], ◌∷◌, ◌++◌, length, take, refl, ap, sym, ◌∙◌, arith}
use Rattle.std.proofs.lemmas.List.{append_assoc, length_push, take_all}
use Rattle.pram_check.specs.Checked.{Checked}
use Rattle.scopes.specs.Found.{Found, found, nothing, with_input}
use Rattle.scopes.specs.declared.specification.Specification.{Specification}
use Rattle.scopes.proofs.Pushed.{input_added}

-- of all inputs, those before the ones that are left are explored, no more than `most`, and this is found of them
pub record Explored (s : Specification) (p : Checked) (n : ℕ) (whole : List (List ℤ)) (most : ℕ) (left : List (List ℤ))
    (f : Found) : Type 0 where
  pub before : List (List ℤ)
  pub all : whole ≡ before ++ left
  pub few : length before ≤ most
  pub are_found : f ≡ found s p n before

-- of nothing
pub none_yet : (s : Specification) (p : Checked) (n : ℕ) (whole left : List (List ℤ)) (most : ℕ) (f : Found) → whole ≡ left → f ≡ nothing →
    Explored s p n whole most left f
none_yet s p n whole left most f all is = record { before = []; all = all; few = omega arith; are_found = is }

-- one input further
pub further : (s : Specification) (p : Checked) (n : ℕ) (whole : List (List ℤ)) (most : ℕ) (left rest : List (List ℤ)) (here : List ℤ)
    (f g : Found) →
    Explored s p n whole most left f → f.inputs < most → left ≡ here ∷ rest →
    g ≡ with_input s p n here f → Explored s p n whole most rest g
further s p n whole most left rest here f g e room is adds = record {
  before = e.before ++ here ∷ [];
  all = e.all ∙ ap (λ (ys : List (List ℤ)). e.before ++ ys) is ∙ sym (append_assoc e.before (here ∷ []) rest);
  few = let k = length_push e.before here in let l = ap (λ (f : Found). f.inputs) e.are_found in omega (arith, k, l, room);
  are_found = adds ∙ ap (with_input s p n here) e.are_found ∙ sym (input_added s p n e.before here);
}

take_before : (before left : List (List ℤ)) (most : ℕ) → length before ≤ most → (left ≡ []) ⊎ (most ≤ length before) →
    take most (before ++ left) ≡ before
take_before [] left zero few over = refl
take_before [] [] (suc m) few over = refl
take_before [] (x ∷ left) (suc m) few (inl over) = absurd (let P : (x ∷ left) ≡ [] → ⊥ = λ h. cc in P over)
take_before [] (x ∷ left) (suc m) few (inr over) = absurd (omega (arith, over))
take_before (b ∷ before) left zero few over = absurd (omega (arith, few))
take_before (b ∷ before) left (suc m) few (inl over) = ap (λ bs. b ∷ bs) (take_before before left m (omega (arith, few)) (inl over))
take_before (b ∷ before) left (suc m) few (inr over) =
    ap (λ bs. b ∷ bs) (take_before before left m (omega (arith, few)) (inr (omega (arith, over))))

-- where none is left, or as many were explored as was wanted
pub explored : (s : Specification) (p : Checked) (n : ℕ) (whole : List (List ℤ)) (most : ℕ) (left : List (List ℤ)) (f : Found) →
    Explored s p n whole most left f → (left ≡ []) ⊎ (most ≤ f.inputs) → f ≡ found s p n (take most whole)
explored s p n whole most left f e over =
    let long : f.inputs ≡ length e.before = ap (λ (f : Found). f.inputs) e.are_found in
    let enough : (left ≡ []) ⊎ (most ≤ length e.before) =
    elim over [ inl none ↦ inl none | inr many ↦ inr (omega (arith, long, many)) ] in
    e.are_found ∙ sym (ap (λ (ys : List (List ℤ)). found s p n ys) (ap (take most) e.all ∙ take_before e.before left most e.few enough))

-- as many as there are, or more
pub all_taken : (s : Specification) (p : Checked) (n most : ℕ) (all : List (List ℤ)) (f : Found) → f ≡ found s p n (take most all) →
    length all ≤ most →
    f ≡ found s p n all
all_taken s p n most all f is few = is ∙ ap (found s p n) (take_all most all few)

pub fewer : (left rest : List (List ℤ)) (here : List ℤ) → left ≡ here ∷ rest → length rest < length left
fewer left rest here is =
    let whole = ap (λ (ys : List (List ℤ)). length ys) is in omega arith
