-- How many inputs differ, which is the first, and which are told.
use Rattle.std.proofs.Common.{◌≡◌, ◌<◌, ℕ, zero, suc, ◌+◌, ◌-◌, max, Option, Some, None, ℤ, List, [], ◌∷◌, cond, length, take}
use Rattle.std.proofs.Common.{refl, ap, sym, ◌∙◌, arith}
use Rattle.std.proofs.lemmas.List.Elements.{All-cons, All-nil}
use Rattle.std.proofs.Math.Seq.{take-nil}
use Rattle.std.proofs.lemmas.List.{length-take}
use Rattle.std.specs.List.{cons_option}
use Rattle.std.specs.Option.{option_map}
use Rattle.std.specs.Prelude.{◌↔◌, ◌/◌, is_none, min, slice_get}
use Rattle.pram_check.specs.Checked.{Checked}
use Rattle.comparing.specs.declared.compared.Compared.{Compared}
use Rattle.comparing.specs.declared.difference.Difference.{Difference}
use Rattle.comparing.specs.Found.{Differing, difference_on, differing, found_of_counting, most_told, same}
use Rattle.comparing.specs.Told.{IsDiffering, IsFirst}

-- ---- how many

count_step : (x : List ℤ) (ss xs : List (List ℤ)) (ds : List Differing) (o : Option Difference) → length ss + length ds ≡ length xs →
    length (cond (is_none o) (x ∷ ss) ss)
    + length (cons_option (option_map (λ (d : Difference). record { input = x; difference = d }) o) ds) ≡ suc (length xs)
count_step x ss xs ds None h = omega arith
count_step x ss xs ds (Some d) h = omega arith

pub counted : (p q : Checked) (c : Compared) (n : ℕ) (inputs : List (List ℤ)) →
    length (same p q c n inputs) + length (differing p q c n inputs) ≡ length inputs
counted p q c n [] = refl
counted p q c n (x ∷ xs) =
    count_step x (same p q c n xs) xs (differing p q c n xs) (difference_on p q c n x) (counted p q c n xs)

none_left : (ds : List Differing) → length ds ≡ 0 → ds ≡ []
none_left [] h = refl
none_left (d ∷ ds) h = absurd (omega (arith, h))

none_taken : (most : ℕ) (ds : List Differing) → 0 < most → take most ds ≡ [] → ds ≡ []
none_taken zero ds some h = absurd (omega (arith, some))
none_taken (suc m) [] some h = refl
none_taken (suc m) (d ∷ ds) some h = absurd (cc h)

pub nothing_told : (p q : Checked) (c : Compared) (n most many : ℕ) (inputs : List (List ℤ)) → 0 < most →
    ((found_of_counting p q c n most many inputs).told ≡ []) ↔ ((found_of_counting p q c n most many inputs).same ≡ length inputs)
nothing_told p q c n most many inputs some =
    let all = counted p q c n inputs in (
      λ h. let none : length (differing p q c n inputs) ≡ 0 =
          ap (λ (ds : List Differing). length ds) (none_taken most (differing p q c n inputs) some h) in
          omega (arith, all, none),
      λ h. ap (take most) (none_left (differing p q c n inputs) (omega (arith, all, h))) ∙ take-nil most,
    )

pub how_many : (p q : Checked) (c : Compared) (n most many : ℕ) (inputs : List (List ℤ)) →
    length (found_of_counting p q c n most many inputs).told ≡ min most (length inputs - (found_of_counting p q c n most many inputs).same)
how_many p q c n most many inputs =
    let all = counted p q c n inputs in
    let differ : length (differing p q c n inputs) ≡ length inputs - length (same p q c n inputs) = omega (arith, all) in
    length-take most (differing p q c n inputs) ∙ ap (min most) differ

at_least_one : (a : ℕ) → 0 < max a 1
at_least_one a = omega arith

pub some_told : (values : ℕ) → 0 < most_told values
some_told values = at_least_one (min (1000000 / max values 1) 1000)

-- what is told stands at its place among all
pub of_taken : (most : ℕ) (ds : List Differing) (k : ℕ) (d : Differing) → slice_get (take most ds) k ≡ Some d → slice_get ds k ≡ Some d
of_taken zero ds k d h = absurd (cc h)
of_taken (suc m) [] k d h = absurd (cc h)
of_taken (suc m) (e ∷ ds) zero d h = h
of_taken (suc m) (e ∷ ds) (suc k) d h = of_taken m ds k d h

-- ---- the first

first_step : (p q : Checked) (c : Compared) (n : ℕ) (x : List ℤ) (xs : List (List ℤ)) (d : Differing) (o : Option Difference) →
    difference_on p q c n x ≡ o → (slice_get (differing p q c n xs) 0 ≡ Some d → IsFirst p q c n xs d) →
    slice_get (cons_option (option_map (λ (e : Difference). record { input = x; difference = e }) o) (differing p q c n xs)) 0 ≡ Some d →
    IsFirst p q c n (x ∷ xs) d
first_step p q c n x xs d None is further h =
    let f = further h in
    record {
      before = x ∷ f.before;
      behind = f.behind;
      all = ap (λ (ys : List (List ℤ)). x ∷ ys) f.all;
      same = All-cons (λ (y : List ℤ). difference_on p q c n y ≡ None) x f.before is f.same;
      differs = f.differs;
    }
first_step p q c n x xs d (Some e) is further h =
    let same_one : (record { input = x; difference = e }) ≡ d = cc h in
    record {
      before = [];
      behind = xs;
      all = ap (λ (f : Differing). f.input ∷ xs) same_one;
      same = All-nil (λ (y : List ℤ). difference_on p q c n y ≡ None);
      differs = ap (λ (f : Differing). difference_on p q c n f.input) (sym same_one) ∙ is
          ∙ ap (λ (f : Differing). Some f.difference) same_one;
    }

pub first_is : (p q : Checked) (c : Compared) (n : ℕ) (inputs : List (List ℤ)) (d : Differing) →
    slice_get (differing p q c n inputs) 0 ≡ Some d → IsFirst p q c n inputs d
first_is p q c n [] d h = absurd (cc h)
first_is p q c n (x ∷ xs) d h = first_step p q c n x xs d (difference_on p q c n x) refl (first_is p q c n xs d) h

-- ---- each that is told

differing_step : (p q : Checked) (c : Compared) (n : ℕ) (x : List ℤ) (xs : List (List ℤ)) (k : ℕ) (d : Differing) (o : Option Difference) →
    difference_on p q c n x ≡ o → ((j : ℕ) → slice_get (differing p q c n xs) j ≡ Some d → IsDiffering p q c n xs j d) →
    slice_get (cons_option (option_map (λ (e : Difference). record { input = x; difference = e }) o) (differing p q c n xs)) k ≡ Some d →
    IsDiffering p q c n (x ∷ xs) k d
differing_step p q c n x xs k d None is further h =
    let f = further k h in
    record {
      before = x ∷ f.before;
      behind = f.behind;
      all = ap (λ (ys : List (List ℤ)). x ∷ ys) f.all;
      many = ap (λ (o : Option Difference). length (cons_option
          (option_map (λ (e : Difference). record { input = x; difference = e }) o) (differing p q c n f.before))) is ∙ f.many;
      differs = f.differs;
    }
differing_step p q c n x xs zero d (Some e) is further h =
    let same_one : (record { input = x; difference = e }) ≡ d = cc h in
    record {
      before = [];
      behind = xs;
      all = ap (λ (f : Differing). f.input ∷ xs) same_one;
      many = refl;
      differs = ap (λ (f : Differing). difference_on p q c n f.input) (sym same_one) ∙ is
          ∙ ap (λ (f : Differing). Some f.difference) same_one;
    }
differing_step p q c n x xs (suc k) d (Some e) is further h =
    let f = further k h in
    record {
      before = x ∷ f.before;
      behind = f.behind;
      all = ap (λ (ys : List (List ℤ)). x ∷ ys) f.all;
      many = ap (λ (o : Option Difference). length (cons_option
          (option_map (λ (e : Difference). record { input = x; difference = e }) o) (differing p q c n f.before))) is ∙ ap suc f.many;
      differs = f.differs;
    }

pub each_is : (p q : Checked) (c : Compared) (n : ℕ) (inputs : List (List ℤ)) (k : ℕ) (d : Differing) →
    slice_get (differing p q c n inputs) k ≡ Some d → IsDiffering p q c n inputs k d
each_is p q c n [] k d h = absurd (cc h)
each_is p q c n (x ∷ xs) k d h =
    differing_step p q c n x xs k d (difference_on p q c n x) refl (λ j at. each_is p q c n xs j d at) h
