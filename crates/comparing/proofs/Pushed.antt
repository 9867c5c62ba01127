-- What is found with one input more.
use Rattle.std.proofs.Common.{◌≡◌, ◌<◌, ◌≤◌, ℕ, Bool, true, false, nat_lt, cond, Option, Some, None, ℤ, List, [], ◌∷◌, ◌++◌, length, take}
use Rattle.std.proofs.Common.{ap, map, refl, sym, inl, inr, ◌+◌, ◌∙◌, arith}
use Rattle.std.proofs.lemmas.Bool.{cases_lt}
use Rattle.std.proofs.lemmas.Bool.Decides.{nat_tests}
use Rattle.std.proofs.lemmas.List.{append-nil, length-take-le, length_push, map_push, take-append-le}
use Rattle.std.proofs.lemmas.List.Elements.{filter-append, filter_map-append}
use Rattle.std.specs.List.{cons_option}
use Rattle.std.specs.Option.{option_map}
use Rattle.std.specs.Prelude.{if◌then◌else◌, is_none}
use Rattle.pram_check.specs.Checked.{Checked}
use Rattle.comparing.specs.declared.compared.Compared.{Compared}
use Rattle.comparing.specs.declared.difference.Difference.{Difference}
use Rattle.comparing.specs.declared.trial.Trial.{Trial}
use Rattle.comparing.specs.Found.{Differing, added, difference_on, differing, differing_on, found, found_of_counting, noted, same, skipped}
use Rattle.comparing.specs.Found.{trial_on, with_input, with_more}
use Rattle.comparing.specs.Scores.{score_of, scored}
use Rattle.comparing.proofs.Scored.{score_more}
use Rattle.scopes.specs.Specified.{counting, counts}
use Rattle.scopes.proofs.Pushed.{counts_not, counts_too}
use Rattle.scopes.proofs.Lists.{take_over}

-- ---- one more of those that are told

fitting : (most : ℕ) (ds : List Differing) (d : Differing) → length ds < most → with_more most (take most ds) d ≡ take most (ds ++ d ∷ [])
fitting most ds d lt =
    let all : take most ds ≡ ds = take_over ds most (omega (arith, lt)) in
    let room : nat_lt (length ds) most ≡ true = grind (arith, nat_tests) in
    let long = length_push ds d in
    ap (λ (es : List Differing). with_more most es d) all ∙ ap (λ (b : Bool). if b then ds ++ d ∷ [] else ds) room
    ∙ sym (take_over (ds ++ d ∷ []) most (omega (arith, lt, long)))

no_room : (most many : ℕ) → many ≡ most → nat_lt many most ≡ false
no_room most many e = grind (arith, nat_tests)

full : (most : ℕ) (ds : List Differing) (d : Differing) → most ≤ length ds → with_more most (take most ds) d ≡ take most (ds ++ d ∷ [])
full most ds d le =
    let many : length (take most ds) ≡ most = length-take-le most ds le in
    ap (λ (b : Bool). if b then take most ds ++ d ∷ [] else take most ds) (no_room most (length (take most ds)) many)
    ∙ sym (take-append-le most ds (d ∷ []) le)

pub one_more : (most : ℕ) (ds : List Differing) (d : Differing) → with_more most (take most ds) d ≡ take most (ds ++ d ∷ [])
one_more most ds d = elim (cases_lt (length ds) most) [
  | inl lt ↦ fitting most ds d lt
  | inr le ↦ full most ds d le
]

-- ---- one input more

kept : (p q : Checked) (c : Compared) (n : ℕ) (xs : List (List ℤ)) (x : List ℤ) (o : Option Difference) → difference_on p q c n x ≡ o →
    same p q c n (xs ++ x ∷ []) ≡ same p q c n xs ++ cond (is_none o) (x ∷ []) []
kept p q c n xs x o e =
    filter-append (λ (y : List ℤ). is_none (difference_on p q c n y)) xs (x ∷ [])
    ∙ ap (λ (v : Option Difference). same p q c n xs ++ cond (is_none v) (x ∷ []) []) e

told : (p q : Checked) (c : Compared) (n : ℕ) (xs : List (List ℤ)) (x : List ℤ) (o : Option Difference) → difference_on p q c n x ≡ o →
    differing p q c n (xs ++ x ∷ [])
    ≡ differing p q c n xs ++ cons_option (option_map (λ (d : Difference). record { input = x; difference = d }) o) []
told p q c n xs x o e =
    filter_map-append (differing_on p q c n) xs (x ∷ [])
    ∙ ap (λ (v : Option Difference). differing p q c n xs
    ++ cons_option (option_map (λ (d : Difference). record { input = x; difference = d }) v) []) e

scored_more : (p q : Checked) (c : Compared) (n : ℕ) (xs : List (List ℤ)) (x : List ℤ) →
    score_of (map (trial_on p q c n) (xs ++ x ∷ [])) ≡ scored (trial_on p q c n x) (score_of (map (trial_on p q c n) xs))
scored_more p q c n xs x =
    ap (λ (ts : List Trial). score_of ts) (map_push (trial_on p q c n) xs x) ∙ score_more (map (trial_on p q c n) xs) (trial_on p q c n x)

run_added : (p q : Checked) (c : Compared) (n most m k : ℕ) (xs : List (List ℤ)) (x : List ℤ) (o : Option Difference) →
    difference_on p q c n x ≡ o → k ≡ m + 1 →
    found_of_counting p q c n most k (xs ++ x ∷ [])
    ≡ (record (noted most o x (found_of_counting p q c n most m xs)) {
      score = scored (trial_on p q c n x) (score_of (map (trial_on p q c n) xs));
    })
run_added p q c n most m k xs x None e add =
    let ss = kept p q c n xs x None e in
    let ds = told p q c n xs x None e ∙ append-nil (differing p q c n xs) in
    λ i. record {
      inputs = add i;
      counting = (length_push xs x) i;
      same = (ap (λ (ys : List (List ℤ)). length ys) ss ∙ length_push (same p q c n xs) x) i;
      score = (scored_more p q c n xs x) i;
      told = take most (ds i);
    }
run_added p q c n most m k xs x (Some d) e add =
    let ss = kept p q c n xs x (Some d) e ∙ append-nil (same p q c n xs) in
    let one : Differing = record { input = x; difference = d } in
    let ds = told p q c n xs x (Some d) e in
    λ i. record {
      inputs = add i;
      counting = (length_push xs x) i;
      same = length (ss i);
      score = (scored_more p q c n xs x) i;
      told = (ap (take most) ds ∙ sym (one_more most (differing p q c n xs) one)) i;
    }

input_step : (w : Option Checked) (p q : Checked) (c : Compared) (n most : ℕ) (xs : List (List ℤ)) (x : List ℤ) (b : Bool) →
    counts w n x ≡ b → found w p q c n most (xs ++ x ∷ [])
    ≡ (if b then added most (trial_on p q c n x) x (found w p q c n most xs) else skipped (found w p q c n most xs))
input_step w p q c n most xs x true e =
    ap (found_of_counting p q c n most (length (xs ++ x ∷ []))) (counts_too w n xs x e)
    ∙ run_added p q c n most (length xs) (length (xs ++ x ∷ [])) (counting w n xs) x (difference_on p q c n x) refl (length_push xs x)
input_step w p q c n most xs x false e =
    ap (found_of_counting p q c n most (length (xs ++ x ∷ []))) (counts_not w n xs x e)
    ∙ ap (λ (k : ℕ). found_of_counting p q c n most k (counting w n xs)) (length_push xs x)

-- what is found of inputs and one more
pub input_added : (w : Option Checked) (p q : Checked) (c : Compared) (n most : ℕ) (xs : List (List ℤ)) (x : List ℤ) →
    found w p q c n most (xs ++ x ∷ []) ≡ with_input w p q c n most x (found w p q c n most xs)
input_added w p q c n most xs x = input_step w p q c n most xs x (counts w n x) refl
