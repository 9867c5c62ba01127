-- The replies of all modules, of each of which some words were taken.
use Rattle.std.proofs.Common.{◌≡◌, ℕ, zero, suc, ◌+◌, ◌<◌, ◌≤◌, List, [], ◌∷◌, length, get_or, set, drop, Bool, replicate, refl, sym, ap}
use Rattle.std.proofs.Common.{◌∙◌, subst, ◌-◌, arith, map, Bor}
use Rattle.std.specs.Prelude.{if◌then◌else◌}
use Rattle.std.proofs.lemmas.List.{get_or-set_same, get_or-set_other, drop_more, drop_all}
use Rattle.std.proofs.lemmas.Bool.{eq-eqb, ne_eqb}
use Rattle.combining.specs.Asked.{HeldAsk, answered, replied}
use Rattle.combining.specs.Came.{all_replied, left_of_all}

abbrev zeros : ℕ → List ℕ
zeros n = replicate n 0

none_taken : (n k : ℕ) → get_or (zeros n) k 0 ≡ 0
none_taken zero k = refl
none_taken (suc n) zero = refl
none_taken (suc n) (suc k) = none_taken n k

pub all_left : (n k : ℕ) (replies : List (List ℕ)) → left_of_all (zeros n) k replies ≡ replies
all_left n k [] = refl
all_left n k (ws ∷ rest) = ap (λ m. drop m ws ∷ left_of_all (zeros n) (k + 1) rest) (none_taken n k) ∙ ap (λ us. ws ∷ us)
    (all_left n (k + 1) rest)

-- a reply without words changes nothing
pub nothing_replied : (part : ℕ → ℕ) (k : ℕ) (held : List HeldAsk) → replied part k [] held ≡ held
nothing_replied part k [] = refl
nothing_replied part k (x ∷ rest) = refl

module _ (part : ℕ → ℕ) (home : ℕ) where
  -- a reply of another module, or an empty one, passes over an ask
  passes : (q : HeldAsk) → part q.ask.cell ≡ home → (k : ℕ) (ws : List ℕ) → (k ≡ home → ws ≡ []) → (rest : List HeldAsk) →
      replied part k ws (q ∷ rest) ≡ q ∷ replied part k ws rest
  passes q here k [] empty rest = ap (λ xs. q ∷ xs) (sym (nothing_replied part k rest))
  passes q here k (w ∷ ws) empty rest =
      let apart : part q.ask.cell ≡ k → ⊥ = λ e. cc (empty (sym e ∙ here)) in
      ap (λ (b : Bool). if b then answered q w ∷ replied part k ws rest else q
      ∷ replied part k (w ∷ ws) rest) (ne_eqb (part q.ask.cell) k apart)

  -- and so do those of all later modules
  later : (q : HeldAsk) → part q.ask.cell ≡ home → (columns : List (List ℕ)) (k : ℕ) → home < k → (rest : List HeldAsk) →
      all_replied part k columns (q ∷ rest) ≡ q ∷ all_replied part k columns rest
  later q here [] k l rest = refl
  later q here (ws ∷ columns) k l rest =
      ap (all_replied part (k + 1) columns) (passes q here k ws (λ e. absurd (omega (arith, e, l))) rest)
      ∙ later q here columns (k + 1) (omega (arith, l)) (replied part k ws rest)

  module _ (taken : List ℕ) (n : ℕ) (is : get_or taken home 0 ≡ n) (q : HeldAsk) (here : part q.ask.cell ≡ home) where
    -- nothing is left for it
    pub none_left : (replies : List (List ℕ)) (k : ℕ) → ((d : ℕ) → home ≡ k + d → d < length replies → length (get_or replies d []) ≤ n) →
        (rest : List HeldAsk) → all_replied part k (left_of_all taken k replies) (q ∷ rest) ≡ q ∷ all_replied part k
        (left_of_all taken k replies) rest
    none_left [] k few rest = refl
    none_left (r ∷ replies) k few rest =
        ap (all_replied part (k + 1) (left_of_all taken (k + 1) replies))
        (passes q here k (drop (get_or taken k 0) r)
        (λ e. let at : home ≡ k + 0 = omega (arith, e) in
        ap (λ j. drop (get_or taken j 0) r) e ∙ ap (λ m. drop m r) is ∙ drop_all n r (few 0 at (omega arith))) rest)
        ∙ none_left replies (k + 1) (λ d e l. few (suc d) (omega (arith, e)) (omega (arith, l)))
        (replied part k (drop (get_or taken k 0) r) rest)

    left_same : (v : ℕ) (replies : List (List ℕ)) (k : ℕ) → home < k → left_of_all (set taken home v) k replies ≡ left_of_all
        taken k replies
    left_same v [] k l = refl
    left_same v (r ∷ replies) k l =
        ap (λ m. drop m r ∷ left_of_all (set taken home v) (k + 1) replies)
        (get_or-set_other taken home k v 0 (λ e. absurd (omega (arith, e, l))))
        ∙ ap (λ us. drop (get_or taken k 0) r ∷ us) (left_same v replies (k + 1) (omega (arith, l)))

    -- the next word of its module is for it
    pub one_taken : home < length taken → (replies : List (List ℕ)) (k d : ℕ) → home ≡ k + d → d < length replies →
        n < length (get_or replies d []) →
        (rest : List HeldAsk) →
        all_replied part k (left_of_all taken k replies) (q ∷ rest)
        ≡ answered q (get_or (get_or replies d []) n 0) ∷ all_replied part k (left_of_all (set taken home (n + 1)) k replies) rest
    one_taken known [] k d at l some rest = absurd (omega (arith, l))
    one_taken known (r ∷ replies) k zero at l some rest =
        let same : k ≡ home = omega (arith, at) in
        let w = get_or r n 0 in
        let behind = drop (n + 1) r in
        let next = left_of_all taken (k + 1) replies in
        ap (λ m. all_replied part (k + 1) next (replied part k (drop m r) (q ∷ rest))) (ap (λ j. get_or taken j 0) same ∙ is)
        ∙ ap (λ us. all_replied part (k + 1) next (replied part k us (q ∷ rest))) (drop_more r n 0 some)
        ∙ ap (λ (b : Bool). all_replied part (k + 1) next (if b then answered q w ∷ replied part k behind rest else q
        ∷ replied part k (w ∷ behind) rest))
        (eq-eqb (part q.ask.cell) k (here ∙ sym same))
        ∙ later (answered q w) here next (k + 1) (omega (arith, same)) (replied part k behind rest)
        ∙ ap (λ us. answered q w ∷ all_replied part (k + 1) us (replied part k behind rest))
        (sym (left_same (n + 1) replies (k + 1) (omega (arith, same))))
        ∙ ap (λ m. answered q w ∷ all_replied part (k + 1) (left_of_all (set taken home (n + 1)) (k + 1) replies)
        (replied part k (drop m r) rest))
        (sym (ap (λ j. get_or (set taken home (n + 1)) j 0) same ∙ get_or-set_same taken home (n + 1) 0 known))
    one_taken known (r ∷ replies) k (suc d) at l some rest =
        let apart : k ≡ home → ⊥ = λ e. absurd (omega (arith, e, at)) in
        ap (all_replied part (k + 1) (left_of_all taken (k + 1) replies))
        (passes q here k (drop (get_or taken k 0) r) (λ e. absurd (apart e))
        rest)
        ∙ one_taken known replies (k + 1) d (omega (arith, at)) (omega (arith, l)) some (replied part k (drop (get_or taken k 0) r) rest)
        ∙ ap (λ m. answered q (get_or (get_or replies d []) n 0)
        ∷ all_replied part (k + 1) (left_of_all (set taken home (n + 1)) (k + 1) replies) (replied part k (drop m r) rest))
        (sym (get_or-set_other taken home k (n + 1) 0 apart))

-- to no asks goes nothing
pub nothing_held : (part : ℕ → ℕ) (columns : List (List ℕ)) (k : ℕ) → all_replied part k columns [] ≡ []
nothing_held part [] k = refl
nothing_held part (ws ∷ columns) k = nothing_held part columns (k + 1)

-- one of some borrowed lists
pub at_each : (rows : List (Bor (List ℕ))) (n : ℕ) (d : Bor (List ℕ)) → n < length rows →
    (get_or rows n d).now ≡ get_or (map (λ x. x.now) rows) n []
at_each [] n d l = absurd (omega (arith, l))
at_each (row ∷ rows) zero d l = refl
at_each (row ∷ rows) (suc n) d l = at_each rows n d (omega (arith, l))

-- what is set anew
pub set_again : {X : Type 0} (xs : List X) (i : ℕ) (a b : X) → set (set xs i a) i b ≡ set xs i b
set_again [] i a b = refl
set_again (x ∷ xs) zero a b = refl
set_again (x ∷ xs) (suc i) a b = ap (λ ys. x ∷ ys) (set_again xs i a b)

-- lists that are the same from one place on are so from a later one on
pub same_further : {X : Type 0} (i k : ℕ) (xs ys : List X) → i ≤ k → drop i xs ≡ drop i ys → drop k xs ≡ drop k ys
same_further {X} i k xs ys l e = subst (λ (n : ℕ). drop n xs ≡ drop n ys) (omega (arith, l)) (further (k - i))
  where
    one_more : (n : ℕ) (zs : List X) → drop (suc n) zs ≡ drop 1 (drop n zs)
    one_more zero zs = refl
    one_more (suc n) [] = refl
    one_more (suc n) (z ∷ zs) = one_more n zs

    further : (d : ℕ) → drop (d + i) xs ≡ drop (d + i) ys
    further zero = subst (λ (n : ℕ). drop n xs ≡ drop n ys) (omega arith) e
    further (suc d) = let next : suc (d + i) ≡ suc d + i = omega arith in
        subst (λ (n : ℕ). drop n xs ≡ drop n ys) next (one_more (d + i) xs ∙ ap (drop 1) (further d) ∙ sym (one_more (d + i) ys))
