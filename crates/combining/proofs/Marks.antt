-- Marks and values, each in a list of its own.
use Rattle.std.proofs.Common.{◌≡◌, ℕ, ℤ, zero, suc, ◌+◌, ◌<◌, ◌≤◌, ◌%◌, ◌^◌, List, [], ◌∷◌, ◌++◌, length, get_or, set, take, map, pos, Bool}
use Rattle.std.proofs.Common.{true, false, refl, sym, ap, ◌∙◌, arith, eqb}
use Rattle.std.specs.Prelude.{if◌then◌else◌}
use Rattle.std.specs.Int.{cast_signed, w64}
use Rattle.std.specs.List.{AllByRecursion}
use Rattle.std.proofs.Common.{min, ⊎_elim}
use Rattle.std.proofs.lemmas.List.{take_all}
use Rattle.std.proofs.lemmas.Bool.{cases_lt}
use native.Mathlib.Numerals.{unary_clauses}
use Rattle.address_map.specs.Lawful.{Shape, IsLawful}
use Rattle.superstep_machine.specs.Words.{ask_word}
use Rattle.combining.specs.Held.{paired}
use Rattle.combining.specs.Asked.{Asked, unasked, both, valued, worded, ask_at, answered, replied, IsAskBelow}
use Rattle.combining.proofs.AllReplies.{nothing_replied}
use Rattle.combining.proofs.OneModule.{lies_there}

pub length_both : (bs : List Bool) (vs : List ℤ) → length (both bs vs) ≡ length bs
length_both [] vs = refl
length_both (b ∷ bs) [] = ap suc (length_both bs [])
length_both (b ∷ bs) (v ∷ vs) = ap suc (length_both bs vs)

-- one ask more, which has no value yet
pub both_push : (bs : List Bool) (vs : List ℤ) (b : Bool) → length vs ≤ length bs →
    both (bs ++ b ∷ []) vs ≡ both bs vs ++ record { again = b; value = pos 0 } ∷ []
both_push [] [] b l = refl
both_push [] (v ∷ vs) b l = absurd (omega arith)
both_push (c ∷ bs) [] b l = ap (λ xs. record { again = c; value = pos 0 } ∷ xs) (both_push bs [] b (omega arith))
both_push (c ∷ bs) (v ∷ vs) b l = ap (λ xs. record { again = c; value = v } ∷ xs) (both_push bs vs b (omega arith))

-- an ask that is marked
pub both_mark : (bs : List Bool) (vs : List ℤ) (i : ℕ) (b : Bool) →
    both (set bs i b) vs ≡ set (both bs vs) i (record { again = b; value = (get_or (both bs vs) i unasked).value })
both_mark [] vs i b = refl
both_mark (c ∷ bs) [] zero b = refl
both_mark (c ∷ bs) (v ∷ vs) zero b = refl
both_mark (c ∷ bs) [] (suc i) b = ap (λ xs. record { again = c; value = pos 0 } ∷ xs) (both_mark bs [] i b)
both_mark (c ∷ bs) (v ∷ vs) (suc i) b = ap (λ xs. record { again = c; value = v } ∷ xs) (both_mark bs vs i b)

-- a value in place of another
pub both_put : (bs : List Bool) (vs : List ℤ) (i : ℕ) (v : ℤ) → i < length vs →
    both bs (set vs i v) ≡ set (both bs vs) i (record { again = (get_or (both bs vs) i unasked).again; value = v })
both_put [] vs i v l = refl
both_put (c ∷ bs) [] i v l = absurd (omega arith)
both_put (c ∷ bs) (u ∷ vs) zero v l = refl
both_put (c ∷ bs) (u ∷ vs) (suc i) v l = ap (λ xs. record { again = c; value = u } ∷ xs) (both_put bs vs i v (omega arith))

-- the first value that is missing
pub both_more : (bs : List Bool) (vs : List ℤ) (v : ℤ) →
    both bs (vs ++ v ∷ []) ≡ set (both bs vs) (length vs) (record { again = (get_or (both bs vs) (length vs) unasked).again; value = v })
both_more [] [] v = refl
both_more [] (u ∷ vs) v = refl
both_more (c ∷ bs) [] v = refl
both_more (c ∷ bs) (u ∷ vs) v = ap (λ xs. record { again = c; value = u } ∷ xs) (both_more bs vs v)

pub both_zero : (bs : List Bool) (vs : List ℤ) → both bs (vs ++ pos 0 ∷ []) ≡ both bs vs
both_zero [] vs = refl
both_zero (c ∷ bs) [] = ap (λ xs. record { again = c; value = pos 0 } ∷ xs) (nothing bs)
  where
    nothing : (bs : List Bool) → both bs [] ≡ both bs []
    nothing bs = refl
both_zero (c ∷ bs) (u ∷ vs) = ap (λ xs. record { again = c; value = u } ∷ xs) (both_zero bs vs)

-- the marks and the values
pub marks_of : (bs : List Bool) (vs : List ℤ) (i : ℕ) → get_or bs i false ≡ (get_or (both bs vs) i unasked).again
marks_of [] vs i = refl
marks_of (b ∷ bs) [] zero = refl
marks_of (b ∷ bs) (v ∷ vs) zero = refl
marks_of (b ∷ bs) [] (suc i) = marks_of bs [] i
marks_of (b ∷ bs) (v ∷ vs) (suc i) = marks_of bs vs i

pub values_of : (bs : List Bool) (vs : List ℤ) (i : ℕ) → length vs ≤ length bs →
    get_or vs i (pos 0) ≡ get_or (map (λ (x : Asked). x.value) (both bs vs)) i (pos 0)
values_of [] [] i l = refl
values_of [] (v ∷ vs) i l = absurd (omega arith)
values_of (b ∷ bs) [] zero l = refl
values_of (b ∷ bs) (v ∷ vs) zero l = refl
values_of (b ∷ bs) [] (suc i) l = values_of bs [] i (omega arith)
values_of (b ∷ bs) (v ∷ vs) (suc i) l = values_of bs vs i (omega arith)

-- all values at once
pub both_words : (bs : List Bool) (ws : List ℕ) → both bs (map (cast_signed w64) (take (length bs) ws)) ≡ worded ws (both bs [])
both_words [] [] = refl
both_words [] (w ∷ ws) = refl
both_words (b ∷ bs) [] = refl
both_words (b ∷ bs) (w ∷ ws) = ap (λ xs. record { again = b; value = cast_signed w64 w } ∷ xs) (both_words bs ws)

-- and one after the other
pub valued_more : (f : ℕ → ℤ) (ws : List ℕ) (xs : List Asked) (i : ℕ) → i < length ws → valued f (take (i + 1) ws) xs
    ≡ set (valued f (take i ws) xs) i (record { again = (get_or (valued f (take i ws) xs) i unasked).again; value = f (get_or ws i 0) })
valued_more f [] xs i l = absurd (omega arith)
valued_more f (w ∷ ws) [] zero l = refl
valued_more f (w ∷ ws) (x ∷ xs) zero l = refl
valued_more f (w ∷ ws) [] (suc i) l = simp unary_clauses refl
valued_more f (w ∷ ws) (x ∷ xs) (suc i) l =
    let e = simp unary_clauses at (valued_more f ws xs i (omega arith)) in
    simp unary_clauses (ap (λ ys. record { again = x.again; value = f w } ∷ ys) e)

-- as many words as there are asks are enough
valued_enough : (f : ℕ → ℤ) (ws : List ℕ) (xs : List Asked) (n : ℕ) → length xs ≤ n → valued f (take n ws) xs ≡ valued f ws xs
valued_enough f [] xs n l = ap (λ us. valued f us xs) (take_all n [] (omega arith))
valued_enough f (w ∷ ws) [] zero l = refl
valued_enough f (w ∷ ws) [] (suc n) l = refl
valued_enough f (w ∷ ws) (x ∷ xs) zero l = absurd (omega arith)
valued_enough f (w ∷ ws) (x ∷ xs) (suc n) l = ap (λ ys. record { again = x.again; value = f w } ∷ ys)
    (valued_enough f ws xs n (omega arith))

pub valued_all : (f : ℕ → ℤ) (ws : List ℕ) (xs : List Asked) (n : ℕ) → n ≡ min (length ws) (length xs) → valued f (take n ws) xs ≡
    valued f ws xs
valued_all f ws xs n e =
    ⊎_elim
    (λ (few : length ws < length xs). ap (λ us. valued f us xs) (take_all n ws (omega (arith, e, few))))
    (λ enough. valued_enough f ws xs n (omega (arith, e, enough)))
    (cases_lt (length ws) (length xs))

pub take_few : (n k : ℕ) (ws : List ℕ) → n ≡ min (length ws) k → take n ws ≡ take k ws
take_few n k ws e =
    ⊎_elim
    (λ (few : length ws < k). take_all n ws (omega (arith, e, few)) ∙ sym (take_all k ws (omega (arith, few))))
    (λ enough. let same : n ≡ k = omega (arith, e, enough) in ap (λ m. take m ws) same)
    (cases_lt (length ws) k)

pub length_valued : (f : ℕ → ℤ) (ws : List ℕ) (xs : List Asked) → length (valued f ws xs) ≡ length xs
length_valued f [] xs = refl
length_valued f (w ∷ ws) [] = refl
length_valued f (w ∷ ws) (x ∷ xs) = ap suc (length_valued f ws xs)

-- where there is one module, its reply goes to all asks
pub worded_replied : (m : Shape) → IsLawful m → m.parts ≡ 1 → (ws : List ℕ) (ks : List ℕ) (xs : List Asked) →
    AllByRecursion (IsAskBelow m.count) (paired ask_at ks xs) → paired ask_at ks (worded ws xs) ≡ replied m.part 0 ws (paired ask_at ks xs)
worded_replied m lawful one [] ks xs h = sym (nothing_replied m.part 0 (paired ask_at ks xs))
worded_replied m lawful one (w ∷ ws) [] [] h = refl
worded_replied m lawful one (w ∷ ws) [] (x ∷ xs) h = refl
worded_replied m lawful one (w ∷ ws) (k ∷ ks) [] h = refl
worded_replied m lawful one (w ∷ ws) (k ∷ ks) (x ∷ xs) h =
    let q = ask_at k x in
    let yes : eqb (m.part q.ask.cell) 0 ≡ true = lies_there m lawful one (k % 2 ^ 20) h.0 in
    ap (λ ys. answered q w ∷ ys) (worded_replied m lawful one ws ks xs h.1)
    ∙ sym (ap (λ (b : Bool). if b then answered q w ∷ replied m.part 0 ws (paired ask_at ks xs) else q
    ∷ replied m.part 0 (w ∷ ws) (paired ask_at ks xs)) yes)

-- the word of an ask goes by its mark
pub same_word : (k : ℕ) (x : Asked) (list : List ℕ) {b : Bool} → b ≡ x.again →
    list ++ ask_word (ask_at k (record { again = b; value = pos 0 })).ask ∷ [] ≡ list ++ ask_word (ask_at k x).ask ∷ []
same_word k x list e = ap (λ b. list ++ ask_word (ask_at k (record { again = b; value = pos 0 })).ask ∷ []) e
