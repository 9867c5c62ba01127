-- Past all lists that begin with values of which two are one.
use Rattle.std.proofs.Common.{◌≡◌, ℕ, suc, ◌+◌, ◌-◌, ◌<◌, ◌≤◌, Bool, true, false, cond, List, [], ◌∷◌, ◌++◌, ℤ, pos, ◌+ℤ◌, ◌≤ℤ◌, set, map}
use Rattle.std.proofs.Common.{length, replicate, get_or, take, drop, refl, ap, sym, ◌∙◌, arith}
use Rattle.std.proofs.lemmas.List.{append_assoc, length-append, length-drop, length-map, length-replicate, length-take-le, replicate_more}
use Rattle.std.proofs.lemmas.List.{set_at, drop_more, take_more, take-append-drop}
use Rattle.std.proofs.lemmas.List.Elements.{All-append, All-replicate, All-same, All-take, filter-append}
use Rattle.std.proofs.lemmas.Int.{ints}
use Rattle.std.specs.List.{filter}
use Rattle.scopes.specs.Lists.{AreWithin, IsWithin, are_apart, each_behind, lists_from, lists_of, values}
use Rattle.scopes.proofs.Clashes.{front_clashes}
use Rattle.scopes.proofs.Steps.{begins, from_last}

none_kept : (p : List ℤ → Bool) (f : List ℤ → List ℤ) (xss : List (List ℤ)) → ((ys : List ℤ) → p (f ys) ≡ false) → filter p (map f xss) ≡ []
none_kept p f [] h = refl
none_kept p f (xs ∷ xss) h = ap (λ (b : Bool). cond b (f xs ∷ filter p (map f xss)) (filter p (map f xss))) (h xs) ∙ none_kept p f xss h

pub some_kept : (p : List ℤ → Bool) (f : List ℤ → List ℤ) (xss : List (List ℤ)) →
    filter p (map f xss) ≡ map f (filter (λ (ys : List ℤ). p (f ys)) xss)
some_kept p f [] = refl
some_kept p f (xs ∷ xss) = some_step p f xs xss (p (f xs)) (some_kept p f xss) where
  some_step : (p : List ℤ → Bool) (f : List ℤ → List ℤ) (xs : List ℤ) (xss : List (List ℤ)) (b : Bool) →
      filter p (map f xss) ≡ map f (filter (λ (ys : List ℤ). p (f ys)) xss) →
      cond b (f xs ∷ filter p (map f xss)) (filter p (map f xss))
      ≡ map f (cond b (xs ∷ filter (λ (ys : List ℤ). p (f ys)) xss) (filter (λ (ys : List ℤ). p (f ys)) xss))
  some_step p f xs xss true e = ap (λ (ys : List (List ℤ)). f xs ∷ ys) e
  some_step p f xs xss false e = e

-- what stands behind such a beginning doesn't matter
pub skip : (low high : ℤ) (front : List ℤ) (x : ℤ) (tail other : List ℤ) → length tail ≡ length other → (p : List ℤ → Bool) →
    ((ys : List ℤ) → p (front ++ x ∷ ys) ≡ false) →
    filter p (lists_from low high (front ++ x ∷ tail)) ≡ filter p (lists_from low high (front ++ x ∷ other))
skip low high [] x tail other same p h =
    let f : List ℤ → List ℤ = λ ys. x ∷ ys in
    let rest : ℕ → List (List ℤ) = λ n. each_behind (values (x +ℤ pos 1) high) (lists_of (values low high) n) in
    filter-append p (map f (lists_from low high tail)) (rest (length tail))
    ∙ ap (λ (xss : List (List ℤ)). xss ++ filter p (rest (length tail))) (none_kept p f (lists_from low high tail) h)
    ∙ ap (λ (n : ℕ). filter p (rest n)) same
    ∙ sym (filter-append p (map f (lists_from low high other)) (rest (length other))
    ∙ ap (λ (xss : List (List ℤ)). xss ++ filter p (rest (length other))) (none_kept p f (lists_from low high other) h))
skip low high (y ∷ front) x tail other same p h =
    let f : List ℤ → List ℤ = λ ys. y ∷ ys in
    let q : List ℤ → Bool = λ ys. p (f ys) in
    let rest : ℕ → List (List ℤ) = λ n. each_behind (values (y +ℤ pos 1) high) (lists_of (values low high) n) in
    let here = front ++ x ∷ tail in
    let there = front ++ x ∷ other in
    let long : length here ≡ length there =
    length-append front (x ∷ tail) ∙ ap (λ (n : ℕ). length front + suc n) same ∙ sym (length-append front (x ∷ other)) in
    filter-append p (map f (lists_from low high here)) (rest (length here))
    ∙ ap (λ (xss : List (List ℤ)). xss ++ filter p (rest (length here)))
    (some_kept p f (lists_from low high here) ∙ ap (map f) (skip low high front x tail other same q h)
    ∙ sym (some_kept p f (lists_from low high there)))
    ∙ ap (λ (n : ℕ). filter p (map f (lists_from low high there)) ++ filter p (rest n)) long
    ∙ sym (filter-append p (map f (lists_from low high there)) (rest (length there)))

-- the fewest are left where the greatest values stand behind
pub fewest : (low high : ℤ) (front : List ℤ) (x : ℤ) (tail : List ℤ) (k : ℕ) → length tail ≡ k →
    length (lists_from low high (front ++ x ∷ replicate k high)) ≤ length (lists_from low high (front ++ x ∷ tail))
fewest low high [] x tail k same =
    let f : List ℤ → List ℤ = λ ys. x ∷ ys in
    let rest : ℕ → List (List ℤ) = λ n. each_behind (values (x +ℤ pos 1) high) (lists_of (values low high) n) in
    let last = replicate k high in
    let one = ap (λ (xss : List (List ℤ)). length xss) (from_last low high k) in
    let some = ap (λ (xss : List (List ℤ)). length xss) (begins low high tail).is in
    let a = length-append (map f (lists_from low high last)) (rest (length last)) in
    let b = length-append (map f (lists_from low high tail)) (rest (length tail)) in
    let c = length-map (lists_from low high last) f in
    let d = length-map (lists_from low high tail) f in
    let long : length last ≡ length tail = length-replicate k high ∙ sym same in
    let e = ap (λ (n : ℕ). length (rest n)) long in
    omega arith
fewest low high (y ∷ front) x tail k same =
    let f : List ℤ → List ℤ = λ ys. y ∷ ys in
    let rest : ℕ → List (List ℤ) = λ n. each_behind (values (y +ℤ pos 1) high) (lists_of (values low high) n) in
    let here = front ++ x ∷ replicate k high in
    let there = front ++ x ∷ tail in
    let a = length-append (map f (lists_from low high here)) (rest (length here)) in
    let b = length-append (map f (lists_from low high there)) (rest (length there)) in
    let c = length-map (lists_from low high here) f in
    let d = length-map (lists_from low high there) f in
    let long : length here ≡ length there =
    length-append front (x ∷ replicate k high) ∙ ap (λ (n : ℕ). length front + suc n) (length-replicate k high ∙ sym same)
    ∙ sym (length-append front (x ∷ tail)) in
    let e = ap (λ (n : ℕ). length (rest n)) long in
    let less = fewest low high front x tail k same in
    omega arith

-- ---- the values behind a place made the greatest ones

pub record Topped (high : ℤ) (xs ys : List ℤ) (at : ℕ) : Type 0 where
  pub place : at < length xs
  pub is : ys ≡ take (at + 1) xs ++ replicate (length xs - (at + 1)) high

front_is : (xs : List ℤ) (at : ℕ) (ys : List ℤ) → at < length xs → take (at + 1) xs ++ ys ≡ take at xs ++ get_or xs at (pos 0) ∷ ys
front_is xs at ys lt =
    ap (λ (zs : List ℤ). zs ++ ys) (take_more xs at (pos 0) lt) ∙ append_assoc (take at xs) (get_or xs at (pos 0) ∷ []) ys

topped_clashes : (high : ℤ) (xs ys : List ℤ) (at : ℕ) → Topped high xs ys at → are_apart (take (at + 1) xs) ≡ false → are_apart ys ≡ false
topped_clashes high xs ys at t h = ap are_apart t.is ∙ front_clashes (take (at + 1) xs) (replicate (length xs - (at + 1)) high) h

topped_same : (low high : ℤ) (xs ys : List ℤ) (at : ℕ) → Topped high xs ys at → are_apart (take (at + 1) xs) ≡ false →
    filter are_apart (lists_from low high xs) ≡ filter are_apart (lists_from low high ys)
topped_same low high xs ys at t h =
    let x = get_or xs at (pos 0) in
    let tail = drop (at + 1) xs in
    let k = length xs - (at + 1) in
    let place = t.place in
    let long : length tail ≡ length (replicate k high) = length-drop (at + 1) xs ∙ sym (length-replicate k high) in
    let whole : xs ≡ take at xs ++ x ∷ tail = sym (take-append-drop (at + 1) xs) ∙ front_is xs at tail place in
    let all : ys ≡ take at xs ++ x ∷ replicate k high = t.is ∙ front_is xs at (replicate k high) place in
    ap (λ (zs : List ℤ). filter are_apart (lists_from low high zs)) whole
    ∙ skip low high (take at xs) x tail (replicate k high) long are_apart
    (λ zs. sym (ap are_apart (front_is xs at zs place)) ∙ front_clashes (take (at + 1) xs) zs h)
    ∙ ap (λ (zs : List ℤ). filter are_apart (lists_from low high zs)) (sym all)

topped_fewer : (low high : ℤ) (xs ys : List ℤ) (at : ℕ) → Topped high xs ys at →
    length (lists_from low high ys) ≤ length (lists_from low high xs)
topped_fewer low high xs ys at t =
    let x = get_or xs at (pos 0) in
    let tail = drop (at + 1) xs in
    let k = length xs - (at + 1) in
    let place = t.place in
    let whole : xs ≡ take at xs ++ x ∷ tail = sym (take-append-drop (at + 1) xs) ∙ front_is xs at tail place in
    let all : ys ≡ take at xs ++ x ∷ replicate k high = t.is ∙ front_is xs at (replicate k high) place in
    let a = ap (λ (zs : List ℤ). length (lists_from low high zs)) whole in
    let b = ap (λ (zs : List ℤ). length (lists_from low high zs)) all in
    let c = fewest low high (take at xs) x tail k (length-drop (at + 1) xs) in
    omega arith

dropped : (xs : List ℤ) (xss : List (List ℤ)) → are_apart xs ≡ false → filter are_apart (xs ∷ xss) ≡ filter are_apart xss
dropped xs xss h = ap (λ (b : Bool). cond b (xs ∷ filter are_apart xss) (filter are_apart xss)) h

pub passed : (low high : ℤ) (xs ys zs : List ℤ) (at : ℕ) → Topped high xs ys at → are_apart (take (at + 1) xs) ≡ false →
    lists_from low high ys ≡ ys ∷ lists_from low high zs →
    filter are_apart (lists_from low high xs) ≡ filter are_apart (lists_from low high zs)
passed low high xs ys zs at t h e =
    topped_same low high xs ys at t h ∙ ap (filter are_apart) e ∙ dropped ys (lists_from low high zs) (topped_clashes high xs ys at t h)

pub passed_fewer : (low high : ℤ) (xs ys zs : List ℤ) (at : ℕ) → Topped high xs ys at →
    lists_from low high ys ≡ ys ∷ lists_from low high zs → length (lists_from low high zs) < length (lists_from low high xs)
passed_fewer low high xs ys zs at t e =
    let a = topped_fewer low high xs ys at t in
    let b = ap (λ (xss : List (List ℤ)). length xss) e in omega arith

pub passed_all : (low high : ℤ) (xs ys : List ℤ) (at : ℕ) → Topped high xs ys at → are_apart (take (at + 1) xs) ≡ false →
    lists_from low high ys ≡ ys ∷ [] → filter are_apart (lists_from low high xs) ≡ []
passed_all low high xs ys at t h e =
    topped_same low high xs ys at t h ∙ ap (filter are_apart) e ∙ dropped ys [] (topped_clashes high xs ys at t h)

pub topped_within : (low high : ℤ) (xs ys : List ℤ) (at : ℕ) → Topped high xs ys at → low ≤ℤ high → AreWithin low high xs →
    AreWithin low high ys
topped_within low high xs ys at t le all =
    All-same (IsWithin low high) ys (take (at + 1) xs ++ replicate (length xs - (at + 1)) high) t.is
    (All-append (IsWithin low high) (take (at + 1) xs) (replicate (length xs - (at + 1)) high)
    (All-take (IsWithin low high) (at + 1) xs all)
    (All-replicate (IsWithin low high) (length xs - (at + 1)) high (let own : high ≤ℤ high = omega (arith, ints) in (le, own))))

-- one value more is the greatest
pub topped_more : (high w : ℤ) (xs ys : List ℤ) (from place : ℕ) → from ≤ place → place < length xs → w ≡ high →
    ys ≡ take from xs ++ (replicate (place - from) high ++ drop place xs) →
    set ys place w ≡ take from xs ++ (replicate (place + 1 - from) high ++ drop (place + 1) xs)
topped_more high w xs ys from place le lt same is =
    let n = place - from in
    let front = take from xs ++ replicate n high in
    let rest = drop (place + 1) xs in
    let x = get_or xs place (pos 0) in
    let whole : ys ≡ front ++ x ∷ rest =
    is ∙ ap (λ (zs : List ℤ). take from xs ++ (replicate n high ++ zs)) (drop_more xs place (pos 0) lt)
    ∙ sym (append_assoc (take from xs) (replicate n high) (x ∷ rest)) in
    let a = length-append (take from xs) (replicate n high) in
    let b = length-take-le from xs (omega arith) in
    let c = length-replicate n high in
    let long : length front ≡ place = omega arith in
    let more : n + 1 ≡ place + 1 - from = omega arith in
    ap (λ (zs : List ℤ). set zs place w) whole ∙ set_at front x rest w place long
    ∙ ap (λ (z : ℤ). front ++ z ∷ rest) same
    ∙ append_assoc (take from xs) (replicate n high) (high ∷ rest)
    ∙ ap (λ (zs : List ℤ). take from xs ++ zs) (sym (append_assoc (replicate n high) (high ∷ []) rest)
    ∙ ap (λ (zs : List ℤ). zs ++ rest) (replicate_more n high) ∙ ap (λ (m : ℕ). replicate m high ++ rest) more)
