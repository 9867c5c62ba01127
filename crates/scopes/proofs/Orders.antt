-- How many lists of so many values have no value twice.
use Rattle.std.proofs.Common.{◌≡◌, ◌&&◌, ◌||◌, ℕ, zero, suc, ◌+◌, ◌-◌, ◌*◌, ◌<◌, ◌≤◌, Bool, true, false, not, cond, if◌then◌else◌, List}
use Rattle.std.proofs.Common.{[], ◌∷◌, ℤ, pos, ◌+ℤ◌, map, length, get_or, refl, ap, sym, subst, ◌∙◌, arith}
use Rattle.std.proofs.lemmas.Int.{ints}
use Rattle.std.proofs.lemmas.List.{length-append, length-map}
use Rattle.std.proofs.lemmas.List.Elements.{Contains-get_or, filter-append}
use Rattle.std.proofs.Math.Nat.{mul_assoc}
use Rattle.std.specs.Int.{int_gap}
use Rattle.std.specs.List.{Contains, filter, list_any}
use Rattle.scopes.specs.Lists.{are_apart, each_behind, factorial, falling, lists_of, same_value, values}
use Rattle.scopes.specs.Scopes.{inputs_of}
use Rattle.scopes.specs.declared.scope.Scope.{Scope}
use Rattle.scopes.proofs.Clashes.{is_same, other_way, same_is}
use Rattle.scopes.proofs.Listed.{is_value, listed, numbers_are, numbers_at}
use Rattle.scopes.proofs.Skips.{some_kept}
use Rattle.scopes.proofs.Steps.{int_gap_is}
use Rattle.scopes.proofs.Those.{any_at, both_left, both_right, kept_there, pairs_apart}

-- whether a value stands in a list, as the test of lists whose values are apart asks it
abbrev seen : List ℤ → ℤ → Bool
seen xs v = list_any (λ w. same_value w v) xs

abbrev one_unless : Bool → ℕ
one_unless b = cond b 0 1

-- how many of these values don't
abbrev fresh : List ℤ → List ℤ → ℕ
fresh [] xs = 0
fresh (v ∷ vs) xs = one_unless (seen xs v) + fresh vs xs

abbrev total : (List ℤ → ℕ) → List (List ℤ) → ℕ
total f [] = 0
total f (xs ∷ xss) = f xs + total f xss

-- ---- with a value in front of each

front_step : (v : ℤ) (xs : List ℤ) (xss : List (List ℤ)) (a b : Bool) →
    length (filter (λ ys. are_apart (v ∷ ys)) xss) ≡ total (λ ys. one_unless (seen ys v)) (filter are_apart xss) →
    seen xs v ≡ a →
    length (cond (not a && b) (xs ∷ filter (λ ys. are_apart (v ∷ ys)) xss) (filter (λ ys. are_apart (v ∷ ys)) xss))
    ≡ total (λ ys. one_unless (seen ys v)) (cond b (xs ∷ filter are_apart xss) (filter are_apart xss))
front_step v xs xss true true e h = let z : one_unless (seen xs v) ≡ 0 = ap one_unless h in omega arith
front_step v xs xss true false e h = e
front_step v xs xss false true e h = let z : one_unless (seen xs v) ≡ 1 = ap one_unless h in omega arith
front_step v xs xss false false e h = e

front_is : (v : ℤ) (xs : List ℤ) (xss : List (List ℤ)) (a : Bool) → seen xs v ≡ a →
    length (filter (λ ys. are_apart (v ∷ ys)) (xs ∷ xss))
    ≡ length (cond (not a && are_apart xs) (xs ∷ filter (λ ys. are_apart (v ∷ ys)) xss) (filter (λ ys. are_apart (v ∷ ys)) xss))
front_is v xs xss a h =
    ap (λ (t : Bool). length
    (cond (not t && are_apart xs) (xs ∷ filter (λ ys. are_apart (v ∷ ys)) xss) (filter (λ ys. are_apart (v ∷ ys)) xss))) h

in_front_count : (v : ℤ) (xss : List (List ℤ)) →
    length (filter (λ ys. are_apart (v ∷ ys)) xss) ≡ total (λ ys. one_unless (seen ys v)) (filter are_apart xss)
in_front_count v [] = refl
in_front_count v (xs ∷ xss) =
    front_is v xs xss (seen xs v) refl ∙ front_step v xs xss (seen xs v) (are_apart xs) (in_front_count v xss) refl

-- ---- with each of some values in front

total_nothing : (xss : List (List ℤ)) → total (λ xs. 0) xss ≡ 0
total_nothing [] = refl
total_nothing (xs ∷ xss) = let r = total_nothing xss in omega arith

total_both : (f g : List ℤ → ℕ) (xss : List (List ℤ)) → total (λ xs. f xs + g xs) xss ≡ total f xss + total g xss
total_both f g [] = refl
total_both f g (xs ∷ xss) = let r = total_both f g xss in omega arith

behind_count : (vs : List ℤ) (xss : List (List ℤ)) → length (filter are_apart (each_behind vs xss)) ≡ total (fresh vs)
    (filter are_apart xss)
behind_count [] xss = sym (total_nothing (filter are_apart xss))
behind_count (v ∷ vs) xss =
    let f : List ℤ → List ℤ = λ ys. v ∷ ys in
    let front = map f xss in
    let rest = each_behind vs xss in
    let left = filter are_apart xss in
    let a = ap (λ (ys : List (List ℤ)). length ys) (filter-append are_apart front rest)
    ∙ length-append (filter are_apart front) (filter are_apart rest) in
    let b : length (filter are_apart front) ≡ length (filter (λ ys. are_apart (v ∷ ys)) xss) =
    ap (λ (ys : List (List ℤ)). length ys) (some_kept are_apart f xss) ∙ length-map (filter (λ ys. are_apart (v ∷ ys)) xss) f in
    let c = in_front_count v xss in
    let d = behind_count vs xss in
    let e = total_both (λ ys. one_unless (seen ys v)) (fresh vs) left in
    let g : total (fresh (v ∷ vs)) left ≡ total (λ ys. one_unless (seen ys v)) left + total (fresh vs) left = e in
    omega arith

-- ---- how many values are fresh

or_false : (a b : Bool) → a || b ≡ false → (a ≡ false) × (b ≡ false)
or_false true b h = absurd (let P : true ≡ false → ⊥ = λ k. cc in P h)
or_false false b h = (refl, h)

fresh_none : (vs : List ℤ) → fresh vs [] ≡ length vs
fresh_none [] = refl
fresh_none (v ∷ vs) = let r = fresh_none vs in omega arith

-- a value that is none of them makes no difference
fresh_same : (x : ℤ) (xs vs : List ℤ) → seen vs x ≡ false → fresh vs (x ∷ xs) ≡ fresh vs xs
fresh_same x xs [] h = refl
fresh_same x xs (v ∷ vs) h =
    let both = or_false (same_value v x) (seen vs x) h in
    let here : seen (x ∷ xs) v ≡ seen xs v = ap (λ (t : Bool). t || seen xs v) (other_way x v ∙ both.0) in
    let a : one_unless (seen (x ∷ xs) v) ≡ one_unless (seen xs v) = ap one_unless here in
    let r = fresh_same x xs vs both.1 in
    omega arith

less_step : (x : ℤ) (xs : List ℤ) (v : ℤ) (vs : List ℤ) (b : Bool) → same_value x v ≡ b → are_apart (v ∷ vs) ≡ true →
    seen (v ∷ vs) x ≡ true →
    seen xs x ≡ false → (are_apart vs ≡ true → seen vs x ≡ true → fresh vs (x ∷ xs) + 1 ≡ fresh vs xs) →
    fresh (v ∷ vs) (x ∷ xs) + 1 ≡ fresh (v ∷ vs) xs
less_step x xs v vs true e apart there none rest =
    let same : x ≡ v = same_is x v e in
    let gone : seen vs x ≡ false = subst (λ (z : ℤ). seen vs z ≡ false) (sym same) (both_left (seen vs v) (are_apart vs) apart) in
    let unseen : seen xs v ≡ false = subst (λ (z : ℤ). seen xs z ≡ false) same none in
    let a : one_unless (seen (x ∷ xs) v) ≡ 0 = ap (λ (t : Bool). one_unless (t || seen xs v)) e in
    let b : one_unless (seen xs v) ≡ 1 = ap one_unless unseen in
    let r = fresh_same x xs vs gone in
    omega arith
less_step x xs v vs false e apart there none rest =
    let behind : seen vs x ≡ true = sym (ap (λ (t : Bool). t || seen vs x) (other_way v x ∙ e)) ∙ there in
    let a : one_unless (seen (x ∷ xs) v) ≡ one_unless (seen xs v) = ap (λ (t : Bool). one_unless (t || seen xs v)) e in
    let r = rest (both_right (seen vs v) (are_apart vs) apart) behind in
    omega arith

-- one that is, and has not been seen, is one fewer
fresh_less : (x : ℤ) (xs vs : List ℤ) → are_apart vs ≡ true → seen vs x ≡ true → seen xs x ≡ false → fresh vs (x ∷ xs) + 1 ≡ fresh vs xs
fresh_less x xs [] apart there none = absurd (let P : false ≡ true → ⊥ = λ k. cc in P there)
fresh_less x xs (v ∷ vs) apart there none =
    less_step x xs v vs (same_value x v) refl apart there none (λ a t. fresh_less x xs vs a t none)

fresh_is : (vs xs : List ℤ) → are_apart vs ≡ true → are_apart xs ≡ true →
    ((k : ℕ) (d : ℤ) → k < length xs → seen vs (get_or xs k d) ≡ true) → fresh vs xs + length xs ≡ length vs
fresh_is vs [] a b h = let r = fresh_none vs in omega arith
fresh_is vs (x ∷ xs) a b h =
    let unseen = both_left (seen xs x) (are_apart xs) b in
    let less = fresh_less x xs vs a (h 0 x (omega arith)) unseen in
    let rest = fresh_is vs xs a (both_right (seen xs x) (are_apart xs) b) (λ k d lt. h (suc k) d (omega arith)) in
    omega arith

-- ---- so many lists

total_alike : (f : List ℤ → ℕ) (m : ℕ) (xss : List (List ℤ)) → ((k : ℕ) (d : List ℤ) → k < length xss → f (get_or xss k d) ≡ m) →
    total f xss ≡ length xss * m
total_alike f m [] h = omega arith
total_alike f m (xs ∷ xss) h =
    let r = total_alike f m xss (λ k d lt. h (suc k) d (omega arith)) in
    let z = h 0 xs (omega arith) in
    omega arith

values_apart : (low high : ℤ) → are_apart (values low high) ≡ true
values_apart low high =
    let n = int_gap low (high +ℤ pos 1) in
    pairs_apart (values low high) (λ i j d lt le same.
    let inside : j < n = omega (arith, numbers_are low n) in
    let a = numbers_at low n i d (omega arith) in
    let b = numbers_at low n j d inside in
    omega (arith, ints))

contains_seen : (vs : List ℤ) (x : ℤ) → Contains vs x → seen vs x ≡ true
contains_seen vs x (k, lt, e) = any_at (λ (w : ℤ). same_value w x) vs k x lt (is_same (get_or vs k x) x e)

apart_count : (low high : ℤ) (k : ℕ) →
    length (filter are_apart (lists_of (values low high) k)) ≡ falling (int_gap low (high +ℤ pos 1)) k
apart_count low high zero = refl
apart_count low high (suc k) =
    let vs = values low high in
    let n = int_gap low (high +ℤ pos 1) in
    let left = filter are_apart (lists_of vs k) in
    let each = total_alike (fresh vs) (n - k) left (λ i d lt.
    let xs = get_or left i d in
    let t = kept_there are_apart (lists_of vs k) xs (Contains-get_or left i d lt) in
    let l = (listed low high k xs).0 t.0 in
    let r = fresh_is vs xs (values_apart low high) t.1
    (λ j e le. contains_seen vs (get_or xs j e) (is_value low high (get_or xs j e) (l.1 j e le))) in
    let long = l.0 in
    let wide = numbers_are low n in
    omega arith) in
    behind_count vs (lists_of vs k) ∙ each ∙ ap (λ (m : ℕ). m * (n - k)) (apart_count low high k)

falling_is : (n k : ℕ) → k ≤ n → falling n k * factorial (n - k) ≡ factorial n
falling_is n zero le =
    let all : n - 0 ≡ n = omega arith in
    let same = ap factorial all in omega arith
falling_is n (suc k) le =
    let more : n - k ≡ suc (n - suc k) = omega arith in
    mul_assoc (falling n k) (n - k) (factorial (n - suc k))
    ∙ ap (λ (m : ℕ). falling n k * m) (ap (λ (m : ℕ). m * factorial (n - suc k)) more ∙ sym (ap factorial more))
    ∙ falling_is n k (omega arith)

wide_is : (low high : ℤ) (n : ℕ) → high +ℤ pos 1 ≡ low +ℤ pos n → int_gap low (high +ℤ pos 1) ≡ n
wide_is low high n e = let gap = int_gap_is low (high +ℤ pos 1) in omega (arith, ints)

pub counted_apart : (s : Scope) (n : ℕ) → s.apart ≡ true → s.high +ℤ pos 1 ≡ s.low +ℤ pos n → length (inputs_of s) ≡ falling n s.count
counted_apart s n is_apart wide =
    let all = lists_of (values s.low s.high) s.count in
    ap (λ (b : Bool). length (if b then filter are_apart all else all)) is_apart ∙ apart_count s.low s.high s.count
    ∙ ap (λ (m : ℕ). falling m s.count) (wide_is s.low s.high n wide)

pub counted_orders : (s : Scope) → s.apart ≡ true → s.low ≡ pos 1 → s.high ≡ pos s.count → length (inputs_of s) ≡ factorial s.count
counted_orders s is_apart low high =
    let k = s.count in
    let wide : s.high +ℤ pos 1 ≡ s.low +ℤ pos k = omega (arith, ints) in
    let whole = falling_is k k (omega arith) in
    let none : k - k ≡ 0 = omega arith in
    let last : factorial (k - k) ≡ 1 = ap factorial none in
    counted_apart s k is_apart wide ∙ (let one = ap (λ (m : ℕ). falling k k * m) last in omega arith)
