-- The step from one list of values to the next.
use Rattle.std.proofs.Common.{◌≡◌, ℕ, zero, suc, ◌+◌, ◌-◌, ◌<◌, ◌≤◌, List, [], ◌∷◌, ◌++◌, ℤ, pos, negsuc, ◌+ℤ◌, ◌≤ℤ◌, ◌<ℤ◌, map, length}
use Rattle.std.proofs.Common.{replicate, slice_get, Some, take, set, get_or, refl, ap, sym, subst, ◌∙◌, arith}
use Rattle.std.proofs.lemmas.Int.{ints, to_z-of_z}
use Rattle.std.proofs.lemmas.List.{append_assoc, get_or_at, length-append, length-replicate, length-take-le, set_at}
use Rattle.std.proofs.lemmas.List.Elements.{All-append, All-cons, All-get_or, All-replicate, All-same, All-take}
use Rattle.std.proofs.Math.Seq.{take-suc}
use Rattle.std.specs.Int.{int_gap}
use borrow.Author.Differences.{up, down, fits_in, fits_out}
use mir.Syntax.{w64}
use mir.Val.{SFits, of_z, to_z}
use Rattle.scopes.specs.Lists.{AreWithin, IsWithin, each_behind, lists_from, lists_of, numbers_from, values}

pub int_gap_is : (a b : ℤ) → int_gap a b ≡ (up b + down a) - (up a + down b)
int_gap_is (pos a) (pos b) = omega arith
int_gap_is (pos a) (negsuc b) = omega arith
int_gap_is (negsuc a) (pos b) = omega arith
int_gap_is (negsuc a) (negsuc b) = omega arith

-- one value more
pub values_more : (x high : ℤ) → x ≤ℤ high → values x high ≡ x ∷ values (x +ℤ pos 1) high
values_more x high le =
    ap (numbers_from x) (
    let whole = int_gap_is x (high +ℤ pos 1) in
    let rest = int_gap_is (x +ℤ pos 1) (high +ℤ pos 1) in
    let more : int_gap x (high +ℤ pos 1) ≡ suc (int_gap (x +ℤ pos 1) (high +ℤ pos 1)) = omega (arith, ints) in more)

-- none is left behind the greatest
pub values_none : (high : ℤ) → values (high +ℤ pos 1) high ≡ []
values_none high =
    ap (numbers_from (high +ℤ pos 1)) (
    let whole = int_gap_is (high +ℤ pos 1) (high +ℤ pos 1) in
    let none : int_gap (high +ℤ pos 1) (high +ℤ pos 1) ≡ 0 = omega arith in none)

-- from the first list on there are all
pub from_first : (low high : ℤ) (k : ℕ) → low ≤ℤ high → lists_from low high (replicate k low) ≡ lists_of (values low high) k
from_first low high zero le = refl
from_first low high (suc k) le =
    let vs = values low high in let rest = values (low +ℤ pos 1) high in
    ap (λ (xss : List (List ℤ)). map (λ ys. low ∷ ys) xss ++ each_behind rest (lists_of vs (length (replicate k low))))
    (from_first low high k le)
    ∙ ap (λ (n : ℕ). map (λ ys. low ∷ ys) (lists_of vs k) ++ each_behind rest (lists_of vs n)) (length-replicate k low)
    ∙ sym (ap (λ (ws : List ℤ). each_behind ws (lists_of vs k)) (values_more low high le))

-- from the last list on there is one
pub from_last : (low high : ℤ) (k : ℕ) → lists_from low high (replicate k high) ≡ replicate k high ∷ []
from_last low high zero = refl
from_last low high (suc k) =
    let vs = values low high in
    ap (λ (xss : List (List ℤ)). map (λ ys. high ∷ ys) xss ++ each_behind (values (high +ℤ pos 1) high)
    (lists_of vs (length (replicate k high))))
    (from_last low high k)
    ∙ ap (λ (ws : List ℤ). (high ∷ replicate k high) ∷ each_behind ws (lists_of vs (length (replicate k high)))) (values_none high)

-- where a value grows, and those behind it are the greatest, the next list is the one with the least behind it
pub from_next : (low high : ℤ) (front : List ℤ) (x : ℤ) (k : ℕ) → low ≤ℤ high → x <ℤ high →
    lists_from low high (front ++ x ∷ replicate k high)
    ≡ (front ++ x ∷ replicate k high) ∷ lists_from low high (front ++ (x +ℤ pos 1) ∷ replicate k low)
from_next low high [] x k le lt =
    let vs = values low high in
    let more : (x +ℤ pos 1) ≤ℤ high = omega (arith, ints) in
    let last = replicate k high in
    let first = replicate k low in
    let same : length last ≡ length first = length-replicate k high ∙ sym (length-replicate k low) in
    ap (λ (xss : List (List ℤ)). map (λ ys. x ∷ ys) xss ++ each_behind (values (x +ℤ pos 1) high) (lists_of vs (length last)))
    (from_last low high k)
    ∙ ap (λ (ws : List ℤ). (x ∷ last) ∷ each_behind ws (lists_of vs (length last))) (values_more (x +ℤ pos 1) high more)
    ∙ ap (λ (n : ℕ). (x ∷ last) ∷ (map (λ ys. (x +ℤ pos 1) ∷ ys) (lists_of vs n)
    ++ each_behind (values (x +ℤ pos 1 +ℤ pos 1) high) (lists_of vs n))) same
    ∙ ap (λ (xss : List (List ℤ)). (x ∷ last) ∷ (map (λ ys. (x +ℤ pos 1) ∷ ys) xss
    ++ each_behind (values (x +ℤ pos 1 +ℤ pos 1) high) (lists_of vs (length first))))
    (ap (lists_of vs) (length-replicate k low) ∙ sym (from_first low high k le))
from_next low high (y ∷ front) x k le lt =
    let vs = values low high in
    let here = front ++ x ∷ replicate k high in
    let there = front ++ (x +ℤ pos 1) ∷ replicate k low in
    let same : length here ≡ length there =
    simp (length-append, length-replicate) (refl) in
    ap (λ (xss : List (List ℤ)). map (λ ys. y ∷ ys) xss ++ each_behind (values (y +ℤ pos 1) high) (lists_of vs (length here)))
    (from_next low high front x k le lt)
    ∙ ap (λ (n : ℕ). (y ∷ here) ∷
    (map (λ ys. y ∷ ys) (lists_from low high there) ++ each_behind (values (y +ℤ pos 1) high) (lists_of vs n))) same

-- the list itself is the first of those from it on
pub record BeginsWith (xs : List ℤ) (xss : List (List ℤ)) : Type 0 where
  pub rest : List (List ℤ)
  pub is : xss ≡ xs ∷ rest

pub begins : (low high : ℤ) (xs : List ℤ) → BeginsWith xs (lists_from low high xs)
begins low high [] = record { rest = []; is = refl }
begins low high (x ∷ xs) =
    let b = begins low high xs in
    let f : List ℤ → List ℤ = λ ys. x ∷ ys in
    let behind = each_behind (values (x +ℤ pos 1) high) (lists_of (values low high) (length xs)) in
    record {
      rest = map f b.rest ++ behind;
      is = ap (λ (xss : List (List ℤ)). map f xss ++ behind) b.is;
    }

pub here_first : (low high : ℤ) (xs : List ℤ) → slice_get (lists_from low high xs) 0 ≡ Some xs
here_first low high xs = ap (λ (xss : List (List ℤ)). slice_get xss 0) (begins low high xs).is

-- ---- the loop: behind a place, xs has the greatest values, and ys, which is xs before it, has the least

pub record Swept (low high : ℤ) (xs ys : List ℤ) (a : ℕ) : Type 0 where
  pub place : a ≤ length xs
  pub were : xs ≡ take a xs ++ replicate (length xs - a) high
  pub are : ys ≡ take a xs ++ replicate (length xs - a) low

-- the value in front of that place
split_there : (zs xs : List ℤ) (b : ℕ) (v d : ℤ) → b < length xs → zs ≡ take (suc b) xs ++ replicate (length xs - suc b) v →
    zs ≡ take b xs ++ get_or xs b d ∷ replicate (length xs - suc b) v
split_there zs xs b v d lt e =
    let rest = replicate (length xs - suc b) v in
    e ∙ ap (λ (ws : List ℤ). ws ++ rest) (take-suc xs b d lt) ∙ append_assoc (take b xs) (get_or xs b d ∷ []) rest

front_length : (xs : List ℤ) (b : ℕ) → b < length xs → length (take b xs) ≡ b
front_length xs b lt = length-take-le b xs (omega arith)

pub there : (low high d : ℤ) (xs ys : List ℤ) (a b : ℕ) → a ≡ suc b → Swept low high xs ys a → get_or ys b d ≡ get_or xs b d
there low high d xs ys a b is s =
    let t : Swept low high xs ys (suc b) = subst (Swept low high xs ys) is s in
    let lt : b < length xs = omega (arith, t.place) in
    ap (λ (zs : List ℤ). get_or zs b d) (split_there ys xs b low d lt t.are)
    ∙ get_or_at (take b xs) (get_or xs b d) (replicate (length xs - suc b) low) d b (front_length xs b lt)

-- it is written
pub written : (low high d w : ℤ) (xs ys : List ℤ) (a b : ℕ) → a ≡ suc b → Swept low high xs ys a →
    set ys b w ≡ take b xs ++ w ∷ replicate (length xs - suc b) low
written low high d w xs ys a b is s =
    let t : Swept low high xs ys (suc b) = subst (Swept low high xs ys) is s in
    let lt : b < length xs = omega (arith, t.place) in
    ap (λ (zs : List ℤ). set zs b w) (split_there ys xs b low d lt t.are)
    ∙ set_at (take b xs) (get_or xs b d) (replicate (length xs - suc b) low) w b (front_length xs b lt)

-- where it can grow
pub grown : (low high d w : ℤ) (xs ys : List ℤ) (a b : ℕ) → a ≡ suc b → Swept low high xs ys a → low ≤ℤ high → get_or ys b d <ℤ high →
    w ≡ get_or ys b d +ℤ pos 1 → lists_from low high xs ≡ xs ∷ lists_from low high (set ys b w)
grown low high d w xs ys a b is s le lt more =
    let t : Swept low high xs ys (suc b) = subst (Swept low high xs ys) is s in
    let in' : b < length xs = omega (arith, t.place) in
    let x = get_or xs b d in
    let k = length xs - suc b in
    let same : get_or ys b d ≡ x = there low high d xs ys a b is s in
    let below : x <ℤ high = subst (λ (z : ℤ). z <ℤ high) same lt in
    let now : w ≡ x +ℤ pos 1 = more ∙ ap (λ (z : ℤ). z +ℤ pos 1) same in
    let whole : xs ≡ take b xs ++ x ∷ replicate k high = split_there xs xs b high d in' t.were in
    let next : set ys b w ≡ take b xs ++ (x +ℤ pos 1) ∷ replicate k low =
    written low high d w xs ys a b is s ∙ ap (λ (z : ℤ). take b xs ++ z ∷ replicate k low) now in
    ap (lists_from low high) whole ∙ from_next low high (take b xs) x k le below
    ∙ ap (λ (zs : List ℤ). zs ∷ lists_from low high (take b xs ++ (x +ℤ pos 1) ∷ replicate k low)) (sym whole)
    ∙ ap (λ (zs : List ℤ). xs ∷ lists_from low high zs) (sym next)

pub grown_within : (low high d w : ℤ) (xs ys : List ℤ) (a b : ℕ) → a ≡ suc b → Swept low high xs ys a → low ≤ℤ high →
    get_or ys b d <ℤ high →
    w ≡ get_or ys b d +ℤ pos 1 → AreWithin low high xs → AreWithin low high (set ys b w)
grown_within low high d w xs ys a b is s le lt more all =
    let t : Swept low high xs ys (suc b) = subst (Swept low high xs ys) is s in
    let in' : b < length xs = omega (arith, t.place) in
    let same : get_or ys b d ≡ get_or xs b d = there low high d xs ys a b is s in
    let old : IsWithin low high (get_or xs b d) = All-get_or (IsWithin low high) xs b d in' all in
    let low_enough : low ≤ℤ w = let l = old.0 in omega (arith, ints) in
    let high_enough : w ≤ℤ high = omega (arith, ints) in
    let k = length xs - suc b in
    All-same (IsWithin low high) (set ys b w) (take b xs ++ w ∷ replicate k low) (written low high d w xs ys a b is s)
    (All-append (IsWithin low high) (take b xs) (w ∷ replicate k low) (All-take (IsWithin low high) b xs all)
    (All-cons (IsWithin low high) w (replicate k low) (low_enough, high_enough)
    (All-replicate (IsWithin low high) k low (let own : low ≤ℤ low = omega (arith, ints) in (own, le)))))

-- where it can't, it is the greatest, and the least is written
pub swept_on : (low high d : ℤ) (xs ys : List ℤ) (a b : ℕ) → a ≡ suc b → Swept low high xs ys a → high ≤ℤ get_or ys b d →
    AreWithin low high xs →
    Swept low high xs (set ys b low) b
swept_on low high d xs ys a b is s ge all =
    let t : Swept low high xs ys (suc b) = subst (Swept low high xs ys) is s in
    let in' : b < length xs = omega (arith, t.place) in
    let x = get_or xs b d in
    let k = length xs - suc b in
    let same : get_or ys b d ≡ x = there low high d xs ys a b is s in
    let old : IsWithin low high x = All-get_or (IsWithin low high) xs b d in' all in
    let greatest : x ≡ high = let h = old.1 in omega (arith, ints) in
    let longer : suc k ≡ length xs - b = omega arith in
    record {
      place = omega arith;
      were = split_there xs xs b high d in' t.were ∙ ap (λ (z : ℤ). take b xs ++ z ∷ replicate k high) greatest
          ∙ ap (λ (n : ℕ). take b xs ++ replicate n high) longer;
      are = written low high d low xs ys a b is s ∙ ap (λ (n : ℕ). take b xs ++ replicate n low) longer;
    }

-- at the front
pub swept_all : (low high : ℤ) (xs ys : List ℤ) (a : ℕ) → a ≡ 0 → Swept low high xs ys a → lists_from low high xs ≡ xs ∷ []
swept_all low high xs ys a is s =
    let t : Swept low high xs ys 0 = subst (Swept low high xs ys) is s in
    let n = length xs - 0 in
    ap (lists_from low high) t.were ∙ from_last low high n ∙ ap (λ (zs : List ℤ). zs ∷ []) (sym t.were)

-- the first list
pub all_least : (low high : ℤ) (k : ℕ) (xs : List ℤ) → xs ≡ replicate k low → low ≤ℤ high → AreWithin low high xs
all_least low high k xs is le =
    All-same (IsWithin low high) xs (replicate k low) is
    (All-replicate (IsWithin low high) k low (let own : low ≤ℤ low = omega (arith, ints) in (own, le)))

-- ---- values of 64 bits

between : (low high x : ℤ) → SFits w64 low → SFits w64 high → low ≤ℤ x → x ≤ℤ high → SFits w64 x
between low high x f g l h = fits_in w64 x (omega (arith, ints, fits_out w64 low f, fits_out w64 high g))

-- what is read at that place fits
pub there_fits : (low high d : ℤ) (xs ys : List ℤ) (a b : ℕ) → SFits w64 low → SFits w64 high → a ≡ suc b → Swept low high xs ys a →
    AreWithin low high xs → SFits w64 (get_or ys b d)
there_fits low high d xs ys a b f g is s all =
    let t : Swept low high xs ys (suc b) = subst (Swept low high xs ys) is s in
    let in' : b < length xs = omega (arith, t.place) in
    let old : IsWithin low high (get_or xs b d) = All-get_or (IsWithin low high) xs b d in' all in
    subst (SFits w64) (sym (there low high d xs ys a b is s)) (between low high (get_or xs b d) f g old.0 old.1)

-- and so does what it grows to
pub more_fits : (x high : ℤ) → SFits w64 x → SFits w64 high → x <ℤ high → to_z w64 (of_z w64 (to_z w64 (of_z w64 x) +ℤ pos 1)) ≡ x +ℤ pos 1
more_fits x high f g lt =
    let next : SFits w64 (x +ℤ pos 1) = fits_in w64 (x +ℤ pos 1) (omega (arith, ints, fits_out w64 x f, fits_out w64 high g)) in
    ap (λ (z : ℤ). to_z w64 (of_z w64 (z +ℤ pos 1))) (to_z-of_z w64 x f) ∙ to_z-of_z w64 (x +ℤ pos 1) next

-- what the code compares with
pub plain : (low high : ℤ) (xs ys : List ℤ) (a : ℕ) → SFits w64 low → SFits w64 high →
    Swept (to_z w64 (of_z w64 low)) (to_z w64 (of_z w64 high)) xs ys a → Swept low high xs ys a
plain low high xs ys a f g s =
    subst (λ (l : ℤ). Swept l high xs ys a) (to_z-of_z w64 low f)
    (subst (λ (h : ℤ). Swept (to_z w64 (of_z w64 low)) h xs ys a) (to_z-of_z w64 high g) s)

pub cast : (low high : ℤ) (xs ys : List ℤ) (a : ℕ) → SFits w64 low → SFits w64 high → Swept low high xs ys a →
    Swept (to_z w64 (of_z w64 low)) (to_z w64 (of_z w64 high)) xs ys a
cast low high xs ys a f g s =
    subst (λ (l : ℤ). Swept l (to_z w64 (of_z w64 high)) xs ys a) (sym (to_z-of_z w64 low f))
    (subst (λ (h : ℤ). Swept low h xs ys a) (sym (to_z-of_z w64 high g)) s)

-- what holds at the values that the code passes holds at them
pub uncast : (P : ℤ → ℤ → Type 0) (low high : ℤ) → SFits w64 low → SFits w64 high →
    P (to_z w64 (of_z w64 low)) (to_z w64 (of_z w64 high)) → P low high
uncast P low high f g h =
    subst (λ (l : ℤ). P l high) (to_z-of_z w64 low f) (subst (λ (k : ℤ). P (to_z w64 (of_z w64 low)) k) (to_z-of_z w64 high g) h)
