-- The lists of values of an interval are all of them, each once, in lexicographic order.
use Rattle.std.proofs.Common.{◌≡◌, ◌↔◌, ℕ, zero, suc, ◌-◌, ◌*◌, ◌^◌, ◌<◌, List, [], ◌∷◌, ◌++◌, ℤ, pos, ◌+ℤ◌, ◌≤ℤ◌, ◌<ℤ◌, map, length}
use Rattle.std.proofs.Common.{get_or, refl, ap, sym, subst, inl, inr, ◌∙◌, arith}
use Rattle.std.proofs.lemmas.Int.{ints}
use Rattle.std.proofs.lemmas.List.{get_or-append_right, get_or-map, get_or_append_left, length-append, length-map}
use Rattle.std.proofs.lemmas.List.Elements.{All-cons, All-head, All-nil, All-same, All-tail, Contains-append_cases, Contains-append_left}
use Rattle.std.proofs.lemmas.List.Elements.{Contains-append_right, Contains-get_or}
use Rattle.std.proofs.lemmas.Bool.{cases_lt}
use Rattle.std.proofs.Math.Nat.{pow-succ', pow-zero}
use Rattle.std.specs.Int.{int_gap}
use Rattle.std.specs.List.{AllPairs, Contains}
use Rattle.scopes.specs.Lists.{AreWithin, IsBefore, IsWithin, each_behind, lists_of, numbers_from, values}
use Rattle.scopes.proofs.Steps.{int_gap_is}

-- ---- how many

counted_behind : (vs : List ℤ) (xss : List (List ℤ)) → length (each_behind vs xss) ≡ length vs * length xss
counted_behind [] xss = omega arith
counted_behind (v ∷ vs) xss =
    let both = length-append (map (λ ys. v ∷ ys) xss) (each_behind vs xss) in
    let front = length-map xss (λ (ys : List ℤ). v ∷ ys) in
    let rest = counted_behind vs xss in
    omega arith

pub numbers_are : (v : ℤ) (n : ℕ) → length (numbers_from v n) ≡ n
numbers_are v zero = refl
numbers_are v (suc n) = ap suc (numbers_are (v +ℤ pos 1) n)

counted_of : (vs : List ℤ) (k : ℕ) → length (lists_of vs k) ≡ length vs ^ k
counted_of vs zero = sym (pow-zero (length vs))
counted_of vs (suc k) =
    counted_behind vs (lists_of vs k) ∙ ap (λ (m : ℕ). length vs * m) (counted_of vs k) ∙ sym (pow-succ' (length vs) k)

pub counted : (low high : ℤ) (n k : ℕ) → high +ℤ pos 1 ≡ low +ℤ pos n → length (lists_of (values low high) k) ≡ n ^ k
counted low high n k e =
    let gap = int_gap_is low (high +ℤ pos 1) in
    let is : int_gap low (high +ℤ pos 1) ≡ n = omega (arith, ints) in
    counted_of (values low high) k ∙ ap (λ (m : ℕ). m ^ k) (numbers_are low (int_gap low (high +ℤ pos 1)) ∙ is)

-- ---- which they are

pub numbers_at : (v : ℤ) (n k : ℕ) (d : ℤ) → k < n → get_or (numbers_from v n) k d ≡ v +ℤ pos k
numbers_at v zero k d lt = absurd (omega arith)
numbers_at v (suc n) zero d lt = omega (arith, ints)
numbers_at v (suc n) (suc k) d lt =
    let rest : k < n = omega arith in
    let next = numbers_at (v +ℤ pos 1) n k d rest in omega (arith, ints)

number_is : (v : ℤ) (n : ℕ) (x : ℤ) → Contains (numbers_from v n) x → (v ≤ℤ x) × (x <ℤ (v +ℤ pos n))
number_is v n x (k, lt, e) =
    let inside : k < n = omega (arith, numbers_are v n) in
    let at = numbers_at v n k x inside in (omega (arith, ints), omega (arith, ints))

is_number : (v : ℤ) (n : ℕ) (x : ℤ) → v ≤ℤ x → x <ℤ (v +ℤ pos n) → Contains (numbers_from v n) x
is_number v n x l h =
    let gap = int_gap_is v x in
    let k = int_gap v x in
    let inside : k < n = omega (arith, ints) in
    let here : v +ℤ pos k ≡ x = omega (arith, ints) in
    (k, omega (arith, numbers_are v n), numbers_at v n k x inside ∙ here)

-- a list with a value in front
in_front : (v : ℤ) (xss : List (List ℤ)) (ys : List ℤ) → Contains xss ys → Contains (map (λ (zs : List ℤ). v ∷ zs) xss) (v ∷ ys)
in_front v xss ys (k, lt, e) = (
  k,
  omega (arith, length-map xss (λ (zs : List ℤ). v ∷ zs)),
  get_or-map (λ (zs : List ℤ). v ∷ zs) xss k ys (v ∷ ys) lt ∙ ap (λ (zs : List ℤ). v ∷ zs) e,
)

pub record Fronted (front : ℤ → Type 0) (xss : List (List ℤ)) (zs : List ℤ) : Type 0 where
  pub value : ℤ
  pub rest : List ℤ
  pub is : zs ≡ value ∷ rest
  pub chosen : front value
  pub behind : Contains xss rest

fronted : (v : ℤ) (xss : List (List ℤ)) (zs : List ℤ) → Contains (map (λ (ys : List ℤ). v ∷ ys) xss) zs → Fronted (λ (w : ℤ). w ≡ v) xss zs
fronted v xss zs (k, lt, e) =
    let inside : k < length xss = omega (arith, length-map xss (λ (ys : List ℤ). v ∷ ys)) in
    record {
      value = v;
      rest = get_or xss k [];
      is = sym e ∙ get_or-map (λ (ys : List ℤ). v ∷ ys) xss k [] zs inside;
      chosen = refl;
      behind = Contains-get_or xss k [] inside;
    }

all_behind : (vs : List ℤ) (xss : List (List ℤ)) (v : ℤ) (ys : List ℤ) → Contains vs v → Contains xss ys →
    Contains (each_behind vs xss) (v ∷ ys)
all_behind [] xss v ys (k, lt, e) h = absurd (omega arith)
all_behind (w ∷ vs) xss v ys (zero, lt, e) h =
    Contains-append_left (map (λ (zs : List ℤ). w ∷ zs) xss) (each_behind vs xss) (v ∷ ys)
    (subst (λ (u : ℤ). Contains (map (λ (zs : List ℤ). w ∷ zs) xss) (u ∷ ys)) e (in_front w xss ys h))
all_behind (w ∷ vs) xss v ys (suc k, lt, e) h =
    Contains-append_right (map (λ (zs : List ℤ). w ∷ zs) xss) (each_behind vs xss) (v ∷ ys) (all_behind vs xss v ys (k, omega arith, e) h)

behind_all : (vs : List ℤ) (xss : List (List ℤ)) (zs : List ℤ) → Contains (each_behind vs xss) zs → Fronted (Contains vs) xss zs
behind_all [] xss zs (k, lt, e) = absurd (omega arith)
behind_all (v ∷ vs) xss zs h =
    elim (Contains-append_cases (map (λ (ys : List ℤ). v ∷ ys) xss) (each_behind vs xss) zs h) [
      | inl here ↦
          let f = fronted v xss zs here in
          record {
            value = f.value;
            rest = f.rest;
            is = f.is;
            behind = f.behind;
            chosen = (0, omega arith, sym f.chosen);
          }
      | inr there ↦
          let f = behind_all vs xss zs there in
          record {
            value = f.value;
            rest = f.rest;
            is = f.is;
            behind = f.behind;
            chosen = (suc f.chosen.0, omega (arith, f.chosen.1), f.chosen.2);
          }
    ]

value_is : (low high x : ℤ) → Contains (values low high) x → IsWithin low high x
value_is low high x h =
    let gap = int_gap_is low (high +ℤ pos 1) in
    let n = int_gap low (high +ℤ pos 1) in
    let is = number_is low n x h in
    let below = is.1 in let above = is.0 in (above, omega (arith, ints))

pub is_value : (low high x : ℤ) → IsWithin low high x → Contains (values low high) x
is_value low high x (l, h) =
    let gap = int_gap_is low (high +ℤ pos 1) in
    is_number low (int_gap low (high +ℤ pos 1)) x l (omega (arith, ints))

listed_there : (low high : ℤ) (k : ℕ) (xs : List ℤ) → Contains (lists_of (values low high) k) xs → (length xs ≡ k) × AreWithin low high xs
listed_there low high zero xs (zero, lt, e) =
    (ap (λ (ys : List ℤ). length ys) (sym e), All-same (IsWithin low high) xs [] (sym e) (All-nil (IsWithin low high)))
listed_there low high zero xs (suc k, lt, e) = absurd (omega arith)
listed_there low high (suc k) xs h =
    let f = behind_all (values low high) (lists_of (values low high) k) xs h in
    let rest = listed_there low high k f.rest f.behind in (
      ap (λ (ys : List ℤ). length ys) f.is ∙ ap suc rest.0,
      All-same (IsWithin low high) xs (f.value ∷ f.rest) f.is
          (All-cons (IsWithin low high) f.value f.rest (value_is low high f.value f.chosen) rest.1),
    )

there_listed : (low high : ℤ) (k : ℕ) (xs : List ℤ) → length xs ≡ k → AreWithin low high xs → Contains (lists_of (values low high) k) xs
there_listed low high zero [] e all = (0, omega arith, refl)
there_listed low high zero (x ∷ xs) e all = absurd (omega arith)
there_listed low high (suc k) [] e all = absurd (omega arith)
there_listed low high (suc k) (x ∷ xs) e all =
    all_behind (values low high) (lists_of (values low high) k) x xs
    (is_value low high x (All-head (IsWithin low high) x xs all))
    (there_listed low high k xs (omega arith) (All-tail (IsWithin low high) x xs all))

pub listed : (low high : ℤ) (k : ℕ) (xs : List ℤ) → Contains (lists_of (values low high) k) xs ↔ (length xs ≡ k) × AreWithin low high xs
listed low high k xs = (listed_there low high k xs, λ h. there_listed low high k xs h.0 h.1)

-- ---- in order

-- all of one list before all of another
pairs_behind : (R : List ℤ → List ℤ → Type 0) (xss yss : List (List ℤ)) → AllPairs R xss → AllPairs R yss →
    ((i j : ℕ) (d : List ℤ) → i < length xss → j < length yss → R (get_or xss i d) (get_or yss j d)) → AllPairs R (xss ++ yss)
pairs_behind R xss yss p q across = λ i j d lt le.
    let n = length xss in
    let m = length-append xss yss in
    elim (cases_lt j n) [
      | inl both ↦
          let one : i < n = omega arith in
          subst (λ (zs : List ℤ). R (get_or (xss ++ yss) i d) zs) (sym (get_or_append_left xss yss d j both))
          (subst (λ (zs : List ℤ). R zs (get_or xss j d)) (sym (get_or_append_left xss yss d i one)) (p i j d lt both))
      | inr behind ↦
          let second : j - n < length yss = omega arith in
          let there = get_or-append_right xss yss n j d refl behind in
          subst (λ (zs : List ℤ). R (get_or (xss ++ yss) i d) zs) (sym there)
          (elim (cases_lt i n) [
            | inl one ↦ subst (λ (zs : List ℤ). R zs (get_or yss (j - n) d)) (sym (get_or_append_left xss yss d i one))
                (across i (j - n) d one second)
            | inr none ↦ subst (λ (zs : List ℤ). R zs (get_or yss (j - n) d)) (sym (get_or-append_right xss yss n i d refl none))
                (q (i - n) (j - n) d (omega arith) second)
          ])
    ]

pairs_in_front : (v : ℤ) (xss : List (List ℤ)) → AllPairs IsBefore xss → AllPairs IsBefore (map (λ (ys : List ℤ). v ∷ ys) xss)
pairs_in_front v xss p = λ i j d lt le.
    let f : List ℤ → List ℤ = λ ys. v ∷ ys in
    let second : j < length xss = omega (arith, length-map xss f) in
    let first : i < length xss = omega arith in
    subst (λ (zs : List ℤ). IsBefore (get_or (map f xss) i d) zs) (sym (get_or-map f xss j [] d second))
    (subst (λ (zs : List ℤ). IsBefore zs (v ∷ get_or xss j [])) (sym (get_or-map f xss i [] d first)) (inr (refl, p i j [] lt second)))

ascending_behind : (v : ℤ) (n : ℕ) (xss : List (List ℤ)) → AllPairs IsBefore xss → AllPairs IsBefore (each_behind (numbers_from v n) xss)
ascending_behind v zero xss p = λ i j d lt le. absurd (omega arith)
ascending_behind v (suc n) xss p =
    let f : List ℤ → List ℤ = λ ys. v ∷ ys in
    let yss = each_behind (numbers_from (v +ℤ pos 1) n) xss in
    pairs_behind IsBefore (map f xss) yss (pairs_in_front v xss p) (ascending_behind (v +ℤ pos 1) n xss p)
    (λ i j d lt le.
    let first : i < length xss = omega (arith, length-map xss f) in
    let g = behind_all (numbers_from (v +ℤ pos 1) n) xss (get_or yss j d) (Contains-get_or yss j d le) in
    let w = number_is (v +ℤ pos 1) n g.value g.chosen in
    let from = w.0 in
    let less : v <ℤ g.value = omega (arith, ints) in
    subst (λ (zs : List ℤ). IsBefore (get_or (map f xss) i d) zs) (sym g.is)
    (subst (λ (zs : List ℤ). IsBefore zs (g.value ∷ g.rest)) (sym (get_or-map f xss i [] d first)) (inl less)))

pub ascending : (low high : ℤ) (k : ℕ) → AllPairs IsBefore (lists_of (values low high) k)
ascending low high zero = λ i j d lt le. absurd (omega arith)
ascending low high (suc k) = ascending_behind low (int_gap low (high +ℤ pos 1)) (lists_of (values low high) k) (ascending low high k)

pub not_itself : (xs : List ℤ) → IsBefore xs xs → ⊥
not_itself [] h = h
not_itself (x ∷ xs) h = elim h [ inl less ↦ omega (arith, ints) | inr rest ↦ not_itself xs rest.1 ]
