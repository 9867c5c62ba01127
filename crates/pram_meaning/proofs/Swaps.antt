-- Read conflicts may be taken in any order.
use Rattle.std.proofs.Common.{◌≡◌, ◌⊎◌, inl, inr, ℕ, List, [], ◌∷◌, ◌++◌, Bool, true, false, ◌||◌, ◌&&◌, if◌then◌else◌, Option, Some, None}
use Rattle.std.proofs.Common.{nat_lt, nat_eq, refl, ap, sym, ◌∙◌, arith}
use Rattle.std.proofs.lemmas.Grind.{flat_map-append}
use Rattle.std.proofs.lemmas.List.Sums.{fold-append}
use Rattle.std.specs.List.{fold, flat_map, list_any}
use Rattle.pram_values.proofs.PlaceOrder.{one_is_before}
use Rattle.pram_values.specs.Place.{is_place_before}
use Rattle.pram_meaning.specs.Conflict.{conflict_of, is_conflict, is_key_before, lesser, read_key}
use Rattle.pram_meaning.specs.declared.key.Key.{Key}
use Rattle.pram_meaning.specs.declared.read.Read.{Read}
use Rattle.pram_meaning.proofs.LeastKey.{key_irreflexive, key_passed_on}
use Rattle.pram_model.proofs.Truths.{either}

-- ---- two keys of one kind

one_way : (j k : Key) → is_key_before j k ≡ true → is_key_before k j ≡ true → ⊥
one_way j k a b = let c : is_key_before j j ≡ true = key_passed_on j k j a b in let d = key_irreflexive j in cc (c, d)

pub tied_at : (a b : ℕ) (p q : Bool) → (nat_lt a b || (nat_eq a b && p)) ≡ false → (nat_lt b a || (nat_eq b a && q)) ≡ false → a ≡ b
tied_at a b true true h k = grind arith
tied_at a b true false h k = grind arith
tied_at a b false true h k = grind arith
tied_at a b false false h k = grind arith

pub tied_place : (a b : ℕ) (p : Bool) → a ≡ b → (nat_lt a b || (nat_eq a b && p)) ≡ false → p ≡ false
tied_place a b true e h = grind arith
tied_place a b false e h = refl

one_key : (j k : Key) → j.kind ≡ k.kind → is_key_before j k ≡ false → is_key_before k j ≡ false → j ≡ k
one_key j k same a b =
    let at : j.at ≡ k.at = tied_at j.at k.at (is_place_before j.place k.place) (is_place_before k.place j.place) a b in
    let place : j.place ≡ k.place =
    one_is_before j.place k.place (tied_place j.at k.at (is_place_before j.place k.place) at a)
    (tied_place k.at j.at (is_place_before k.place j.place) (sym at) b) in
    λ i. record { at = at i; place = place i; kind = same i }

two_swap : (j k : Key) → j.kind ≡ k.kind → (is_key_before k j ≡ true) ⊎ (is_key_before k j ≡ false) → (is_key_before j k ≡ true)
    ⊎ (is_key_before j k ≡ false) → lesser (Some j) k ≡ lesser (Some k) j
two_swap j k same (inl a) (inl b) = absurd (one_way j k b a)
two_swap j k same (inl a) (inr b) = ap (λ c. if c then Some k else Some j) a ∙ sym (ap (λ c. if c then Some j else Some k) b)
two_swap j k same (inr a) (inl b) = ap (λ c. if c then Some k else Some j) a ∙ sym (ap (λ c. if c then Some j else Some k) b)
two_swap j k same (inr a) (inr b) = ap (λ c. if c then Some k else Some j) a ∙ ap Some (one_key j k same b a)
    ∙ sym (ap (λ c. if c then Some j else Some k) b)

three_swap : (m j k : Key) → j.kind ≡ k.kind → (is_key_before j m ≡ true) ⊎ (is_key_before j m ≡ false) → (is_key_before k m ≡ true)
    ⊎ (is_key_before k m ≡ false) → (is_key_before k j ≡ true) ⊎ (is_key_before k j ≡ false) → (is_key_before j k ≡ true)
    ⊎ (is_key_before j k ≡ false) → lesser (lesser (Some m) j) k ≡ lesser (lesser (Some m) k) j
three_swap m j k same (inl a) (inl b) c d =
    ap (λ c. lesser (if c then Some j else Some m) k) a ∙ two_swap j k same c d ∙ sym (ap (λ c. lesser (if c then Some k else Some m) j) b)
three_swap m j k same (inl a) (inr b) (inl c) d = let e : is_key_before k m ≡ true = key_passed_on k j m c a in absurd (cc (e, b))
three_swap m j k same (inl a) (inr b) (inr c) d =
    ap (λ c. lesser (if c then Some j else Some m) k) a ∙ ap (λ c. if c then Some k else Some j) c
    ∙ sym (ap (λ c. lesser (if c then Some k else Some m) j) b ∙ ap (λ c. if c then Some j else Some m) a)
three_swap m j k same (inr a) (inl b) c (inl d) = let e : is_key_before j m ≡ true = key_passed_on j k m d b in absurd (cc (e, a))
three_swap m j k same (inr a) (inl b) c (inr d) =
    ap (λ c. lesser (if c then Some j else Some m) k) a ∙ ap (λ c. if c then Some k else Some m) b
    ∙ sym (ap (λ c. lesser (if c then Some k else Some m) j) b ∙ ap (λ c. if c then Some j else Some k) d)
three_swap m j k same (inr a) (inr b) c d =
    ap (λ c. lesser (if c then Some j else Some m) k) a ∙ ap (λ c. if c then Some k else Some m) b
    ∙ sym (ap (λ c. lesser (if c then Some k else Some m) j) b ∙ ap (λ c. if c then Some j else Some m) a)

swap_keys : (b : Option Key) (j k : Key) → j.kind ≡ k.kind → lesser (lesser b j) k ≡ lesser (lesser b k) j
swap_keys None j k same = two_swap j k same (either (is_key_before k j)) (either (is_key_before j k))
swap_keys (Some m) j k same = three_swap m j k same (either (is_key_before j m)) (either (is_key_before k m)) (either (is_key_before k j))
    (either (is_key_before j k))

-- ---- two lists of reads

abbrev key_if : Bool → Read → List Key
key_if c r = if c then read_key r ∷ [] else []

swap_if : (c d : Bool) (b : Option Key) (r q : Read) → fold lesser (fold lesser b (key_if c r))
    (key_if d q) ≡ fold lesser (fold lesser b (key_if d q)) (key_if c r)
swap_if true true b r q = swap_keys b (read_key r) (read_key q) refl
swap_if true false b r q = refl
swap_if false true b r q = refl
swap_if false false b r q = refl

-- the least key, from b on, of the conflicts that these reads have among all reads
abbrev pub found : List Read → Option Key → List Read → Option Key
found all b rs = fold lesser b (flat_map (conflict_of all) rs)

abbrev one : List Read → Option Key → Read → Option Key
one all b r = fold lesser b (conflict_of all r)

module _ (all : List Read) where
  pub found-append : (b : Option Key) (rs qs : List Read) → found all b (rs ++ qs) ≡ found all (found all b rs) qs
  found-append b rs qs = ap (fold lesser b) (flat_map-append (conflict_of all) rs qs)
      ∙ fold-append lesser b (flat_map (conflict_of all) rs) (flat_map (conflict_of all) qs)

  found-cons : (b : Option Key) (r : Read) (rs : List Read) → found all b (r ∷ rs) ≡ found all (one all b r) rs
  found-cons b r rs = fold-append lesser b (conflict_of all r) (flat_map (conflict_of all) rs)

  swap_ones : (b : Option Key) (r q : Read) → one all (one all b r) q ≡ one all (one all b q) r
  swap_ones b r q = swap_if (list_any (is_conflict r) all) (list_any (is_conflict q) all) b r q

  swap_one : (b : Option Key) (r : Read) (qs : List Read) → found all (one all b r) qs ≡ one all (found all b qs) r
  swap_one b r [] = refl
  swap_one b r (q ∷ qs) =
      found-cons (one all b r) q qs ∙ ap (λ m. found all m qs) (swap_ones b r q) ∙ swap_one (one all b q) r qs
      ∙ ap (λ m. one all m r) (sym (found-cons b q qs))

  swap : (b : Option Key) (rs qs : List Read) → found all (found all b rs) qs ≡ found all (found all b qs) rs
  swap b [] qs = refl
  swap b (r ∷ rs) qs =
      ap (λ m. found all m qs) (found-cons b r rs) ∙ swap (one all b r) rs qs ∙ ap (λ m. found all m rs) (swap_one b r qs)
      ∙ sym (found-cons (found all b qs) r rs)

  -- ---- rows and columns

  zipped : {P : Type 0} (u v : P → List Read) (ps : List P) (b : Option Key) →
      found all b (flat_map (λ p. u p ++ v p) ps) ≡ found all (found all b (flat_map u ps)) (flat_map v ps)
  zipped u v [] b = refl
  zipped u v (p ∷ ps) b =
      found-append b (u p ++ v p) (flat_map (λ p. u p ++ v p) ps)
      ∙ ap (λ m. found all m (flat_map (λ p. u p ++ v p) ps)) (found-append b (u p) (v p))
      ∙ zipped u v ps (found all (found all b (u p)) (v p))
      ∙ ap (λ m. found all m (flat_map v ps)) (swap (found all b (u p)) (v p) (flat_map u ps))
      ∙ ap (λ m. found all (found all m (v p)) (flat_map v ps)) (sym (found-append b (u p) (flat_map u ps)))
      ∙ sym (found-append (found all b (u p ++ flat_map u ps)) (v p) (flat_map v ps))

  nothing : {P : Type 0} (ps : List P) → flat_map {X = P} {A = Read} (λ p. []) ps ≡ []
  nothing [] = refl
  nothing (p ∷ ps) = nothing ps

  pub transposed : {X P : Type 0} (g : X → P → List Read) (xs : List X) (ps : List P) (b : Option Key) →
      found all b (flat_map (λ p. flat_map (λ x. g x p) xs) ps) ≡ found all b (flat_map (λ x. flat_map (g x) ps) xs)
  transposed g [] ps b = ap (found all b) (nothing ps)
  transposed g (x ∷ xs) ps b =
      zipped (g x) (λ p. flat_map (λ x. g x p) xs) ps b
      ∙ transposed g xs ps (found all b (flat_map (g x) ps))
      ∙ sym (found-append b (flat_map (g x) ps) (flat_map (λ x. flat_map (g x) ps) xs))
