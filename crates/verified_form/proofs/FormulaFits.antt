-- The code of a formula, judged: where its names are declared, and at most eight reads are held.
use Rattle.std.proofs.Common.{◌≡◌, ℕ, zero, suc, ◌+◌, ◌<◌, ◌≤◌, [], ◌∷◌, ◌++◌, length, Bool, true, false, not, ◌&&◌, refl, ap, arith}
use Rattle.std.proofs.Common.{⊎_elim}
use Rattle.std.specs.Prelude.{nat_lt, nat_eq}
use Rattle.std.proofs.lemmas.Bool.{cases_lt}
use Rattle.std.proofs.lemmas.Bool.Decides.{nat_tests}
use Rattle.superstep_instructions.specs.declared.instr.Side.{Side}
use Rattle.superstep_instructions.specs.declared.instr.Side.TheVariants.{Uniform, Private}
use Rattle.superstep_instructions.specs.declared.instr.Arithmetic.{Arithmetic}
use Rattle.superstep_instructions.specs.declared.instr.Truth.{Truth}
use Rattle.superstep_instructions.specs.declared.instr.Instr.TheVariants.{Set, Negate, Calculate, Decide, Not, Ask, Send, Reply}
use Rattle.superstep_instructions.specs.Code.{SuperstepCode}
use Rattle.pram_tokens.specs.declared.token.Binary.{Binary}
use Rattle.pram_tokens.specs.declared.token.Binary.TheVariants as binary
use Rattle.pram_trees.specs.declared.tree.Prefix.{Prefix}
use Rattle.pram_trees.specs.declared.tree.Prefix.TheVariants as prefix
use Rattle.plain_form.specs.Formulas.{Formula, Zero, Number, Variable, Index, Local, Read, Before, Between, Pair, reads, positions, nesting}
use Rattle.plain_form.specs.Regions.{variable_code, place, before_code, between_code, region}
use Rattle.plain_form.specs.Groups.{only, asks, groups, stack, evaluated}
use Rattle.plain_form.specs.Shapes.{any_level, still}
use Rattle.verified_form.proofs.Fitting.{asking, resting, has_own_side, acts_on_own_side, IsFit, Fits, fits_join, fits_to}
use Rattle.verified_form.proofs.Held.{still_held, is_sent}

-- each read is of a declaration that is there
abbrev pub IsWithin : ℕ → Formula → Type 0
IsWithin entries Zero = Unit {0}
IsWithin entries (Number n) = Unit {0}
IsWithin entries (Variable x) = Unit {0}
IsWithin entries Index = Unit {0}
IsWithin entries (Local x) = Unit {0}
IsWithin entries (Read a f) = (a < entries) × IsWithin entries f
IsWithin entries (Before o f) = IsWithin entries f
IsWithin entries (Between o f g) = IsWithin entries f × IsWithin entries g
IsWithin entries (Pair f g) = IsWithin entries f × IsWithin entries g

-- ---- how many reads a level has

abbrev pub one_if : Bool → ℕ
one_if true = 1
one_if false = 0

-- the reads with l reads nested in their subscripts
abbrev pub count_at : ℕ → Formula → ℕ
count_at l Zero = 0
count_at l (Number n) = 0
count_at l (Variable x) = 0
count_at l Index = 0
count_at l (Local x) = 0
count_at l (Read a f) = count_at l f + one_if (nat_eq (nesting f) l)
count_at l (Before o f) = count_at l f
count_at l (Between o f g) = count_at l f + count_at l g
count_at l (Pair f g) = count_at l f + count_at l g

at_most_one : (b : Bool) → one_if b ≤ 1
at_most_one true = omega arith
at_most_one false = omega arith

pub few_at : (l : ℕ) (f : Formula) → count_at l f ≤ reads f
few_at l Zero = omega arith
few_at l (Number n) = omega arith
few_at l (Variable x) = omega arith
few_at l Index = omega arith
few_at l (Local x) = omega arith
few_at l (Read a f) = let h : count_at l f ≤ reads f = few_at l f in let k = at_most_one (nat_eq (nesting f) l) in omega (arith, h, k)
few_at l (Before o f) = few_at l f
few_at l (Between o f g) =
    let h : count_at l f ≤ reads f = few_at l f in
    let k : count_at l g ≤ reads g = few_at l g in
    omega (arith, h, k)
few_at l (Pair f g) =
    let h : count_at l f ≤ reads f = few_at l f in
    let k : count_at l g ≤ reads g = few_at l g in
    omega (arith, h, k)

-- a read of this level, or one in its subscript
read_at : (l : ℕ) (f : Formula) → (l < nesting f → 0 < count_at l f) → l < nesting f + 1 → 0 < count_at l f + one_if (nat_eq (nesting f) l)
read_at l f some h = ⊎_elim (λ k. inner k) (λ k. here k) (cases_lt l (nesting f))
  where
    inner : l < nesting f → 0 < count_at l f + one_if (nat_eq (nesting f) l)
    inner k = let i : 0 < count_at l f = some k in omega (arith, i)

    here : nesting f ≤ l → 0 < count_at l f + one_if (nat_eq (nesting f) l)
    here k =
        let e : nat_eq (nesting f) l ≡ true = grind (arith, nat_tests) in
        let o : one_if (nat_eq (nesting f) l) ≡ 1 = ap one_if e in
        omega (arith, o)

-- each level below the nesting has one
pub some_at : (l : ℕ) (f : Formula) → l < nesting f → 0 < count_at l f
some_at l Zero h = absurd (omega (arith, h))
some_at l (Number n) h = absurd (omega (arith, h))
some_at l (Variable x) h = absurd (omega (arith, h))
some_at l Index h = absurd (omega (arith, h))
some_at l (Local x) h = absurd (omega (arith, h))
some_at l (Read a f) h = read_at l f (λ k. some_at l f k) h
some_at l (Before o f) h = some_at l f h
some_at l (Between o f g) h =
    ⊎_elim
    (λ k. let i : 0 < count_at l f = some_at l f k in let e : 0 < count_at l f + count_at l g = omega (arith, i) in e)
    (λ k. let i : 0 < count_at l g = some_at l g (omega (arith, h, k)) in let e : 0 < count_at l f + count_at l g = omega (arith, i) in e)
    (cases_lt l (nesting f))
some_at l (Pair f g) h =
    ⊎_elim
    (λ k. let i : 0 < count_at l f = some_at l f k in let e : 0 < count_at l f + count_at l g = omega (arith, i) in e)
    (λ k. let i : 0 < count_at l g = some_at l g (omega (arith, h, k)) in let e : 0 < count_at l f + count_at l g = omega (arith, i) in e)
    (cases_lt l (nesting f))

-- ---- the states, in the code

module _ (code : SuperstepCode) (side : Side) (masks : ℕ) where
  module _ (k : ℕ) (held : Bool) where
    set_fits : (d : ℕ) (n : _) → IsFit code (Set side d n) (asking side masks k held)
    set_fits d n = record { along = refl; entry = refl; mode = has_own_side side masks k held; masks = refl; exchange = refl }

    negate_fits : (d x q : ℕ) → IsFit code (Negate side d x q) (asking side masks k held)
    negate_fits d x q = record { along = refl; entry = refl; mode = has_own_side side masks k held; masks = refl; exchange = refl }

    calculate_fits : (o : Arithmetic) (d x y q : ℕ) → IsFit code (Calculate side o d x y q) (asking side masks k held)
    calculate_fits o d x y q = record { along = refl; entry = refl; mode = has_own_side side masks k held; masks = refl; exchange = refl }

    decide_fits : (o : Truth) (d x y : ℕ) → IsFit code (Decide side o d x y) (asking side masks k held)
    decide_fits o d x y = record { along = refl; entry = refl; mode = has_own_side side masks k held; masks = refl; exchange = refl }

    not_fits : (d x : ℕ) → IsFit code (Not side d x) (asking side masks k held)
    not_fits d x = record { along = refl; entry = refl; mode = has_own_side side masks k held; masks = refl; exchange = refl }

    variable_fits : (s : Side) (x b : ℕ) → Fits code (asking s masks k held) (variable_code s x b) (asking s masks k held)
    variable_fits Uniform x b = refl
    variable_fits Private x b = (record { along = refl; entry = refl; mode = refl; masks = refl; exchange = refl }, refl)

    before_fits : (o : Prefix) (b x q : ℕ) → Fits code (asking side masks k held) (before_code side o b x q) (asking side masks k held)
    before_fits prefix.Negate b x q = (negate_fits b x q, refl)
    before_fits prefix.Not b x q = (not_fits b x, refl)

    between_fits : (o : Binary) (b x y q : ℕ) →
        Fits code (asking side masks k held) (between_code side o b x y q) (asking side masks k held)
    between_fits binary.Or b x y q = (decide_fits _ b x y, refl)
    between_fits binary.And b x y q = (decide_fits _ b x y, refl)
    between_fits binary.Equal b x y q = (decide_fits _ b x y, refl)
    between_fits binary.Unequal b x y q = (decide_fits _ b x y, (not_fits b b, refl))
    between_fits binary.Less b x y q = (decide_fits _ b x y, refl)
    between_fits binary.AtMost b x y q = (decide_fits _ b x y, refl)
    between_fits binary.Greater b x y q = (decide_fits _ b y x, refl)
    between_fits binary.AtLeast b x y q = (decide_fits _ b y x, refl)
    between_fits binary.Add b x y q = (calculate_fits _ b x y q, refl)
    between_fits binary.Subtract b x y q = (calculate_fits _ b x y q, refl)
    between_fits binary.Multiply b x y q = (calculate_fits _ b x y q, refl)
    between_fits binary.Divide b x y q = (calculate_fits _ b x y q, refl)
    between_fits binary.Remainder b x y q = (calculate_fits _ b x y q, refl)

    -- what stands around the reads works on registers alone
    pub region_fits : (f : Formula) (t b q : ℕ) → Fits code (asking side masks k held) (region side f t b q) (asking side masks k held)
    region_fits Zero t b q = refl
    region_fits (Number n) t b q = (set_fits b n, refl)
    region_fits (Variable x) t b q = variable_fits side x b
    region_fits Index t b q = refl
    region_fits (Local x) t b q = refl
    region_fits (Read a f) t b q = refl
    region_fits (Before o f) t b q =
        let s = asking side masks k held in
        fits_join code s s s (region side f t b q) (before_code side o b (place side f t b) (q + positions f + 1))
        (region_fits f t b q) (before_fits o b (place side f t b) (q + positions f + 1))
    region_fits (Between o f g) t b q =
        let s = asking side masks k held in
        let second = region side g (t + reads f) (b + 1) (q + positions f) in
        let x = place side f t b in
        let y = place side g (t + reads f) (b + 1) in
        let last = between_code side o b x y (q + positions f + positions g + 1) in
        fits_join code s s s (region side f t b q) (second ++ last) (region_fits f t b q)
        (fits_join code s s s second last (region_fits g (t + reads f) (b + 1) (q + positions f))
        (between_fits o b x y (q + positions f + positions g + 1)))
    region_fits (Pair f g) t b q =
        let s = asking side masks k held in
        fits_join code s s s (region side f t b q) (region side g (t + reads f) (b + 1) (q + positions f)) (region_fits f t b q)
        (region_fits g (t + reads f) (b + 1) (q + positions f))

  -- ---- the reads of a level

  module _ (held : Bool) (l : ℕ) where
    ask_fits : (k d a x q : ℕ) → a < length code.layout → k < 8 → IsFit code (Ask side d a x q) (asking side masks k held)
    ask_fits k d a x q h m = record {
      along = refl;
      entry = (let e : nat_lt a (length code.layout) ≡ true = grind (arith, nat_tests) in e);
      mode = acts_on_own_side side masks k held;
      masks = refl;
      exchange = (let e : nat_lt k 8 ≡ true = grind (arith, nat_tests) in e);
    }

    same_count : (k n : ℕ) → k ≡ n → asking side masks k held ≡ asking side masks n held
    same_count k n e = ap (λ (c : ℕ). asking side masks c held) e

    -- an ask behind its subscript, if the read is of this level
    read_fits : (a : ℕ) (f : Formula) (t b q k : ℕ) (here : Bool) → a < length code.layout → k + one_if here ≤ 8 →
        Fits code (asking side masks k held)
        (only here (region side f t b q ++ Ask side (t + reads f) a (place side f t b) (q + positions f + 1) ∷ []))
        (asking side masks (k + one_if here) held)
    read_fits a f t b q k true h m =
        fits_join code (asking side masks k held) (asking side masks k held) (asking side masks (k + 1) held) (region side f t b q)
        (Ask side (t + reads f) a (place side f t b) (q + positions f + 1) ∷ []) (region_fits k held f t b q)
        (ask_fits k (t + reads f) a (place side f t b) (q + positions f + 1) h (omega (arith, m)), refl)
    read_fits a f t b q k false h m = same_count k (k + 0) (omega arith)

    pub asks_fit : (f : Formula) (t b q k : ℕ) → IsWithin (length code.layout) f → k + count_at l f ≤ 8 →
        Fits code (asking side masks k held) (asks side l f t b q) (asking side masks (k + count_at l f) held)
    asks_fit Zero t b q k h m = same_count k (k + 0) (omega arith)
    asks_fit (Number n) t b q k h m = same_count k (k + 0) (omega arith)
    asks_fit (Variable x) t b q k h m = same_count k (k + 0) (omega arith)
    asks_fit Index t b q k h m = same_count k (k + 0) (omega arith)
    asks_fit (Local x) t b q k h m = same_count k (k + 0) (omega arith)
    asks_fit (Read a f) t b q k h m =
        let n = k + count_at l f in
        let here = nat_eq (nesting f) l in
        let ask = only here (region side f t b q ++ Ask side (t + reads f) a (place side f t b) (q + positions f + 1) ∷ []) in
        fits_to code (asking side masks k held) (asking side masks (n + one_if here) held)
        (asking side masks (k + (count_at l f + one_if here)) held) (asks side l f t b q ++ ask)
        (same_count (n + one_if here) (k + (count_at l f + one_if here)) (omega arith))
        (fits_join code (asking side masks k held) (asking side masks n held) (asking side masks (n + one_if here) held)
        (asks side l f t b q) ask (asks_fit f t b q k h.1 (omega (arith, m))) (read_fits a f t b q n here h.0 (omega (arith, m))))
    asks_fit (Before o f) t b q k h m = asks_fit f t b q k h m
    asks_fit (Between o f g) t b q k h m =
        let n = k + count_at l f in
        fits_to code (asking side masks k held) (asking side masks (n + count_at l g) held)
        (asking side masks (k + (count_at l f + count_at l g)) held) (asks side l f t b q ++ asks side l g (t + reads f) b
        (q + positions f))
        (same_count (n + count_at l g) (k + (count_at l f + count_at l g)) (omega arith))
        (fits_join code (asking side masks k held) (asking side masks n held) (asking side masks (n + count_at l g) held)
        (asks side l f t b q) (asks side l g (t + reads f) b (q + positions f)) (asks_fit f t b q k h.0 (omega (arith, m)))
        (asks_fit g (t + reads f) b (q + positions f) n h.1 (omega (arith, m))))
    asks_fit (Pair f g) t b q k h m =
        let n = k + count_at l f in
        fits_to code (asking side masks k held) (asking side masks (n + count_at l g) held)
        (asking side masks (k + (count_at l f + count_at l g)) held) (asks side l f t b q ++ asks side l g (t + reads f) b
        (q + positions f))
        (same_count (n + count_at l g) (k + (count_at l f + count_at l g)) (omega arith))
        (fits_join code (asking side masks k held) (asking side masks n held) (asking side masks (n + count_at l g) held)
        (asks side l f t b q) (asks side l g (t + reads f) b (q + positions f)) (asks_fit f t b q k h.0 (omega (arith, m)))
        (asks_fit g (t + reads f) b (q + positions f) n h.1 (omega (arith, m))))

  -- ---- all levels

  -- the reads of a level, and the reply
  group_fits : (held : Bool) (l : ℕ) (f : Formula) (t b : ℕ) → IsWithin (length code.layout) f → reads f ≤ 8 → l < nesting f →
      Fits code (resting side masks held) (asks side l f t b 0 ++ Send ∷ Reply ∷ []) (resting side masks false)
  group_fits held l f t b h m n =
      let count = 0 + count_at l f in
      let few = few_at l f in
      let some = some_at l f n in
      let awaits : nat_lt 0 count ≡ true = let e : 0 < count = omega (arith, some) in grind (arith, nat_tests) in
      fits_join code (resting side masks held) (asking side masks count held) (resting side masks false) (asks side l f t b 0)
      (Send ∷ Reply ∷ []) (asks_fit held l f t b 0 0 h (omega (arith, m, few))) (
        record { along = refl; entry = refl; mode = refl; masks = refl; exchange = refl },
        (record { along = refl; entry = refl; mode = refl; masks = refl; exchange = awaits }, refl),
      )

  groups_fit : (held : Bool) (n l : ℕ) (f : Formula) (t b : ℕ) → IsWithin (length code.layout) f → reads f ≤ 8 → l + n ≤ nesting f →
      Fits code (resting side masks held) (groups side n l f t b) (resting side masks (held && not (any_level n)))
  groups_fit held zero l f t b h m k = ap (λ (c : Bool). resting side masks c) (still_held held)
  groups_fit held (suc n) l f t b h m k =
      fits_join code (resting side masks held) (resting side masks false) (resting side masks (held && not true))
      (asks side l f t b 0 ++ Send ∷ Reply ∷ []) (groups side n (l + 1) f t b) (group_fits held l f t b h m (omega (arith, k)))
      (fits_to code (resting side masks false) (resting side masks false) (resting side masks (held && not true)) (groups side n
      (l + 1) f t b)
      (ap (λ (c : Bool). resting side masks c) (is_sent held)) (groups_fit false n (l + 1) f t b h m (omega (arith, k))))

  -- the code of a formula; with a read in it no write is held behind it
  pub evaluated_fits : (held : Bool) (base : ℕ) (f : Formula) → IsWithin (length code.layout) f → reads f ≤ 8 →
      Fits code (resting side masks held) (evaluated side base f) (resting side masks (still held f))
  evaluated_fits held base f h m =
      fits_join code (resting side masks held) (resting side masks (still held f)) (resting side masks (still held f))
      (groups side (nesting f) 0 f base (stack base f)) (region side f base (stack base f) 0)
      (groups_fit held (nesting f) 0 f base (stack base f) h m (omega arith)) (region_fits 0 (still held f) f base (stack base f) 0)
