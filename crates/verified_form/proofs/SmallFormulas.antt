-- The code of a formula within the limits of a listing.
use Rattle.std.proofs.Common.{ℕ, zero, suc, ◌+◌, ◌<◌, ◌≤◌, ◌^◌, List, [], ◌∷◌, ◌++◌, Bool, true, false, ℤ, arith}
use Rattle.std.specs.Prelude.{nat_eq}
use Rattle.std.specs.List.{AllByRecursion}
use Rattle.superstep_instructions.specs.declared.instr.Side.{Side}
use Rattle.superstep_instructions.specs.declared.instr.Side.TheVariants.{Uniform, Private}
use Rattle.superstep_instructions.specs.declared.instr.Arithmetic.{Arithmetic}
use Rattle.superstep_instructions.specs.declared.instr.Truth.{Truth}
use Rattle.superstep_instructions.specs.declared.instr.Instr.{Instr}
use Rattle.superstep_instructions.specs.declared.instr.Instr.TheVariants.{Mark, Set, Copy, Negate, Calculate, Decide, Not, Index, Enter}
use Rattle.superstep_instructions.specs.declared.instr.Instr.TheVariants.{Ask, Put, Send, Reply}
use Rattle.superstep_instructions.specs.Code.{Wide}
use Rattle.superstep_instructions.specs.Limits.{Fits}
use Rattle.pram_tokens.specs.declared.token.Binary.{Binary}
use Rattle.pram_tokens.specs.declared.token.Binary.TheVariants as binary
use Rattle.pram_trees.specs.declared.tree.Prefix.{Prefix}
use Rattle.pram_trees.specs.declared.tree.Prefix.TheVariants as prefix
use Rattle.plain_form.specs.Registers.{if_on, named, behind_all}
use Rattle.plain_form.specs.Formulas.{Formula, Zero, Number, Variable, Index, Local, Read, Before, Between, Pair, reads, positions, nesting}
use Rattle.plain_form.specs.Regions.{variable_at, variable_code, place, before_code, between_code, region}
use Rattle.plain_form.specs.Groups.{only, asks, groups, stack, evaluated}
use Rattle.verified_form.proofs.Straight.{all_join}

-- the lines, positions and values of an instruction have numbers in a listing
abbrev pub HasNumbers : Instr → Type 0
HasNumbers (Mark line) = line < 2 ^ 32
HasNumbers (Set s d n) = Fits (Wide n)
HasNumbers (Negate s d x q) = q < 2 ^ 32
HasNumbers (Calculate s o d x y q) = q < 2 ^ 32
HasNumbers (Enter x y q) = q < 2 ^ 32
HasNumbers (Ask s d a x q) = q < 2 ^ 32
HasNumbers (Put s a x y q) = q < 2 ^ 32
HasNumbers i = Unit {0}

-- and its registers of both sides are below `most`
pub record IsSmall (most : ℕ) (i : Instr) : Type 0 where
  pub uniform : behind_all (named Uniform i) ≤ most
  pub private : behind_all (named Private i) ≤ most
  pub numbers : HasNumbers i

abbrev pub AreSmall : ℕ → List Instr → Type 0
AreSmall most = AllByRecursion (IsSmall most)

pub small_join : (most : ℕ) (xs ys : List Instr) → AreSmall most xs → AreSmall most ys → AreSmall most (xs ++ ys)
small_join most xs ys a b = all_join (IsSmall most) xs ys a b

-- its registers of a side, if it works there
pub on_side : (most : ℕ) (s t : Side) (rs : List ℕ) → behind_all rs ≤ most → behind_all (if_on s t rs) ≤ most
on_side most Uniform Uniform rs h = h
on_side most Private Private rs h = h
on_side most Uniform Private rs h = omega arith
on_side most Private Uniform rs h = omega arith

-- ---- instructions

module _ (most : ℕ) (s : Side) where
  one_small : (d : ℕ) → d < most → behind_all (d ∷ []) ≤ most
  one_small d h = omega (arith, h)

  two_small : (d x : ℕ) → d < most → x < most → behind_all (d ∷ x ∷ []) ≤ most
  two_small d x h k = omega (arith, h, k)

  three_small : (d x y : ℕ) → d < most → x < most → y < most → behind_all (d ∷ x ∷ y ∷ []) ≤ most
  three_small d x y h k l = omega (arith, h, k, l)

  pub set_small : (d : ℕ) (n : ℤ) → d < most → Fits (Wide n) → IsSmall most (Set s d n)
  set_small d n h f = record {
    uniform = on_side most Uniform s (d ∷ []) (one_small d h);
    private = on_side most Private s (d ∷ []) (one_small d h);
    numbers = f;
  }

  pub copy_small : (d x : ℕ) → d < most → x < most → IsSmall most (Copy s d x)
  copy_small d x h k = record {
    uniform = on_side most Uniform s (d ∷ x ∷ []) (two_small d x h k);
    private = on_side most Private s (d ∷ x ∷ []) (two_small d x h k);
    numbers = tt;
  }

  pub decide_small : (o : Truth) (d x y : ℕ) → d < most → x < most → y < most → IsSmall most (Decide s o d x y)
  decide_small o d x y h k l = record {
    uniform = on_side most Uniform s (d ∷ x ∷ y ∷ []) (three_small d x y h k l);
    private = on_side most Private s (d ∷ x ∷ y ∷ []) (three_small d x y h k l);
    numbers = tt;
  }

  pub calculate_small : (o : Arithmetic) (d x y q : ℕ) → d < most → x < most → y < most → q < 2 ^ 32 → IsSmall most (Calculate s o d x y q)
  calculate_small o d x y q h k l m = record {
    uniform = on_side most Uniform s (d ∷ x ∷ y ∷ []) (three_small d x y h k l);
    private = on_side most Private s (d ∷ x ∷ y ∷ []) (three_small d x y h k l);
    numbers = m;
  }

  negate_small : (d x q : ℕ) → d < most → x < most → q < 2 ^ 32 → IsSmall most (Negate s d x q)
  negate_small d x q h k m = record {
    uniform = on_side most Uniform s (d ∷ x ∷ []) (two_small d x h k);
    private = on_side most Private s (d ∷ x ∷ []) (two_small d x h k);
    numbers = m;
  }

  not_small : (d x : ℕ) → d < most → x < most → IsSmall most (Not s d x)
  not_small d x h k = record {
    uniform = on_side most Uniform s (d ∷ x ∷ []) (two_small d x h k);
    private = on_side most Private s (d ∷ x ∷ []) (two_small d x h k);
    numbers = tt;
  }

  ask_small : (d a x q : ℕ) → d < most → x < most → q < 2 ^ 32 → IsSmall most (Ask s d a x q)
  ask_small d a x q h k m = record {
    uniform = on_side most Uniform s (d ∷ x ∷ []) (two_small d x h k);
    private = on_side most Private s (d ∷ x ∷ []) (two_small d x h k);
    numbers = m;
  }

  pub put_small : (a x y q : ℕ) → x < most → y < most → q < 2 ^ 32 → IsSmall most (Put s a x y q)
  put_small a x y q h k m = record {
    uniform = on_side most Uniform s (x ∷ y ∷ []) (two_small x y h k);
    private = on_side most Private s (x ∷ y ∷ []) (two_small x y h k);
    numbers = m;
  }

  before_small : (o : Prefix) (b x q : ℕ) → b < most → x < most → q < 2 ^ 32 → AreSmall most (before_code s o b x q)
  before_small prefix.Negate b x q h k m = (negate_small b x q h k m, tt)
  before_small prefix.Not b x q h k m = (not_small b x h k, tt)

  between_small : (o : Binary) (b x y q : ℕ) → b < most → x < most → y < most → q < 2 ^ 32 → AreSmall most (between_code s o b x y q)
  between_small binary.Or b x y q h k l m = (decide_small _ b x y h k l, tt)
  between_small binary.And b x y q h k l m = (decide_small _ b x y h k l, tt)
  between_small binary.Equal b x y q h k l m = (decide_small _ b x y h k l, tt)
  between_small binary.Unequal b x y q h k l m = (decide_small _ b x y h k l, (not_small b b h h, tt))
  between_small binary.Less b x y q h k l m = (decide_small _ b x y h k l, tt)
  between_small binary.AtMost b x y q h k l m = (decide_small _ b x y h k l, tt)
  between_small binary.Greater b x y q h k l m = (decide_small _ b y x h l k, tt)
  between_small binary.AtLeast b x y q h k l m = (decide_small _ b y x h l k, tt)
  between_small binary.Add b x y q h k l m = (calculate_small _ b x y q h k l m, tt)
  between_small binary.Subtract b x y q h k l m = (calculate_small _ b x y q h k l m, tt)
  between_small binary.Multiply b x y q h k l m = (calculate_small _ b x y q h k l m, tt)
  between_small binary.Divide b x y q h k l m = (calculate_small _ b x y q h k l m, tt)
  between_small binary.Remainder b x y q h k l m = (calculate_small _ b x y q h k l m, tt)

-- ---- formulas

-- at most so many registers of the stack
abbrev pub height : Formula → ℕ
height Zero = 0
height (Number n) = 1
height (Variable x) = 1
height Index = 0
height (Local x) = 0
height (Read a f) = height f
height (Before o f) = height f + 1
height (Between o f g) = height f + height g + 1
height (Pair f g) = height f + height g + 1

-- its names are declared: so many variables, and so many locals; and its numbers are numbers of a listing
abbrev pub HasNames : (uniforms locals : ℕ) → Formula → Type 0
HasNames uniforms locals Zero = Unit {0}
HasNames uniforms locals (Number n) = Fits (Wide n)
HasNames uniforms locals (Variable x) = x < uniforms
HasNames uniforms locals Index = Unit {0}
HasNames uniforms locals (Local x) = x < locals
HasNames uniforms locals (Read a f) = HasNames uniforms locals f
HasNames uniforms locals (Before o f) = HasNames uniforms locals f
HasNames uniforms locals (Between o f g) = HasNames uniforms locals f × HasNames uniforms locals g
HasNames uniforms locals (Pair f g) = HasNames uniforms locals f × HasNames uniforms locals g

-- from there on there is room for its reads, its stack and its positions
pub record HasRoom (most : ℕ) (f : Formula) (t b q : ℕ) : Type 0 where
  pub reads : t + reads f < most
  pub stack : b + height f + 1 ≤ most
  pub positions : q + positions f < 2 ^ 32

module _ (most uniforms locals : ℕ) (few : uniforms + 1 ≤ most) (fewer : locals + 2 ≤ most) where
  variable_below : (s : Side) (x b : ℕ) → x < uniforms → b < most → variable_at s x b < most
  variable_below Uniform x b h k = omega (arith, h, few)
  variable_below Private x b h k = k

  variable_small : (s : Side) (x b : ℕ) → x < uniforms → b < most → AreSmall most (variable_code s x b)
  variable_small Uniform x b h k = tt
  variable_small Private x b h k =
      (record { uniform = omega (arith, h, few); private = omega (arith, k); numbers = tt }, tt)

  module _ (s : Side) where
    -- names and reads are below the stack
    pub place_below : (f : Formula) (t b q : ℕ) → HasNames uniforms locals f → HasRoom most f t b q → place s f t b < most
    place_below Zero t b q h r = omega (arith, fewer)
    place_below (Number n) t b q h r = let k = r.stack in omega (arith, k)
    place_below (Variable x) t b q h r = let k = r.stack in variable_below s x b h (omega (arith, k))
    place_below Index t b q h r = omega (arith, fewer)
    place_below (Local x) t b q h r = omega (arith, h, fewer)
    place_below (Read a f) t b q h r = let k = r.reads in omega (arith, k)
    place_below (Before o f) t b q h r = let k = r.stack in omega (arith, k)
    place_below (Between o f g) t b q h r = let k = r.stack in omega (arith, k)
    place_below (Pair f g) t b q h r =
        let i = r.reads in let k = r.stack in let m = r.positions in
        place_below f t b q h.0 (record { reads = omega (arith, i); stack = omega (arith, k); positions = omega (arith, m) })

    region_small : (f : Formula) (t b q : ℕ) → HasNames uniforms locals f → HasRoom most f t b q → AreSmall most (region s f t b q)
    region_small Zero t b q h r = tt
    region_small (Number n) t b q h r = let k = r.stack in (set_small most s b n (omega (arith, k)) h, tt)
    region_small (Variable x) t b q h r = let k = r.stack in variable_small s x b h (omega (arith, k))
    region_small Index t b q h r = tt
    region_small (Local x) t b q h r = tt
    region_small (Read a f) t b q h r = tt
    region_small (Before o f) t b q h r =
        let i = r.reads in let k = r.stack in let m = r.positions in
        let room : HasRoom most f t b q = record { reads = i; stack = omega (arith, k); positions = omega (arith, m) } in
        small_join most (region s f t b q) (before_code s o b (place s f t b) (q + positions f + 1)) (region_small f t b q h room)
        (before_small most s o b (place s f t b) (q + positions f + 1) (omega (arith, k)) (place_below f t b q h room) (omega (arith, m)))
    region_small (Between o f g) t b q h r =
        let i = r.reads in let k = r.stack in let m = r.positions in
        let one : HasRoom most f t b q = record { reads = omega (arith, i); stack = omega (arith, k); positions = omega (arith, m) } in
        let two : HasRoom most g (t + reads f) (b + 1) (q + positions f) =
        record { reads = omega (arith, i); stack = omega (arith, k); positions = omega (arith, m) } in
        let second = region s g (t + reads f) (b + 1) (q + positions f) in
        let x = place s f t b in
        let y = place s g (t + reads f) (b + 1) in
        let last = between_code s o b x y (q + positions f + positions g + 1) in
        small_join most (region s f t b q) (second ++ last) (region_small f t b q h.0 one)
        (small_join most second last (region_small g (t + reads f) (b + 1) (q + positions f) h.1 two)
        (between_small most s o b x y (q + positions f + positions g + 1) (omega (arith, k)) (place_below f t b q h.0 one)
        (place_below g (t + reads f) (b + 1) (q + positions f) h.1 two) (omega (arith, m))))
    region_small (Pair f g) t b q h r =
        let i = r.reads in let k = r.stack in let m = r.positions in
        small_join most (region s f t b q) (region s g (t + reads f) (b + 1) (q + positions f))
        (region_small f t b q h.0 (record { reads = omega (arith, i); stack = omega (arith, k); positions = omega (arith, m) }))
        (region_small g (t + reads f) (b + 1) (q + positions f) h.1
        (record { reads = omega (arith, i); stack = omega (arith, k); positions = omega (arith, m) }))

    read_small : (here : Bool) (a : ℕ) (f : Formula) (t b q : ℕ) → HasNames uniforms locals f → HasRoom most (Read a f) t b q →
        AreSmall most (only here (region s f t b q ++ Ask s (t + reads f) a (place s f t b) (q + positions f + 1) ∷ []))
    read_small true a f t b q h r =
        let i = r.reads in let k = r.stack in let m = r.positions in
        let room : HasRoom most f t b q = record { reads = omega (arith, i); stack = k; positions = omega (arith, m) } in
        small_join most (region s f t b q) (Ask s (t + reads f) a (place s f t b) (q + positions f + 1) ∷ [])
        (region_small f t b q h room) (
          ask_small most s (t + reads f) a (place s f t b) (q + positions f + 1) (omega (arith, i)) (place_below f t b q h room)
              (omega (arith, m)),
          tt,
        )
    read_small false a f t b q h r = tt

    asks_small : (l : ℕ) (f : Formula) (t b q : ℕ) → HasNames uniforms locals f → HasRoom most f t b q → AreSmall most (asks s l f t b q)
    asks_small l Zero t b q h r = tt
    asks_small l (Number n) t b q h r = tt
    asks_small l (Variable x) t b q h r = tt
    asks_small l Index t b q h r = tt
    asks_small l (Local x) t b q h r = tt
    asks_small l (Read a f) t b q h r =
        let i = r.reads in let k = r.stack in let m = r.positions in
        small_join most (asks s l f t b q)
        (only (nat_eq (nesting f) l) (region s f t b q ++ Ask s (t + reads f) a (place s f t b) (q + positions f + 1) ∷ []))
        (asks_small l f t b q h (record { reads = omega (arith, i); stack = k; positions = omega (arith, m) }))
        (read_small (nat_eq (nesting f) l) a f t b q h r)
    asks_small l (Before o f) t b q h r =
        let i = r.reads in let k = r.stack in let m = r.positions in
        asks_small l f t b q h (record { reads = i; stack = omega (arith, k); positions = omega (arith, m) })
    asks_small l (Between o f g) t b q h r =
        let i = r.reads in let k = r.stack in let m = r.positions in
        small_join most (asks s l f t b q) (asks s l g (t + reads f) b (q + positions f))
        (asks_small l f t b q h.0 (record { reads = omega (arith, i); stack = omega (arith, k); positions = omega (arith, m) }))
        (asks_small l g (t + reads f) b (q + positions f) h.1
        (record { reads = omega (arith, i); stack = omega (arith, k); positions = omega (arith, m) }))
    asks_small l (Pair f g) t b q h r =
        let i = r.reads in let k = r.stack in let m = r.positions in
        small_join most (asks s l f t b q) (asks s l g (t + reads f) b (q + positions f))
        (asks_small l f t b q h.0 (record { reads = omega (arith, i); stack = omega (arith, k); positions = omega (arith, m) }))
        (asks_small l g (t + reads f) b (q + positions f) h.1
        (record { reads = omega (arith, i); stack = omega (arith, k); positions = omega (arith, m) }))

    groups_small : (n l : ℕ) (f : Formula) (t b : ℕ) → HasNames uniforms locals f → HasRoom most f t b 0 →
        AreSmall most (groups s n l f t b)
    groups_small zero l f t b h r = tt
    groups_small (suc n) l f t b h r =
        small_join most (asks s l f t b 0 ++ Send ∷ Reply ∷ []) (groups s n (l + 1) f t b)
        (small_join most (asks s l f t b 0) (Send ∷ Reply ∷ []) (asks_small l f t b 0 h r) (
          record { uniform = omega arith; private = omega arith; numbers = tt },
          (record { uniform = omega arith; private = omega arith; numbers = tt }, tt),
        ))
        (groups_small n (l + 1) f t b h r)

    -- the code of a formula whose registers begin at `base`
    pub evaluated_small : (base : ℕ) (f : Formula) → HasNames uniforms locals f → HasRoom most f base (stack base f) 0 →
        AreSmall most (evaluated s base f)
    evaluated_small base f h r =
        small_join most (groups s (nesting f) 0 f base (stack base f)) (region s f base (stack base f) 0)
        (groups_small (nesting f) 0 f base (stack base f) h r) (region_small f base (stack base f) 0 h r)
