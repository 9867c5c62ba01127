-- Which instructions the code of a formula has: on registers of one side from `base` on, asks for these, sends and replies.
use Rattle.std.proofs.Common.{ℕ, zero, suc, ◌+◌, ◌≤◌, List, [], ◌∷◌, ◌++◌, Bool, true, false, arith}
use Rattle.std.specs.Prelude.{nat_eq}
use Rattle.std.specs.List.{AllByRecursion}
use Rattle.pram_tokens.specs.declared.token.Binary.{Binary}
use Rattle.pram_tokens.specs.declared.token.Binary.TheVariants.{Or, And, Equal, Unequal, Less, AtMost, Greater, AtLeast, Add, Subtract}
use Rattle.pram_tokens.specs.declared.token.Binary.TheVariants.{Multiply, Divide, Remainder}
use Rattle.pram_trees.specs.declared.tree.Prefix.{Prefix}
use Rattle.pram_trees.specs.declared.tree.Prefix.TheVariants as before
use Rattle.superstep_instructions.specs.declared.instr.Side.{Side}
use Rattle.superstep_instructions.specs.declared.instr.Side.TheVariants.{Uniform, Private}
use Rattle.superstep_instructions.specs.declared.instr.Instr.{Instr}
use Rattle.superstep_instructions.specs.declared.instr.Instr.TheVariants.{Set, Negate, Calculate, Decide, Not, CopyUniform, Ask, Send}
use Rattle.superstep_instructions.specs.declared.instr.Instr.TheVariants.{Reply}
use Rattle.superstep_machine.proofs.MachineWords.{all_joined}
use Rattle.plain_form.specs.Formulas.{Formula, Zero, Number, Variable, Index, Local, Read, Before, Between, Pair, reads, positions, nesting}
use Rattle.plain_form.specs.Regions.{place, before_code, between_code, region}
use Rattle.plain_form.specs.Groups.{only, asks, groups, stack, evaluated}

-- an instruction of a region, or an ask
pub data IsPart (base : ℕ) : Side → Instr → Type 0 where
  sets : {side : Side} (d : ℕ) → {z : _} → base ≤ d → IsPart base side (Set side d z)
  negates : {side : Side} (d : ℕ) → {x q : ℕ} → base ≤ d → IsPart base side (Negate side d x q)
  calculates : {side : Side} (d : ℕ) → {o : _} → {x y q : ℕ} → base ≤ d → IsPart base side (Calculate side o d x y q)
  decides : {side : Side} (d : ℕ) → {o : _} → {x y : ℕ} → base ≤ d → IsPart base side (Decide side o d x y)
  inverts : {side : Side} (d : ℕ) → {x : ℕ} → base ≤ d → IsPart base side (Not side d x)
  copies : (d : ℕ) → {x : ℕ} → base ≤ d → IsPart base Private (CopyUniform d x)
  asks_for : {side : Side} (d : ℕ) → {a x q : ℕ} → base ≤ d → IsPart base side (Ask side d a x q)

module _ (base : ℕ) (side : Side) where
  abbrev pub AreParts : List Instr → Type 0
  AreParts = AllByRecursion (IsPart base side)

  joined : (xs ys : List Instr) → AreParts xs → AreParts ys → AreParts (xs ++ ys)
  joined xs ys = all_joined (IsPart base side) xs ys

  before_parts : (o : Prefix) (b x q : ℕ) → base ≤ b → AreParts (before_code side o b x q)
  before_parts before.Negate b x q h = (negates b h, tt)
  before_parts before.Not b x q h = (inverts b h, tt)

  between_parts : (o : Binary) (b x y q : ℕ) → base ≤ b → AreParts (between_code side o b x y q)
  between_parts Or b x y q h = (decides b h, tt)
  between_parts And b x y q h = (decides b h, tt)
  between_parts Equal b x y q h = (decides b h, tt)
  between_parts Unequal b x y q h = (decides b h, (inverts b h, tt))
  between_parts Less b x y q h = (decides b h, tt)
  between_parts AtMost b x y q h = (decides b h, tt)
  between_parts Greater b x y q h = (decides b h, tt)
  between_parts AtLeast b x y q h = (decides b h, tt)
  between_parts Add b x y q h = (calculates b h, tt)
  between_parts Subtract b x y q h = (calculates b h, tt)
  between_parts Multiply b x y q h = (calculates b h, tt)
  between_parts Divide b x y q h = (calculates b h, tt)
  between_parts Remainder b x y q h = (calculates b h, tt)

variable_parts : (base : ℕ) (side : Side) (x t b q : ℕ) → base ≤ b → AreParts base side (region side (Variable x) t b q)
variable_parts base Uniform x t b q h = tt
variable_parts base Private x t b q h = (copies b h, tt)

module _ (base : ℕ) (side : Side) where
  pub region_parts : (f : Formula) (t b q : ℕ) → base ≤ b → AreParts base side (region side f t b q)
  region_parts Zero t b q h = tt
  region_parts (Number z) t b q h = (sets b h, tt)
  region_parts (Variable x) t b q h = variable_parts base side x t b q h
  region_parts Index t b q h = tt
  region_parts (Local x) t b q h = tt
  region_parts (Read a f) t b q h = tt
  region_parts (Before o f) t b q h =
      joined base side (region side f t b q) (before_code side o b (place side f t b) (q + positions f + 1)) (region_parts f t b q h)
      (before_parts base side o b (place side f t b) (q + positions f + 1) h)
  region_parts (Between o f g) t b q h =
      let e = place side g (t + reads f) (b + 1) in
      let ys = region side g (t + reads f) (b + 1) (q + positions f) in
      let zs = between_code side o b (place side f t b) e (q + positions f + positions g + 1) in
      joined base side (region side f t b q) (ys ++ zs) (region_parts f t b q h)
      (joined base side ys zs (region_parts g (t + reads f) (b + 1) (q + positions f) (omega (arith, h)))
      (between_parts base side o b (place side f t b) e (q + positions f + positions g + 1) h))
  region_parts (Pair f g) t b q h =
      joined base side (region side f t b q) (region side g (t + reads f) (b + 1) (q + positions f)) (region_parts f t b q h)
      (region_parts g (t + reads f) (b + 1) (q + positions f) (omega (arith, h)))

  only_parts : (c : Bool) (is : List Instr) → AreParts base side is → AreParts base side (only c is)
  only_parts true is h = h
  only_parts false is h = tt

  pub asks_parts : (l : ℕ) (f : Formula) (t b q : ℕ) → base ≤ t → base ≤ b → AreParts base side (asks side l f t b q)
  asks_parts l Zero t b q h k = tt
  asks_parts l (Number z) t b q h k = tt
  asks_parts l (Variable x) t b q h k = tt
  asks_parts l Index t b q h k = tt
  asks_parts l (Local x) t b q h k = tt
  asks_parts l (Read a f) t b q h k =
      let ask = Ask side (t + reads f) a (place side f t b) (q + positions f + 1) in
      let code = region side f t b q ++ ask ∷ [] in
      joined base side (asks side l f t b q) (only (nat_eq (nesting f) l) code) (asks_parts l f t b q h k)
      (only_parts (nat_eq (nesting f) l) code
      (joined base side (region side f t b q) (ask ∷ []) (region_parts f t b q k) (asks_for (t + reads f) (omega (arith, h)), tt)))
  asks_parts l (Before o f) t b q h k = asks_parts l f t b q h k
  asks_parts l (Between o f g) t b q h k =
      joined base side (asks side l f t b q) (asks side l g (t + reads f) b (q + positions f)) (asks_parts l f t b q h k)
      (asks_parts l g (t + reads f) b (q + positions f) (omega (arith, h)) k)
  asks_parts l (Pair f g) t b q h k =
      joined base side (asks side l f t b q) (asks side l g (t + reads f) b (q + positions f)) (asks_parts l f t b q h k)
      (asks_parts l g (t + reads f) b (q + positions f) (omega (arith, h)) k)

  -- ---- what holds of these, of sends and of replies holds of all

  module _ (P : Instr → Type 0) (part : (i : Instr) → IsPart base side i → P i) (send : P Send) (reply : P Reply) where
    pub of_parts : (is : List Instr) → AreParts base side is → AllByRecursion P is
    of_parts [] h = tt
    of_parts (i ∷ is) h = (part i h.0, of_parts is h.1)

    pub of_group : (l : ℕ) (f : Formula) (t b : ℕ) → base ≤ t → base ≤ b →
        AllByRecursion P (asks side l f t b 0 ++ Send ∷ Reply ∷ [])
    of_group l f t b h k =
        all_joined P (asks side l f t b 0) (Send ∷ Reply ∷ []) (of_parts (asks side l f t b 0) (asks_parts l f t b 0 h k))
        (send, (reply, tt))

    pub of_groups : (n l : ℕ) (f : Formula) (t b : ℕ) → base ≤ t → base ≤ b → AllByRecursion P (groups side n l f t b)
    of_groups zero l f t b h k = tt
    of_groups (suc n) l f t b h k =
        all_joined P (asks side l f t b 0 ++ Send ∷ Reply ∷ []) (groups side n (l + 1) f t b) (of_group l f t b h k)
        (of_groups n (l + 1) f t b h k)

    pub of_all : (f : Formula) → AllByRecursion P (evaluated side base f)
    of_all f =
        all_joined P (groups side (nesting f) 0 f base (stack base f)) (region side f base (stack base f) 0)
        (of_groups (nesting f) 0 f base (stack base f) (omega arith) (omega arith))
        (of_parts (region side f base (stack base f) 0) (region_parts f base (stack base f) 0 (omega arith)))
