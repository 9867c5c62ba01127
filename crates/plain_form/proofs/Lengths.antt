-- How long the code of a formula is.
use Rattle.std.proofs.Common.{◌≡◌, ℕ, zero, suc, ◌+◌, ◌*◌, ◌<◌, ◌≤◌, Bool, true, false, nat_eq, [], ◌∷◌, ◌++◌, length, refl, ap, ◌∙◌}
use Rattle.std.proofs.Common.{arith, length-append}
use Rattle.std.proofs.lemmas.Bool.Decides.{nat_tests}
use Rattle.superstep_instructions.specs.declared.instr.Side.{Side}
use Rattle.superstep_instructions.specs.declared.instr.Side.TheVariants as side
use Rattle.superstep_instructions.specs.declared.instr.Instr.TheVariants.{Ask, Send, Reply}
use Rattle.pram_tokens.specs.declared.token.Binary.{Binary}
use Rattle.pram_tokens.specs.declared.token.Binary.TheVariants as binary
use Rattle.pram_trees.specs.declared.tree.Prefix.{Prefix}
use Rattle.pram_trees.specs.declared.tree.Prefix.TheVariants as prefix
use Rattle.pram_names.specs.declared.body.Expression as body
use Rattle.pram_names.specs.declared.body.Expression.{Expression, Element', Prefix', Chain', Row_of-Link, end_of-Link, more_of-Link}
use Rattle.pram_check.specs.Bounded.{nodes, link_nodes}
use Rattle.plain_form.specs.Formulas.{Formula, Zero, Number, Variable, Index, Local, Read, Before, Between, Pair, formula_of, chained}
use Rattle.plain_form.specs.Formulas.{reads, positions, nesting}
use Rattle.plain_form.specs.Regions.{variable_code, place, before_code, between_code, region}
use Rattle.plain_form.specs.Groups.{only, asks, groups, stack, evaluated}

-- the nodes of a formula
abbrev pub width : Formula → ℕ
width Zero = 0
width (Number n) = 1
width (Variable x) = 1
width Index = 1
width (Local x) = 1
width (Read a f) = 1 + width f
width (Before o f) = 1 + width f
width (Between o f g) = width f + 1 + width g
width (Pair f g) = width f + width g

mutual
  pub width_of : (e : Expression) → width (formula_of e) ≡ nodes e
  width_of (body.Number n) = refl
  width_of (body.Uniform x) = refl
  width_of body.Index = refl
  width_of (body.Local x) = refl
  width_of (body.Cell a) = refl
  width_of (Element' a b e) = ap (λ n. 1 + n) (width_of e)
  width_of (Prefix' o b e) = ap (λ n. 1 + n) (width_of e)
  width_of (Chain' b e q links) =
      let h : width (formula_of e) ≡ nodes e = width_of e in
      let k : width (chained (formula_of e) links) ≡ width (formula_of e) + link_nodes links = width_of_chain (formula_of e) links in
      omega (arith, h, k)

  width_of_chain : (f : Formula) {n : _} (links : Row_of-Link n) → width (chained f links) ≡ width f + link_nodes links
  width_of_chain f end_of-Link = omega arith
  width_of_chain f (more_of-Link o e links) =
      let h : width (formula_of e) ≡ nodes e = width_of e in
      let k : width (chained (Between o f (formula_of e)) links) ≡ width f + 1 + width (formula_of e) + link_nodes links =
      width_of_chain (Between o f (formula_of e)) links in
      omega (arith, h, k)

-- at most so many instructions stand around the reads
abbrev around : Formula → ℕ
around Zero = 0
around (Number n) = 1
around (Variable x) = 1
around Index = 1
around (Local x) = 1
around (Read a f) = 0
around (Before o f) = around f + 1
around (Between o f g) = around f + around g + 2
around (Pair f g) = around f + around g

short_before : (s : Side) (o : Prefix) (b x q : ℕ) → length (before_code s o b x q) ≤ 1
short_before s prefix.Negate b x q = omega arith
short_before s prefix.Not b x q = omega arith

short_between : (s : Side) (o : Binary) (b x y q : ℕ) → length (between_code s o b x y q) ≤ 2
short_between s binary.Or b x y q = omega arith
short_between s binary.And b x y q = omega arith
short_between s binary.Equal b x y q = omega arith
short_between s binary.Unequal b x y q = omega arith
short_between s binary.Less b x y q = omega arith
short_between s binary.AtMost b x y q = omega arith
short_between s binary.Greater b x y q = omega arith
short_between s binary.AtLeast b x y q = omega arith
short_between s binary.Add b x y q = omega arith
short_between s binary.Subtract b x y q = omega arith
short_between s binary.Multiply b x y q = omega arith
short_between s binary.Divide b x y q = omega arith
short_between s binary.Remainder b x y q = omega arith

short_variable : (s : Side) (x b : ℕ) → length (variable_code s x b) ≤ 1
short_variable side.Uniform x b = omega arith
short_variable side.Private x b = omega arith

pub short_region : (s : Side) (f : Formula) (t b q : ℕ) → length (region s f t b q) ≤ around f
short_region s Zero t b q = omega arith
short_region s (Number n) t b q = omega arith
short_region s (Variable x) t b q = short_variable s x b
short_region s Index t b q = omega arith
short_region s (Local x) t b q = omega arith
short_region s (Read a f) t b q = omega arith
short_region s (Before o f) t b q =
    let h : length (region s f t b q) ≤ around f = short_region s f t b q in
    let k = short_before s o b (place s f t b) (q + positions f + 1) in
    let l = length-append (region s f t b q) (before_code s o b (place s f t b) (q + positions f + 1)) in
    omega (arith, h, k, l)
short_region s (Between o f g) t b q =
    let first = region s f t b q in
    let second = region s g (t + reads f) (b + 1) (q + positions f) in
    let last = between_code s o b (place s f t b) (place s g (t + reads f) (b + 1)) (q + positions f + positions g + 1) in
    let h : length first ≤ around f = short_region s f t b q in
    let k : length second ≤ around g = short_region s g (t + reads f) (b + 1) (q + positions f) in
    let m : length last ≤ 2 = short_between s o b (place s f t b) (place s g (t + reads f) (b + 1)) (q + positions f + positions g + 1) in
    let l = length-append first (second ++ last) in
    let n = length-append second last in
    omega (arith, h, k, m, l, n)
short_region s (Pair f g) t b q =
    let first = region s f t b q in
    let second = region s g (t + reads f) (b + 1) (q + positions f) in
    let h : length first ≤ around f = short_region s f t b q in
    let k : length second ≤ around g = short_region s g (t + reads f) (b + 1) (q + positions f) in
    let l = length-append first second in
    omega (arith, h, k, l)

-- the asks of n levels from l on, together
abbrev all_asks : Side → (n l : ℕ) → Formula → (t b q : ℕ) → ℕ
all_asks s zero l f t b q = 0
all_asks s (suc n) l f t b q = length (asks s l f t b q) + all_asks s n (l + 1) f t b q

no_asks : (s : Side) (n l : ℕ) (f : Formula) (t b q : ℕ) → ((l : ℕ) → asks s l f t b q ≡ []) → all_asks s n l f t b q ≡ 0
no_asks s zero l f t b q none = refl
no_asks s (suc n) l f t b q none =
    let h : length (asks s l f t b q) ≡ 0 = ap length (none l) in
    let k : all_asks s n (l + 1) f t b q ≡ 0 = no_asks s n (l + 1) f t b q none in
    omega (arith, h, k)

asks_of_two : (s : Side) (n l : ℕ) (f g h : Formula) (t b q : ℕ) →
    ((l : ℕ) → asks s l h t b q ≡ asks s l f t b q ++ asks s l g (t + reads f) b (q + positions f)) →
    all_asks s n l h t b q ≡ all_asks s n l f t b q + all_asks s n l g (t + reads f) b (q + positions f)
asks_of_two s zero l f g h t b q both = refl
asks_of_two s (suc n) l f g h t b q both =
    let a = asks s l f t b q in
    let c = asks s l g (t + reads f) b (q + positions f) in
    let d : length (asks s l h t b q) ≡ length a + length c = ap length (both l) ∙ length-append a c in
    let e = asks_of_two s n (l + 1) f g h t b q both in
    omega (arith, d, e)

-- the ask of a read is one of them
asks_behind : (s : Side) (n l : ℕ) (a : ℕ) (f : Formula) (t b q : ℕ) → nesting f < l →
    all_asks s n l (Read a f) t b q ≤ all_asks s n l f t b q
asks_behind s zero l a f t b q h = omega arith
asks_behind s (suc n) l a f t b q h =
    let ask = region s f t b q ++ Ask s (t + reads f) a (place s f t b) (q + positions f + 1) ∷ [] in
    let no : nat_eq (nesting f) l ≡ false = grind (arith, nat_tests) in
    let none : length (only (nat_eq (nesting f) l) ask) ≡ 0 = ap (λ k. length (only k ask)) no in
    let l1 = length-append (asks s l f t b q) (only (nat_eq (nesting f) l) ask) in
    let rest : all_asks s n (l + 1) (Read a f) t b q ≤ all_asks s n (l + 1) f t b q = asks_behind s n (l + 1) a f t b q (omega arith) in
    omega (arith, none, l1, rest)

asked : (s : Side) (n l : ℕ) (a : ℕ) (f : Formula) (t b q : ℕ) (k : Bool) → nat_eq (nesting f) l ≡ k →
    all_asks s n (l + 1) (Read a f) t b q ≤ all_asks s n (l + 1) f t b q + around f + 1 →
    all_asks s (suc n) l (Read a f) t b q ≤ all_asks s (suc n) l f t b q + around f + 1
asked s n l a f t b q true is rest =
    let front = region s f t b q in
    let ask = Ask s (t + reads f) a (place s f t b) (q + positions f + 1) ∷ [] in
    let here : length (only (nat_eq (nesting f) l) (front ++ ask)) ≡ length (front ++ ask) = ap (λ k. length (only k (front ++ ask))) is in
    let l1 = length-append (asks s l f t b q) (only (nat_eq (nesting f) l) (front ++ ask)) in
    let l2 = length-append front ask in
    let few : length front ≤ around f = short_region s f t b q in
    let before : nesting f < l + 1 = grind (arith, nat_tests) in
    let none : all_asks s n (l + 1) (Read a f) t b q ≤ all_asks s n (l + 1) f t b q = asks_behind s n (l + 1) a f t b q before in
    omega (arith, here, l1, l2, few, none)
asked s n l a f t b q false is rest =
    let ask = region s f t b q ++ Ask s (t + reads f) a (place s f t b) (q + positions f + 1) ∷ [] in
    let none : length (only (nat_eq (nesting f) l) ask) ≡ 0 = ap (λ k. length (only k ask)) is in
    let l1 = length-append (asks s l f t b q) (only (nat_eq (nesting f) l) ask) in
    omega (arith, none, l1, rest)

asks_once : (s : Side) (n l : ℕ) (a : ℕ) (f : Formula) (t b q : ℕ) →
    all_asks s n l (Read a f) t b q ≤ all_asks s n l f t b q + around f + 1
asks_once s zero l a f t b q = omega arith
asks_once s (suc n) l a f t b q =
    asked s n l a f t b q (nat_eq (nesting f) l) refl (asks_once s n (l + 1) a f t b q)

same_asks : (s : Side) (n l : ℕ) (f h : Formula) (t b q : ℕ) → ((l : ℕ) → asks s l h t b q ≡ asks s l f t b q) →
    all_asks s n l h t b q ≡ all_asks s n l f t b q
same_asks s zero l f h t b q same = refl
same_asks s (suc n) l f h t b q same =
    let e : length (asks s l h t b q) ≡ length (asks s l f t b q) = ap length (same l) in
    let k = same_asks s n (l + 1) f h t b q same in
    omega (arith, e, k)

-- with what stands around the reads, and two instructions for each level
few_in_all : (s : Side) (n l : ℕ) (f : Formula) (t b q : ℕ) → all_asks s n l f t b q + around f + 2 * nesting f ≤ 3 * width f
few_in_all s n l Zero t b q = let h = no_asks s n l Zero t b q (λ l. refl) in omega (arith, h)
few_in_all s n l (Number k) t b q = let h = no_asks s n l (Number k) t b q (λ l. refl) in omega (arith, h)
few_in_all s n l (Variable x) t b q = let h = no_asks s n l (Variable x) t b q (λ l. refl) in omega (arith, h)
few_in_all s n l Index t b q = let h = no_asks s n l Index t b q (λ l. refl) in omega (arith, h)
few_in_all s n l (Local x) t b q = let h = no_asks s n l (Local x) t b q (λ l. refl) in omega (arith, h)
few_in_all s n l (Read a f) t b q =
    let h : all_asks s n l f t b q + around f + 2 * nesting f ≤ 3 * width f = few_in_all s n l f t b q in
    let k = asks_once s n l a f t b q in
    omega (arith, h, k)
few_in_all s n l (Before o f) t b q =
    let h : all_asks s n l f t b q + around f + 2 * nesting f ≤ 3 * width f = few_in_all s n l f t b q in
    let k : all_asks s n l (Before o f) t b q ≡ all_asks s n l f t b q = same_asks s n l f (Before o f) t b q (λ l. refl) in
    omega (arith, h, k)
few_in_all s n l (Between o f g) t b q =
    let h : all_asks s n l f t b q + around f + 2 * nesting f ≤ 3 * width f = few_in_all s n l f t b q in
    let k : all_asks s n l g (t + reads f) b (q + positions f) + around g + 2 * nesting g ≤ 3 * width g =
    few_in_all s n l g (t + reads f) b (q + positions f) in
    let m = asks_of_two s n l f g (Between o f g) t b q (λ l. refl) in
    omega (arith, h, k, m)
few_in_all s n l (Pair f g) t b q =
    let h : all_asks s n l f t b q + around f + 2 * nesting f ≤ 3 * width f = few_in_all s n l f t b q in
    let k : all_asks s n l g (t + reads f) b (q + positions f) + around g + 2 * nesting g ≤ 3 * width g =
    few_in_all s n l g (t + reads f) b (q + positions f) in
    let m = asks_of_two s n l f g (Pair f g) t b q (λ l. refl) in
    omega (arith, h, k, m)

length_of_groups : (s : Side) (n l : ℕ) (f : Formula) (t b : ℕ) → length (groups s n l f t b) ≡ all_asks s n l f t b 0 + 2 * n
length_of_groups s zero l f t b = refl
length_of_groups s (suc n) l f t b =
    let first = asks s l f t b 0 in
    let h = length_of_groups s n (l + 1) f t b in
    let l1 = length-append (first ++ Send ∷ Reply ∷ []) (groups s n (l + 1) f t b) in
    let l2 = length-append first (Send ∷ Reply ∷ []) in
    omega (arith, h, l1, l2)

-- the code of a formula has at most three instructions a node
pub short_evaluated : (s : Side) (base : ℕ) (f : Formula) → length (evaluated s base f) ≤ 3 * width f
short_evaluated s base f =
    let g = length_of_groups s (nesting f) 0 f base (stack base f) in
    let r : length (region s f base (stack base f) 0) ≤ around f = short_region s f base (stack base f) 0 in
    let a = few_in_all s (nesting f) 0 f base (stack base f) 0 in
    let l = length-append (groups s (nesting f) 0 f base (stack base f)) (region s f base (stack base f) 0) in
    omega (arith, g, r, a, l)
