-- The words of the reads in the code of a formula.
use Rattle.std.proofs.Common.{◌≡◌, ℕ, zero, suc, ◌+◌, ◌*◌, ◌≤◌, List, [], ◌∷◌, ◌++◌, Bool, true, false, refl}
use Rattle.std.proofs.Common.{arith}
use Rattle.std.proofs.Common.{eqb}
use Rattle.std.specs.Prelude.{nat_eq}
use Rattle.std.specs.List.{AllByRecursion, range_with_len}
use Rattle.superstep_instructions.specs.declared.instr.Side.{Side}
use Rattle.superstep_instructions.specs.declared.instr.Side.TheVariants.{Uniform, Private}
use Rattle.superstep_instructions.specs.declared.instr.Instr.{Instr}
use Rattle.superstep_instructions.specs.declared.instr.Instr.TheVariants.{Ask, Put, Send, Reply}
use Rattle.superstep_machine.specs.Words.{bit}
use Rattle.exchange_words.proofs.Sums.{added, added_both, added_nothing, once}
use Rattle.flat_stretches.specs.Along.{Run}
use Rattle.flat_stretches.specs.Folds.{word_count, accesses}
use Rattle.flat_stretches.proofs.Joins.{words_join}
use Rattle.pram_tokens.specs.declared.token.Binary.{Binary}
use Rattle.pram_tokens.specs.declared.token.Binary.TheVariants as binary
use Rattle.pram_trees.specs.declared.tree.Prefix.{Prefix}
use Rattle.pram_trees.specs.declared.tree.Prefix.TheVariants as prefix
use Rattle.std.proofs.Math.Nat.{mul-le-mul_left}
use Rattle.plain_form.specs.Formulas.{Formula, Zero, Number, Variable, Local, Read, Before, Between, Pair, positions, nesting, reads}
use Rattle.plain_form.specs.Formulas as formulas
use Rattle.plain_form.specs.Regions.{region, place, variable_code, before_code, between_code}
use Rattle.plain_form.specs.Groups.{only, asks, groups, stack, evaluated}
use Rattle.verified_form.proofs.Straight.{all_join}

-- a read of that side, where k processors are active
abbrev pub of_read : Run → ℕ → Side → ℕ
of_read t k Uniform = 2 * t.workers
of_read t k Private = 2 * k

-- what stands around the reads has none
no_words : (t : Run) (k : ℕ) (is : List Instr) → AllByRecursion (λ (i : Instr). accesses i ≡ false) is → word_count t k is ≡ 0
no_words t k [] h = refl
no_words t k (Ask s d a x q ∷ is) h = let e = h.0 in cc
no_words t k (Put s a x y q ∷ is) h = let e = h.0 in cc
no_words t k (i ∷ is) h = no_words t k is h.1

-- the code of operators accesses nothing
module _ (s : Side) where
  abbrev Alone : List Instr → Type 0
  Alone = AllByRecursion (λ (i : Instr). accesses i ≡ false)

  alone_join : (xs ys : List Instr) → Alone xs → Alone ys → Alone (xs ++ ys)
  alone_join xs ys a b = all_join (λ (i : Instr). accesses i ≡ false) xs ys a b

  before_alone : (o : Prefix) (b x q : ℕ) → Alone (before_code s o b x q)
  before_alone prefix.Negate b x q = (refl, tt)
  before_alone prefix.Not b x q = (refl, tt)

  between_alone : (o : Binary) (b x y q : ℕ) → Alone (between_code s o b x y q)
  between_alone binary.Unequal b x y q = (refl, (refl, tt))
  between_alone o b x y q = (refl, tt)

variable_alone : (s : Side) (x b : ℕ) → AllByRecursion (λ (i : Instr). accesses i ≡ false) (variable_code s x b)
variable_alone Uniform x b = tt
variable_alone Private x b = (refl, tt)

region_alone : (s : Side) (f : Formula) (t b q : ℕ) → AllByRecursion (λ (i : Instr). accesses i ≡ false) (region s f t b q)
region_alone s Zero t b q = tt
region_alone s (Number n) t b q = (refl, tt)
region_alone s (Variable x) t b q = variable_alone s x b
region_alone s formulas.Index t b q = tt
region_alone s (Local x) t b q = tt
region_alone s (Read a f) t b q = tt
region_alone s (Before o f) t b q =
    alone_join s (region s f t b q) (before_code s o b (place s f t b) (q + positions f + 1)) (region_alone s f t b q)
    (before_alone s o b (place s f t b) (q + positions f + 1))
region_alone s (Between o f g) t b q =
    let first = place s f t b in
    let second = place s g (t + reads f) (b + 1) in
    alone_join s (region s f t b q)
    (region s g (t + reads f) (b + 1) (q + positions f) ++ between_code s o b first second (q + positions f + positions g + 1))
    (region_alone s f t b q)
    (alone_join s (region s g (t + reads f) (b + 1) (q + positions f))
    (between_code s o b first second (q + positions f + positions g + 1)) (region_alone s g (t + reads f) (b + 1) (q + positions f))
    (between_alone s o b first second (q + positions f + positions g + 1)))
region_alone s (Pair f g) t b q =
    alone_join s (region s f t b q) (region s g (t + reads f) (b + 1) (q + positions f)) (region_alone s f t b q)
    (region_alone s g (t + reads f) (b + 1) (q + positions f))

-- how many reads are at a level
abbrev at_level : ℕ → Formula → ℕ
at_level l Zero = 0
at_level l (Number n) = 0
at_level l (Variable x) = 0
at_level l formulas.Index = 0
at_level l (Local x) = 0
at_level l (Read a f) = at_level l f + bit (eqb (nesting f) l)
at_level l (Before o f) = at_level l f
at_level l (Between o f g) = at_level l f + at_level l g
at_level l (Pair f g) = at_level l f + at_level l g

one_ask : (t : Run) (k : ℕ) (s : Side) (d a x q : ℕ) → word_count t k (Ask s d a x q ∷ []) ≡ of_read t k s
one_ask t k Uniform d a x q = omega arith
one_ask t k Private d a x q = omega arith

asks_words : (u : Run) (k : ℕ) (s : Side) (l : ℕ) (f : Formula) (t b q : ℕ) →
    word_count u k (asks s l f t b q) ≡ of_read u k s * at_level l f
asks_words u k s l Zero t b q = omega arith
asks_words u k s l (Number n) t b q = omega arith
asks_words u k s l (Variable x) t b q = omega arith
asks_words u k s l formulas.Index t b q = omega arith
asks_words u k s l (Local x) t b q = omega arith
asks_words u k s l (Read a f) t b q =
    let first = asks s l f t b q in
    let ask = Ask s (t + reads f) a (place s f t b) (q + positions f + 1) ∷ [] in
    let here = region s f t b q ++ ask in
    let both = words_join u k first (only (nat_eq (nesting f) l) here) in
    let rest = asks_words u k s l f t b q in
    let one : word_count u k here ≡ of_read u k s =
    (let e = words_join u k (region s f t b q) ask in
    let z = no_words u k (region s f t b q) (region_alone s f t b q) in
    let o = one_ask u k s (t + reads f) a (place s f t b) (q + positions f + 1) in
    omega (arith, e, z, o)) in
    let last : word_count u k (only (nat_eq (nesting f) l) here) ≡ of_read u k s * bit (eqb (nesting f) l) =
    go here one (eqb (nesting f) l) in
    omega (arith, both, rest, last)
  where
    go : (here : List Instr) → word_count u k here ≡ of_read u k s → (b : Bool) →
        word_count u k (only b here) ≡ of_read u k s * bit b
    go here one true = omega (arith, one)
    go here one false = omega arith
asks_words u k s l (Before o f) t b q = asks_words u k s l f t b q
asks_words u k s l (Between o f g) t b q =
    let both = words_join u k (asks s l f t b q) (asks s l g (t + reads f) b (q + positions f)) in
    let first = asks_words u k s l f t b q in
    let second = asks_words u k s l g (t + reads f) b (q + positions f) in
    omega (arith, both, first, second)
asks_words u k s l (Pair f g) t b q =
    let both = words_join u k (asks s l f t b q) (asks s l g (t + reads f) b (q + positions f)) in
    let first = asks_words u k s l f t b q in
    let second = asks_words u k s l g (t + reads f) b (q + positions f) in
    omega (arith, both, first, second)

-- each read is at one level at most
levels_few : (f : Formula) (n l : ℕ) → added (λ i. at_level i f) (range_with_len l n) ≤ reads f
levels_few Zero n l = let e = added_nothing n l in omega (arith, e)
levels_few (Number x) n l = let e = added_nothing n l in omega (arith, e)
levels_few (Variable x) n l = let e = added_nothing n l in omega (arith, e)
levels_few formulas.Index n l = let e = added_nothing n l in omega (arith, e)
levels_few (Local x) n l = let e = added_nothing n l in omega (arith, e)
levels_few (Read a f) n l =
    let both = added_both (λ i. at_level i f) (λ i. bit (eqb (nesting f) i)) (range_with_len l n) in
    let first = levels_few f n l in
    let second = once (nesting f) n l in
    omega (arith, both, first, second)
levels_few (Before o f) n l = levels_few f n l
levels_few (Between o f g) n l =
    let both = added_both (λ i. at_level i f) (λ i. at_level i g) (range_with_len l n) in
    let first = levels_few f n l in
    let second = levels_few g n l in
    omega (arith, both, first, second)
levels_few (Pair f g) n l =
    let both = added_both (λ i. at_level i f) (λ i. at_level i g) (range_with_len l n) in
    let first = levels_few f n l in
    let second = levels_few g n l in
    omega (arith, both, first, second)

groups_words : (u : Run) (k : ℕ) (s : Side) (n l : ℕ) (f : Formula) (t b : ℕ) →
    word_count u k (groups s n l f t b) ≡ of_read u k s * added (λ i. at_level i f) (range_with_len l n)
groups_words u k s zero l f t b = omega arith
groups_words u k s (suc n) l f t b =
    let level = asks s l f t b 0 in
    let one = words_join u k level (Send ∷ Reply ∷ []) in
    let both = words_join u k (level ++ Send ∷ Reply ∷ []) (groups s n (l + 1) f t b) in
    let first = asks_words u k s l f t b 0 in
    let rest = groups_words u k s n (l + 1) f t b in
    let split : of_read u k s * (at_level l f + added (λ i. at_level i f) (range_with_len (l + 1) n))
    ≡ of_read u k s * at_level l f + of_read u k s * added (λ i. at_level i f) (range_with_len (l + 1) n) = omega arith in
    omega (arith, one, both, first, rest, split)

pub evaluated_words : (u : Run) (k : ℕ) (s : Side) (base : ℕ) (f : Formula) → word_count u k (evaluated s base f) ≤ of_read u k s * reads f
evaluated_words u k s base f =
    let first = groups s (nesting f) 0 f base (stack base f) in
    let rest = region s f base (stack base f) 0 in
    let both = words_join u k first rest in
    let levels = groups_words u k s (nesting f) 0 f base (stack base f) in
    let few = mul-le-mul_left (of_read u k s) (levels_few f (nesting f) 0) in
    let none = no_words u k rest (region_alone s f base (stack base f) 0) in
    omega (arith, both, levels, few, none)
