-- How much the straight parts of statements spend: two exchanges for each level of their reads, what is sent by itself, and the words of
-- their accesses.
use Rattle.std.proofs.Common.{◌≡◌, ℕ, zero, suc, ◌+◌, ◌*◌, ◌≤◌, List, [], ◌∷◌, ◌++◌, Bool, true, false, not, ◌&&◌, refl, ap}
use Rattle.std.proofs.Common.{arith, pos}
use Rattle.std.proofs.Common.{append_assoc, append-nil}
use Rattle.std.specs.List.{AllByRecursion}
use Rattle.superstep_instructions.specs.declared.instr.Side.{Side}
use Rattle.superstep_instructions.specs.declared.instr.Side.TheVariants.{Uniform, Private}
use Rattle.superstep_instructions.specs.declared.instr.Arithmetic.TheVariants as arithmetic
use Rattle.superstep_instructions.specs.declared.instr.Truth.TheVariants as truth
use Rattle.superstep_instructions.specs.declared.instr.Instr.{Instr}
use Rattle.superstep_instructions.specs.declared.instr.Instr.TheVariants.{Set, Copy, Negate, Calculate, Decide, Not, CopyUniform, Index}
use Rattle.superstep_instructions.specs.declared.instr.Instr.TheVariants.{Enter}
use Rattle.superstep_instructions.specs.declared.instr.Instr.TheVariants.{Mask, Unmask, Ask, Put, Send, Reply, Vote, Print}
use Rattle.flat_machine.specs.Flat.{Flat}
use Rattle.exchange_words.specs.Accesses.{of_write, active}
use Rattle.flat_stretches.specs.Along.{Run}
use Rattle.flat_stretches.specs.Folds.{acts, costs, exchange_count, word_count, is_steady, accesses}
use Rattle.flat_stretches.proofs.Folds.{costs_are_counted, accesses_alone, nothing_costs_nothing}
use Rattle.flat_stretches.proofs.Joins.{costs_join, counts_join, words_join}
use Rattle.std.proofs.Math.Nat.{mul-le-mul_left}
use Rattle.plain_form.specs.Registers.{variable, turn, high, more, behind_turns, index}
use Rattle.plain_form.specs.Formulas.{Formula, Pair, positions, nesting, reads}
use Rattle.plain_form.specs.Regions.{region}
use Rattle.plain_form.specs.Groups.{only, asks, groups, stack, evaluated, value_at, first_at, second_at}
use Rattle.plain_form.specs.Shapes.{flush, still}
use Rattle.verified_form.specs.Straight.{evaluation, getting, printing, bounding, stepping, entering}
use Rattle.verified_form.proofs.Straight.{Sets, region_sets, asks_set, all_join}
use Rattle.exchange_bound.specs.Bound.{one_if}
use Rattle.compiled_meaning.specs.Paid.{evaluating, evaluating_on, write_weighs, writes_weigh}
use Rattle.compiled_meaning.specs.Costs.{Costs, CostsOn, StraightPartsCost}
use Rattle.compiled_meaning.proofs.EachStatement.Words.{of_read, evaluated_words}

-- ---- the exchanges that stand in the code of a formula

-- instructions on registers, and asks, are none
sets_count : (s : Side) (base : ℕ) (is : List Instr) → AllByRecursion (Sets s base) is → exchange_count is ≡ 0
sets_count s base [] h = refl
sets_count s base (Set t d n ∷ is) h = sets_count s base is h.1
sets_count s base (Negate t d x q ∷ is) h = sets_count s base is h.1
sets_count s base (Calculate t o d x y q ∷ is) h = sets_count s base is h.1
sets_count s base (Decide t o d x y ∷ is) h = sets_count s base is h.1
sets_count s base (Not t d x ∷ is) h = sets_count s base is h.1
sets_count s base (CopyUniform d x ∷ is) h = sets_count s base is h.1
sets_count s base (Ask t d a x q ∷ is) h = sets_count s base is h.1
sets_count s base (i ∷ is) h = absurd h.0

-- a send and a reply for each level
groups_count : (s : Side) (n l : ℕ) (f : Formula) (t b : ℕ) → exchange_count (groups s n l f t b) ≡ 2 * n
groups_count s zero l f t b = refl
groups_count s (suc n) l f t b =
    let level = asks s l f t b 0 in
    let one = counts_join level (Send ∷ Reply ∷ []) in
    let both = counts_join (level ++ Send ∷ Reply ∷ []) (groups s n (l + 1) f t b) in
    let none = sets_count s 0 level (asks_set s 0 l f t b 0 (omega arith) (omega arith)) in
    let rest = groups_count s n (l + 1) f t b in
    omega (arith, one, both, none, rest)

evaluated_count : (s : Side) (base : ℕ) (f : Formula) → exchange_count (evaluated s base f) ≡ 2 * nesting f
evaluated_count s base f =
    let reads = groups s (nesting f) 0 f base (stack base f) in
    let rest = region s f base (stack base f) 0 in
    let both = counts_join reads rest in
    let levels = groups_count s (nesting f) 0 f base (stack base f) in
    let none = sets_count s 0 rest (region_sets s 0 f base (stack base f) 0 (omega arith)) in
    omega (arith, both, levels, none)

flush_count : (held : Bool) → exchange_count (flush held) ≡ one_if held
flush_count true = refl
flush_count false = refl

-- ---- which processors are active

sets_steady : (s : Side) (base : ℕ) (is : List Instr) → AllByRecursion (Sets s base) is →
    AllByRecursion (λ (i : Instr). is_steady i ≡ true) is
sets_steady s base [] h = tt
sets_steady s base (Set t d n ∷ is) h = (refl, sets_steady s base is h.1)
sets_steady s base (Negate t d x q ∷ is) h = (refl, sets_steady s base is h.1)
sets_steady s base (Calculate t o d x y q ∷ is) h = (refl, sets_steady s base is h.1)
sets_steady s base (Decide t o d x y ∷ is) h = (refl, sets_steady s base is h.1)
sets_steady s base (Not t d x ∷ is) h = (refl, sets_steady s base is h.1)
sets_steady s base (CopyUniform d x ∷ is) h = (refl, sets_steady s base is h.1)
sets_steady s base (Ask t d a x q ∷ is) h = (refl, sets_steady s base is h.1)
sets_steady s base (i ∷ is) h = absurd h.0

abbrev Steady : List Instr → Type 0
Steady = AllByRecursion (λ (i : Instr). is_steady i ≡ true)

steady_join : (xs ys : List Instr) → Steady xs → Steady ys → Steady (xs ++ ys)
steady_join xs ys a b = all_join (λ (i : Instr). is_steady i ≡ true) xs ys a b

groups_steady : (s : Side) (n l : ℕ) (f : Formula) (t b : ℕ) → Steady (groups s n l f t b)
groups_steady s zero l f t b = tt
groups_steady s (suc n) l f t b =
    steady_join (asks s l f t b 0 ++ Send ∷ Reply ∷ []) (groups s n (l + 1) f t b)
    (steady_join (asks s l f t b 0) (Send ∷ Reply ∷ [])
    (sets_steady s 0 (asks s l f t b 0) (asks_set s 0 l f t b 0 (omega arith) (omega arith))) (refl, (refl, tt)))
    (groups_steady s n (l + 1) f t b)

evaluated_steady : (s : Side) (base : ℕ) (f : Formula) → Steady (evaluated s base f)
evaluated_steady s base f =
    let rest = region s f base (stack base f) 0 in
    steady_join (groups s (nesting f) 0 f base (stack base f)) rest (groups_steady s (nesting f) 0 f base (stack base f))
    (sets_steady s 0 rest (region_sets s 0 f base (stack base f) 0 (omega arith)))

-- ---- stretches

-- what evaluates a formula, and a write, or nothing, behind it
abbrev of_reads : Run → ℕ → Side → Formula → ℕ
of_reads t k s f = 2 * nesting f + t.weight * (of_read t k s * reads f)

-- the send that sends nothing is for free
first_costs : (t : Run) (keep held : Bool) → Costs t held (only (keep && not held) (Send ∷ [])) 0
first_costs t true true f none b = omega arith
first_costs t true false f none b = let free = nothing_costs_nothing f (b refl) none in omega (arith, free)
first_costs t false held f none b = omega arith

first_steady : (t : Run) (k : ℕ) (b : Bool) (f : Flat) → active f ≤ k → active (acts t.code (only b (Send ∷ [])) f) ≤ k
first_steady t k true f l = l
first_steady t k false f l = l

-- and what accesses so many words behind it
with_words : (t : Run) (k : ℕ) (keep held : Bool) (s : Side) (base : ℕ) (g : Formula) (is : List Instr) → exchange_count is ≡ 0 →
    Steady is → (words : ℕ) → word_count t k is ≡ words →
    CostsOn t k held (evaluation keep held s base g ++ is) (of_reads t k s g + t.weight * words)
with_words t k keep held s base g is none steady words count f quiet b l =
    let first = only (keep && not held) (Send ∷ []) in
    let part = evaluated s base g in
    let outer = costs_join t (first ++ part) is f in
    let inner = costs_join t first part f in
    let behind = acts t.code first f in
    let a = first_costs t keep held f quiet b in
    let c = costs_are_counted t k part behind (evaluated_steady s base g) (first_steady t k (keep && not held) f l) in
    let joined = costs_join t part is behind in
    let same = costs_join t first (part ++ is) f in
    let d = costs_are_counted t k (part ++ is) behind (steady_join part is (evaluated_steady s base g) steady)
    (first_steady t k (keep && not held) f l) in
    let e = counts_join part is in
    let n = evaluated_count s base g in
    let w = words_join t k part is in
    let m = evaluated_words t k s base g in
    let x : word_count t k (part ++ is) ≤ of_read t k s * reads g + words = omega (arith, w, m, count) in
    let y = mul-le-mul_left t.weight x in
    let z : t.weight * (of_read t k s * reads g + words) ≡ t.weight * (of_read t k s * reads g) + t.weight * words = omega arith in
    let split : costs t ((first ++ part) ++ is) f ≡ costs t (first ++ (part ++ is)) f =
    ap (λ js. costs t js f) (append_assoc first part is) in
    omega (arith, a, d, e, n, none, y, z, split, same)

-- with more that has no exchange and no access
also_costs : (t : Run) (k : ℕ) (keep held : Bool) (s : Side) (base : ℕ) (g : Formula) (is : List Instr) → exchange_count is ≡ 0 →
    Steady is → word_count t k is ≡ 0 → CostsOn t k held (evaluation keep held s base g ++ is) (of_reads t k s g)
also_costs t k keep held s base g is none steady count f quiet b l =
    let h = with_words t k keep held s base g is none steady 0 count f quiet b l in
    let z : t.weight * 0 ≡ 0 = omega arith in
    omega (arith, h, z)

evaluation_costs : (t : Run) (k : ℕ) (keep held : Bool) (s : Side) (base : ℕ) (g : Formula) →
    CostsOn t k held (evaluation keep held s base g) (of_reads t k s g)
evaluation_costs t k keep held s base g f quiet b l =
    let h = also_costs t k keep held s base g [] refl tt refl f quiet b l in
    let e : costs t (evaluation keep held s base g ++ []) f ≡ costs t (evaluation keep held s base g) f =
    ap (λ js. costs t js f) (append-nil (evaluation keep held s base g)) in
    omega (arith, h, e)

-- with more that has no access
with_counted : (t : Run) (k : ℕ) (held : Bool) (xs ys : List Instr) (n m : ℕ) → CostsOn t k held xs n →
    AllByRecursion (λ (i : Instr). accesses i ≡ false) ys → n + exchange_count ys ≤ m → CostsOn t k held (xs ++ ys) m
with_counted t k held xs ys n m h alone l f quiet b few =
    let both = costs_join t xs ys f in
    let first = h f quiet b few in
    let second = accesses_alone t ys (acts t.code xs f) alone in
    omega (arith, both, first, second, l)

-- whoever is active
whoever : (t : Run) (held : Bool) (is : List Instr) (n : ℕ) → ((k : ℕ) → CostsOn t k held is n) → Costs t held is n
whoever t held is n h f quiet b = h (active f) f quiet b (omega arith)

flush_alone : (b : Bool) → AllByRecursion (λ (i : Instr). accesses i ≡ false) (flush b)
flush_alone true = (refl, tt)
flush_alone false = tt

flush_costs : (t : Run) (held : Bool) → Costs t held (flush held) (one_if held)
flush_costs t held f quiet b =
    let n = flush_count held in let c = accesses_alone t (flush held) f (flush_alone held) in omega (arith, n, c)

module _ (t : Run) (keep held : Bool) where
  wrote : (base entry : ℕ) (f g : Formula) →
      Costs t held (evaluation keep held Uniform base (Pair f g)
      ++ Put Uniform entry (first_at Uniform base f g) (second_at Uniform base f g) (positions f + positions g + 1) ∷ [])
      (evaluating t (Pair f g) + write_weighs t)
  wrote base a f g =
      let put = Put Uniform a (first_at Uniform base f g) (second_at Uniform base f g) (positions f + positions g + 1) in
      whoever t held (evaluation keep held Uniform base (Pair f g) ++ put ∷ []) (evaluating t (Pair f g) + write_weighs t)
      (λ k. with_words t k keep held Uniform base (Pair f g) (put ∷ []) refl (refl, tt) (of_write t.code.rule) (omega arith))

  wrote_on : (k base entry : ℕ) (f g : Formula) →
      CostsOn t k held (evaluation keep held Private base (Pair f g)
      ++ Put Private entry (first_at Private base f g) (second_at Private base f g) (positions f + positions g + 1) ∷ [])
      (evaluating_on t k (Pair f g) + writes_weigh t k)
  wrote_on k base a f g =
      let put = Put Private a (first_at Private base f g) (second_at Private base f g) (positions f + positions g + 1) in
      with_words t k keep held Private base (Pair f g) (put ∷ []) refl (refl, tt) (of_write t.code.rule * k) (omega arith)

  tests : (free : ℕ) (f : Formula) →
      Costs t held (evaluation keep held Uniform free f ++ flush (still held f)) (evaluating t f + one_if (still held f))
  tests free f =
      whoever t held (evaluation keep held Uniform free f ++ flush (still held f)) (evaluating t f + one_if (still held f))
      (λ k. with_counted t k held (evaluation keep held Uniform free f) (flush (still held f)) (evaluating t f)
      (evaluating t f + one_if (still held f)) (evaluation_costs t k keep held Uniform free f) (flush_alone (still held f))
      (let n = flush_count (still held f) in omega (arith, n)))

  bounds : (free : ℕ) (f g : Formula) →
      Costs t held (bounding keep held free f g) (evaluating t (Pair f g) + one_if (still held (Pair f g)))
  bounds free f g =
      let base = behind_turns free in
      let h = still held (Pair f g) in
      let n = evaluating t (Pair f g) in
      let first = evaluation keep held Uniform base (Pair f g) in
      let second = Copy Uniform (turn free) (first_at Uniform base f g) ∷ Copy Uniform (high free) (second_at Uniform base f g) ∷ [] in
      let last = Decide Uniform truth.AtMost (more free) (turn free) (high free) ∷ [] in
      whoever t held (bounding keep held free f g) (n + one_if h)
      (λ k. with_counted t k held ((first ++ second) ++ flush h) last (n + one_if h) (n + one_if h)
      (with_counted t k held (first ++ second) (flush h) n (n + one_if h)
      (with_counted t k held first second n n (evaluation_costs t k keep held Uniform base (Pair f g)) (refl, (refl, tt)) (omega arith))
      (flush_alone h) (let c = flush_count h in omega (arith, c))) (refl, tt) (omega arith))

  enters : (base : ℕ) (f g : Formula) → Costs t held (entering keep held base f g) (evaluating t (Pair f g))
  enters base f g =
      let last = Enter (first_at Uniform base f g) (second_at Uniform base f g) (positions f + positions g + 1) ∷ Index index ∷ [] in
      whoever t held (entering keep held base f g) (evaluating t (Pair f g))
      (λ k. with_counted t k held (evaluation keep held Uniform base (Pair f g)) last (evaluating t (Pair f g)) (evaluating t (Pair f g))
      (evaluation_costs t k keep held Uniform base (Pair f g)) (refl, (refl, tt)) (omega arith))

  opens : (flag : ℕ) → Costs t held (flush held ++ Set Private flag (pos 1) ∷ Mask flag ∷ []) (one_if held)
  opens flag =
      whoever t held (flush held ++ Set Private flag (pos 1) ∷ Mask flag ∷ []) (one_if held)
      (λ k. with_counted t k held (flush held) (Set Private flag (pos 1) ∷ Mask flag ∷ []) (one_if held) (one_if held)
      (λ f quiet b l. flush_costs t held f quiet b) (refl, (refl, tt)) (omega arith))

steps : (t : Run) (keep : Bool) (free x : ℕ) → Costs t false (stepping keep free x) 0
steps t keep free x =
    let last = Copy Uniform (variable x) (turn free) ∷ Decide Uniform truth.Less (more free) (turn free) (high free)
    ∷ Calculate Uniform arithmetic.Add (turn free) (turn free) (more free) 0 ∷ [] in
    whoever t false (stepping keep free x) 0
    (λ k. with_counted t k false (only (keep && not false) (Send ∷ [])) last 0 0 (λ f quiet b l. first_costs t keep false f quiet b)
    (refl, (refl, (refl, tt))) (omega arith))

pub straight_parts_cost : StraightPartsCost
straight_parts_cost = record {
  got = λ t keep held base f d. whoever t held (getting keep held Uniform base f d) (evaluating t f)
      (λ k. also_costs t k keep held Uniform base f (Copy Uniform d (value_at Uniform base f) ∷ []) refl (refl, tt) refl);
  written = λ t keep held base a f g. wrote t keep held base a f g;
  printed = λ t keep held base f. whoever t held (printing keep held base f) (evaluating t f)
      (λ k. also_costs t k keep held Uniform base f (Print (value_at Uniform base f) ∷ []) refl (refl, tt) refl);
  tested = λ t keep held free f. tests t keep held free f;
  bounded = λ t keep held free f g. bounds t keep held free f g;
  stepped = steps;
  entered = λ t keep held base f g. enters t keep held base f g;
  got_on = λ t k keep held base f d.
      also_costs t k keep held Private base f (Copy Private d (value_at Private base f) ∷ []) refl (refl, tt) refl;
  written_on = λ t k keep held base a f g. wrote_on t keep held k base a f g;
  masked = λ t k keep held base f.
      also_costs t k keep held Private base f (Mask (value_at Private base f) ∷ []) refl (refl, tt) refl;
  turned = λ t k keep vote flag base f.
      with_counted t k false (evaluation keep false Private base f)
      (Copy Private flag (value_at Private base f) ∷ Unmask ∷ Mask flag ∷ Vote vote ∷ []) (evaluating_on t k f) (evaluating_on t k f + 1)
      (evaluation_costs t k keep false Private base f) (refl, (refl, (refl, (refl, tt)))) (omega arith);
  sent = flush_costs;
  opened = λ t held flag. opens t true held flag;
}
