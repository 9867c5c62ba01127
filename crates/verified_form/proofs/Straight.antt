-- The straight parts of statements are fine, and set nothing below their registers.
use Rattle.std.proofs.Common.{◌≡◌, ℕ, zero, suc, ◌+◌, ◌≤◌, List, [], ◌∷◌, ◌++◌, Bool, true, false, not, ◌&&◌, refl, arith}
use Rattle.std.proofs.Common.{append_assoc}
use Rattle.std.specs.Prelude.{nat_le, nat_eq}
use Rattle.std.specs.List.{AllByRecursion}
use Rattle.std.proofs.lemmas.Bool.Decides.{nat_tests}
use Rattle.superstep_instructions.specs.declared.instr.Side.{Side}
use Rattle.superstep_instructions.specs.declared.instr.Side.TheVariants.{Uniform, Private}
use Rattle.superstep_instructions.specs.declared.instr.Instr.{Instr}
use Rattle.superstep_instructions.specs.declared.instr.Instr.TheVariants.{Set, Negate, Calculate, Decide, Not, CopyUniform, Index}
use Rattle.superstep_instructions.specs.declared.instr.Instr.TheVariants.{Ask, Put, Send, Reply}
use Rattle.pram_tokens.specs.declared.token.Binary.{Binary}
use Rattle.pram_tokens.specs.declared.token.Binary.TheVariants as binary
use Rattle.pram_trees.specs.declared.tree.Prefix.{Prefix}
use Rattle.pram_trees.specs.declared.tree.Prefix.TheVariants as prefix
use Rattle.flat_stretches.specs.Leaving.{evaluates}
use Rattle.flat_stretches.specs.Frames.{is_above}
use Rattle.plain_form.specs.Formulas.{Formula, Zero, Number, Variable, Index, Local, Read, Before, Between, Pair, reads, positions, nesting}
use Rattle.plain_form.specs.Regions.{variable_code, place, before_code, between_code, region}
use Rattle.plain_form.specs.Groups.{only, asks, groups, stack, evaluated, first_at, second_at}
use Rattle.plain_form.specs.Shapes.{flush, still, waits, counted}
use Rattle.verified_form.specs.Straight.{evaluation}
use Rattle.verified_form.specs.Straight.{MarksComeFirst, EvaluationsStay}

-- ---- where their marks stand

pub marks_come_first : MarksComeFirst
marks_come_first = record {
  counted = λ keep held line s base f. refl;
  gets = λ keep held line s base f d. refl;
  writes = λ keep held line s base a f g.
      append_assoc (flush (still held (Pair f g))) (counted keep (waits held (Pair f g)) line s base (Pair f g))
      (Put s a (first_at s base f g) (second_at s base f g) (positions f + positions g + 1) ∷ []);
  prints = λ keep held line base f. refl;
  test = λ keep held line free f. refl;
  bounds = λ keep held line free f g. refl;
  setting = λ keep line free x. refl;
  entered = λ keep held line base f g. refl;
  mask = λ keep held line base f. refl;
  flags = λ keep line vote flag base f. refl;
}

-- ---- lists

pub all_join : (P : Instr → Type 0) (xs ys : List Instr) → AllByRecursion P xs → AllByRecursion P ys → AllByRecursion P (xs ++ ys)
all_join P [] ys a b = b
all_join P (x ∷ xs) ys a b = (a.0, all_join P xs ys a.1 b)

all_weaker : (P Q : Instr → Type 0) → ((i : Instr) → P i → Q i) → (xs : List Instr) → AllByRecursion P xs → AllByRecursion Q xs
all_weaker P Q f [] a = tt
all_weaker P Q f (x ∷ xs) a = (f x a.0, all_weaker P Q f xs a.1)

-- ---- what stands in the code of a formula

-- an instruction on registers of a side, or a read of that side, that sets one from `base` on
abbrev pub Sets : Side → ℕ → Instr → Type 0
Sets s base (Set t d n) = (t ≡ s) × (base ≤ d)
Sets s base (Negate t d x q) = (t ≡ s) × (base ≤ d)
Sets s base (Calculate t o d x y q) = (t ≡ s) × (base ≤ d)
Sets s base (Decide t o d x y) = (t ≡ s) × (base ≤ d)
Sets s base (Not t d x) = (t ≡ s) × (base ≤ d)
Sets s base (CopyUniform d x) = (Private ≡ s) × (base ≤ d)
Sets s base (Ask t d a x q) = (t ≡ s) × (base ≤ d)
Sets s base i = ⊥

module _ (s : Side) (base : ℕ) where
  abbrev AllSet : List Instr → Type 0
  AllSet = AllByRecursion (Sets s base)

  before_sets : (o : Prefix) (b x q : ℕ) → base ≤ b → AllSet (before_code s o b x q)
  before_sets prefix.Negate b x q h = ((refl, h), tt)
  before_sets prefix.Not b x q h = ((refl, h), tt)

  between_sets : (o : Binary) (b x y q : ℕ) → base ≤ b → AllSet (between_code s o b x y q)
  between_sets binary.Or b x y q h = ((refl, h), tt)
  between_sets binary.And b x y q h = ((refl, h), tt)
  between_sets binary.Equal b x y q h = ((refl, h), tt)
  between_sets binary.Unequal b x y q h = ((refl, h), ((refl, h), tt))
  between_sets binary.Less b x y q h = ((refl, h), tt)
  between_sets binary.AtMost b x y q h = ((refl, h), tt)
  between_sets binary.Greater b x y q h = ((refl, h), tt)
  between_sets binary.AtLeast b x y q h = ((refl, h), tt)
  between_sets binary.Add b x y q h = ((refl, h), tt)
  between_sets binary.Subtract b x y q h = ((refl, h), tt)
  between_sets binary.Multiply b x y q h = ((refl, h), tt)
  between_sets binary.Divide b x y q h = ((refl, h), tt)
  between_sets binary.Remainder b x y q h = ((refl, h), tt)

variable_sets : (s : Side) (base x b : ℕ) → base ≤ b → AllByRecursion (Sets s base) (variable_code s x b)
variable_sets Uniform base x b h = tt
variable_sets Private base x b h = ((refl, h), tt)

module _ (s : Side) (base : ℕ) where
  pub region_sets : (f : Formula) (t b q : ℕ) → base ≤ b → AllByRecursion (Sets s base) (region s f t b q)
  region_sets Zero t b q h = tt
  region_sets (Number n) t b q h = ((refl, h), tt)
  region_sets (Variable x) t b q h = variable_sets s base x b h
  region_sets Index t b q h = tt
  region_sets (Local x) t b q h = tt
  region_sets (Read a f) t b q h = tt
  region_sets (Before o f) t b q h =
      all_join (Sets s base) (region s f t b q) (before_code s o b (place s f t b) (q + positions f + 1)) (region_sets f t b q h)
      (before_sets s base o b (place s f t b) (q + positions f + 1) h)
  region_sets (Between o f g) t b q h =
      let second = region s g (t + reads f) (b + 1) (q + positions f) in
      let x = place s f t b in
      let y = place s g (t + reads f) (b + 1) in
      let last = between_code s o b x y (q + positions f + positions g + 1) in
      all_join (Sets s base) (region s f t b q) (second ++ last) (region_sets f t b q h)
      (all_join (Sets s base) second last (region_sets g (t + reads f) (b + 1) (q + positions f) (omega (arith, h)))
      (between_sets s base o b x y (q + positions f + positions g + 1) h))
  region_sets (Pair f g) t b q h =
      all_join (Sets s base) (region s f t b q) (region s g (t + reads f) (b + 1) (q + positions f)) (region_sets f t b q h)
      (region_sets g (t + reads f) (b + 1) (q + positions f) (omega (arith, h)))

  ask_sets : (here : Bool) (a : ℕ) (f : Formula) (t b q : ℕ) → base ≤ t → base ≤ b →
      AllByRecursion (Sets s base) (only here (region s f t b q ++ Ask s (t + reads f) a (place s f t b) (q + positions f + 1) ∷ []))
  ask_sets true a f t b q h k =
      all_join (Sets s base) (region s f t b q) (Ask s (t + reads f) a (place s f t b) (q + positions f + 1) ∷ []) (region_sets f t b q k)
      ((refl, omega (arith, h)), tt)
  ask_sets false a f t b q h k = tt

  pub asks_set : (l : ℕ) (f : Formula) (t b q : ℕ) → base ≤ t → base ≤ b → AllByRecursion (Sets s base) (asks s l f t b q)
  asks_set l Zero t b q h k = tt
  asks_set l (Number n) t b q h k = tt
  asks_set l (Variable x) t b q h k = tt
  asks_set l Index t b q h k = tt
  asks_set l (Local x) t b q h k = tt
  asks_set l (Read a f) t b q h k =
      all_join (Sets s base) (asks s l f t b q)
      (only (nat_eq (nesting f) l) (region s f t b q ++ Ask s (t + reads f) a (place s f t b) (q + positions f + 1) ∷ []))
      (asks_set l f t b q h k) (ask_sets (nat_eq (nesting f) l) a f t b q h k)
  asks_set l (Before o f) t b q h k = asks_set l f t b q h k
  asks_set l (Between o f g) t b q h k =
      all_join (Sets s base) (asks s l f t b q) (asks s l g (t + reads f) b (q + positions f)) (asks_set l f t b q h k)
      (asks_set l g (t + reads f) b (q + positions f) (omega (arith, h)) k)
  asks_set l (Pair f g) t b q h k =
      all_join (Sets s base) (asks s l f t b q) (asks s l g (t + reads f) b (q + positions f)) (asks_set l f t b q h k)
      (asks_set l g (t + reads f) b (q + positions f) (omega (arith, h)) k)

  -- so what holds of such instructions, of sends and of replies holds of all
  module _ (P : Instr → Type 0) (some : (i : Instr) → Sets s base i → P i) (send : P Send) (reply : P Reply) where
    groups_all : (n l : ℕ) (f : Formula) (t b : ℕ) → base ≤ t → base ≤ b → AllByRecursion P (groups s n l f t b)
    groups_all zero l f t b h k = tt
    groups_all (suc n) l f t b h k =
        all_join P (asks s l f t b 0 ++ Send ∷ Reply ∷ []) (groups s n (l + 1) f t b)
        (all_join P (asks s l f t b 0) (Send ∷ Reply ∷ []) (all_weaker (Sets s base) P some (asks s l f t b 0) (asks_set l f t b 0 h k))
        (send, (reply, tt))) (groups_all n (l + 1) f t b h k)

    sends_all : (b : Bool) → AllByRecursion P (only b (Send ∷ []))
    sends_all true = (send, tt)
    sends_all false = tt

    evaluation_all : (keep held : Bool) (f : Formula) → AllByRecursion P (evaluation keep held s base f)
    evaluation_all keep held f =
        all_join P (only (keep && not held) (Send ∷ [])) (evaluated s base f) (sends_all (keep && not held))
        (all_join P (groups s (nesting f) 0 f base (stack base f)) (region s f base (stack base f) 0)
        (groups_all (nesting f) 0 f base (stack base f) (omega arith) (omega arith))
        (all_weaker (Sets s base) P some (region s f base (stack base f) 0) (region_sets f base (stack base f) 0 (omega arith))))

-- ---- what is set

module _ (base : ℕ) where
  is_from : (d : ℕ) → base ≤ d → nat_le base d ≡ true
  is_from d h = grind (arith, nat_tests)

  evaluates_outside : (i : Instr) → Sets Uniform base i → evaluates base i ≡ true
  evaluates_outside (Set Uniform d n) h = is_from d h.1
  evaluates_outside (Negate Uniform d x q) h = is_from d h.1
  evaluates_outside (Calculate Uniform o d x y q) h = is_from d h.1
  evaluates_outside (Decide Uniform o d x y) h = is_from d h.1
  evaluates_outside (Not Uniform d x) h = is_from d h.1
  evaluates_outside (Ask Uniform d a x q) h = is_from d h.1
  evaluates_outside (Set Private d n) h = refl
  evaluates_outside (Negate Private d x q) h = refl
  evaluates_outside (Calculate Private o d x y q) h = refl
  evaluates_outside (Decide Private o d x y) h = refl
  evaluates_outside (Not Private d x) h = refl
  evaluates_outside (Ask Private d a x q) h = refl
  evaluates_outside (CopyUniform d x) h = refl
  evaluates_outside i h = absurd h

  stays_above : (s : Side) (i : Instr) → Sets s base i → is_above base i ≡ true
  stays_above s (Set Private d n) h = is_from d h.1
  stays_above s (Negate Private d x q) h = is_from d h.1
  stays_above s (Calculate Private o d x y q) h = is_from d h.1
  stays_above s (Decide Private o d x y) h = is_from d h.1
  stays_above s (Not Private d x) h = is_from d h.1
  stays_above s (Set Uniform d n) h = refl
  stays_above s (Negate Uniform d x q) h = refl
  stays_above s (Calculate Uniform o d x y q) h = refl
  stays_above s (Decide Uniform o d x y) h = refl
  stays_above s (Not Uniform d x) h = refl
  stays_above s (Ask t d a x q) h = is_from d h.1
  stays_above s (CopyUniform d x) h = is_from d h.1
  stays_above s i h = absurd h

other_side : (A : Type 0) → Uniform ≡ Private → A
other_side A h = cc

evaluates_inside : (base n : ℕ) (i : Instr) → Sets Private base i → evaluates n i ≡ true
evaluates_inside base n (Set Uniform d x) h = other_side _ h.0
evaluates_inside base n (Negate Uniform d x q) h = other_side _ h.0
evaluates_inside base n (Calculate Uniform o d x y q) h = other_side _ h.0
evaluates_inside base n (Decide Uniform o d x y) h = other_side _ h.0
evaluates_inside base n (Not Uniform d x) h = other_side _ h.0
evaluates_inside base n (Ask Uniform d a x q) h = other_side _ h.0
evaluates_inside base n (Set Private d x) h = refl
evaluates_inside base n (Negate Private d x q) h = refl
evaluates_inside base n (Calculate Private o d x y q) h = refl
evaluates_inside base n (Decide Private o d x y) h = refl
evaluates_inside base n (Not Private d x) h = refl
evaluates_inside base n (Ask Private d a x q) h = refl
evaluates_inside base n (CopyUniform d x) h = refl
evaluates_inside base n i h = absurd h

pub evaluations_stay : EvaluationsStay
evaluations_stay = record {
  outside = λ keep held base f.
      evaluation_all Uniform base (λ (i : Instr). evaluates base i ≡ true) (evaluates_outside base) refl refl keep held f;
  inside = λ keep held base n f.
      evaluation_all Private base (λ (i : Instr). evaluates n i ≡ true) (evaluates_inside base n) refl refl keep held f;
  above = λ keep held s base f.
      evaluation_all s base (λ (i : Instr). is_above base i ≡ true) (stays_above base s) refl refl keep held f;
}
