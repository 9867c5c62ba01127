-- Whether a write is held before and behind the straight parts of statements.
use Rattle.std.proofs.Common.{◌≡◌, ℕ, zero, suc, ◌+◌, List, [], ◌∷◌, ◌++◌, Bool, true, false, not, ◌&&◌, refl, ap, subst, arith, pos}
use Rattle.std.specs.List.{AllByRecursion}
use Rattle.superstep_instructions.specs.declared.instr.Side.{Side}
use Rattle.superstep_instructions.specs.declared.instr.Side.TheVariants.{Uniform, Private}
use Rattle.superstep_instructions.specs.declared.instr.Arithmetic.TheVariants as arithmetic
use Rattle.superstep_instructions.specs.declared.instr.Truth.TheVariants as truth
use Rattle.superstep_instructions.specs.declared.instr.Instr.{Instr}
use Rattle.superstep_instructions.specs.declared.instr.Instr.TheVariants.{Set, Copy, Negate, Calculate, Decide, Not, CopyUniform, Index}
use Rattle.superstep_instructions.specs.declared.instr.Instr.TheVariants.{Enter}
use Rattle.superstep_instructions.specs.declared.instr.Instr.TheVariants.{Mask, Unmask, Ask, Put, Send, Reply, Vote, Print}
use Rattle.flat_stretches.specs.Folds.{IsFine}
use Rattle.flat_stretches.proofs.Joins.{fine_joins}
use Rattle.verified_form.proofs.Held.{still_held, is_sent, waited}
use Rattle.plain_form.specs.Registers.{variable, turn, high, more, behind_turns, index}
use Rattle.plain_form.specs.Formulas.{Formula, Pair, positions, nesting}
use Rattle.plain_form.specs.Regions.{region}
use Rattle.plain_form.specs.Groups.{only, asks, groups, stack, value_at, first_at, second_at}
use Rattle.plain_form.specs.Shapes.{flush, any_level, has_reads, still, waits}
use Rattle.verified_form.specs.Straight.{evaluation, StraightPartsAreFine}
use Rattle.verified_form.proofs.Straight.{Sets, region_sets, asks_set}

-- instructions on registers and reads leave a held write as it is
fine_sets : (s : Side) (base : ℕ) (held : Bool) (is : List Instr) → AllByRecursion (Sets s base) is → IsFine held is held
fine_sets s base held [] h = refl
fine_sets s base held (Set t d n ∷ is) h = (refl, fine_sets s base held is h.1)
fine_sets s base held (Negate t d x q ∷ is) h = (refl, fine_sets s base held is h.1)
fine_sets s base held (Calculate t o d x y q ∷ is) h = (refl, fine_sets s base held is h.1)
fine_sets s base held (Decide t o d x y ∷ is) h = (refl, fine_sets s base held is h.1)
fine_sets s base held (Not t d x ∷ is) h = (refl, fine_sets s base held is h.1)
fine_sets s base held (CopyUniform d x ∷ is) h = (refl, fine_sets s base held is h.1)
fine_sets s base held (Ask t d a x q ∷ is) h = (refl, fine_sets s base held is h.1)
fine_sets s base held (i ∷ is) h = absurd h.0

fine_to : (held behind other : Bool) (is : List Instr) → behind ≡ other → IsFine held is behind → IsFine held is other
fine_to held behind other is e h = subst (λ b. IsFine held is b) e h

flush_fine : (held : Bool) → IsFine held (flush held) false
flush_fine true = (refl, refl)
flush_fine false = refl

begun_fine : (keep held : Bool) → IsFine held (only (keep && not held) (Send ∷ [])) held
begun_fine true true = refl
begun_fine true false = (refl, refl)
begun_fine false true = refl
begun_fine false false = refl

module _ (s : Side) where
  group_fine : (held : Bool) (l : ℕ) (f : Formula) (t b : ℕ) → IsFine held (asks s l f t b 0 ++ Send ∷ Reply ∷ []) false
  group_fine held l f t b =
      fine_joins held held false (asks s l f t b 0) (Send ∷ Reply ∷ [])
      (fine_sets s 0 held (asks s l f t b 0) (asks_set s 0 l f t b 0 (omega arith) (omega arith))) (refl, (refl, refl))

  groups_fine : (held : Bool) (n l : ℕ) (f : Formula) (t b : ℕ) → IsFine held (groups s n l f t b) (held && not (any_level n))
  groups_fine held zero l f t b = still_held held
  groups_fine held (suc n) l f t b =
      fine_joins held false (held && not true) (asks s l f t b 0 ++ Send ∷ Reply ∷ []) (groups s n (l + 1) f t b) (group_fine held l f t b)
      (fine_to false false (held && not true) (groups s n (l + 1) f t b) (is_sent held) (groups_fine false n (l + 1) f t b))

  evaluation_fine : (keep held : Bool) (base : ℕ) (f : Formula) → IsFine held (evaluation keep held s base f) (still held f)
  evaluation_fine keep held base f =
      let front = only (keep && not held) (Send ∷ []) in
      let reads = groups s (nesting f) 0 f base (stack base f) in
      let rest = region s f base (stack base f) 0 in
      fine_joins held held (still held f) front (reads ++ rest) (begun_fine keep held)
      (fine_joins held (still held f) (still held f) reads rest (groups_fine held (nesting f) 0 f base (stack base f))
      (fine_sets s 0 (still held f) rest (region_sets s 0 f base (stack base f) 0 (omega arith))))

  getting_fine : (keep held : Bool) (base : ℕ) (f : Formula) (i : Instr) (is : List Instr) (behind : Bool) →
      IsFine (still held f) (i ∷ is) behind → IsFine held (evaluation keep held s base f ++ i ∷ is) behind
  getting_fine keep held base f i is behind h =
      fine_joins held (still held f) behind (evaluation keep held s base f) (i ∷ is) (evaluation_fine keep held base f) h

pub straight_parts_are_fine : StraightPartsAreFine
straight_parts_are_fine = record {
  evaluated = λ keep held s base f. evaluation_fine s keep held base f;
  got = λ keep held s base f d. getting_fine s keep held base f (Copy s d (value_at s base f)) [] (still held f) (refl, refl);
  written = λ keep held s base a f g.
      let w = waits held (Pair f g) in
      let put = Put s a (first_at s base f g) (second_at s base f g) (positions f + positions g + 1) in
      let gone = waited held (has_reads (Pair f g)) in
      getting_fine s keep w base (Pair f g) put [] true (ap not gone, refl);
  printed = λ keep held base f. getting_fine Uniform keep held base f (Print (value_at Uniform base f)) [] (still held f) (refl, refl);
  tested = λ keep held free f.
      fine_joins held (still held f) false (evaluation keep held Uniform free f) (flush (still held f))
      (evaluation_fine Uniform keep held free f) (flush_fine (still held f));
  bounded = λ keep held free f g.
      let base = behind_turns free in
      let h = still held (Pair f g) in
      let first = evaluation keep held Uniform base (Pair f g) in
      let second = Copy Uniform (turn free) (first_at Uniform base f g) ∷ Copy Uniform (high free) (second_at Uniform base f g) ∷ [] in
      fine_joins held false false (first ++ second ++ flush h) (Decide Uniform truth.AtMost (more free) (turn free) (high free) ∷ [])
      (fine_joins held h false (first ++ second) (flush h)
      (getting_fine Uniform keep held base (Pair f g) (Copy Uniform (turn free) (first_at Uniform base f g))
      (Copy Uniform (high free) (second_at Uniform base f g) ∷ []) h (refl, (refl, refl))) (flush_fine h)) (refl, refl);
  stepped = λ keep free x.
      fine_joins false false false (only (keep && not false) (Send ∷ []))
      (Copy Uniform (variable x) (turn free) ∷ Decide Uniform truth.Less (more free) (turn free) (high free)
      ∷ Calculate Uniform arithmetic.Add (turn free) (turn free) (more free) 0 ∷ []) (begun_fine keep false)
      (refl, (refl, (refl, refl)));
  entered = λ keep held base f g.
      getting_fine Uniform keep held base (Pair f g)
      (Enter (first_at Uniform base f g) (second_at Uniform base f g) (positions f + positions g + 1)) (Index index ∷ [])
      (still held (Pair f g)) (refl, (refl, refl));
  masked = λ keep held base f. getting_fine Private keep held base f (Mask (value_at Private base f)) [] (still held f) (refl, refl);
  turned = λ keep vote flag base f.
      getting_fine Private keep false base f (Copy Private flag (value_at Private base f)) (Unmask ∷ Mask flag ∷ Vote vote ∷ []) false
      (refl, (refl, (refl, (refl, refl))));
  sent = flush_fine;
  opened = λ held flag.
      fine_joins held false false (flush held) (Set Private flag (pos 1) ∷ Mask flag ∷ []) (flush_fine held) (refl, (refl, refl));
}
