-- The code of statements inside pardo within the limits of a listing, by their sizes and how deep they nest.
use Rattle.std.proofs.Common.{ℕ, ◌+◌, ◌<◌, ◌≤◌, ◌^◌, List, [], ◌∷◌, ◌++◌, length, Bool, false, Option, Some, None, arith}
use Rattle.std.specs.Prelude.{MatchOption}
use Rattle.std.proofs.lemmas.Int.{ints}
use Rattle.superstep_instructions.specs.declared.instr.Side.TheVariants.{Private}
use Rattle.superstep_instructions.specs.declared.instr.Instr.TheVariants.{Mask, Unmask}
use Rattle.pram_names.specs.declared.body.Expression as body
use Rattle.pram_names.specs.declared.body.Expression.{Expression, Element', Prefix', Chain', Row_of-Link, end_of-Link, more_of-Link}
use Rattle.pram_names.specs.declared.body.StepTarget.{StepTarget}
use Rattle.pram_names.specs.declared.body.StepTarget.TheVariants as inner
use Rattle.pram_names.specs.declared.body.Step as step
use Rattle.pram_names.specs.declared.body.Step.{Step, Row_of-Step, end_of-Step, more_of-Step}
use Rattle.pram_check.specs.Bounded.{Names, IsNamed, AreNamed, IsSole, ArePair, IsInnerAssign, IsStep, ArePartSteps}
use Rattle.pram_check.specs.Bounded.{AreSteps}
use Rattle.pram_check.specs.Bounded.{nodes, link_nodes, inner_target_nodes, step_depth, part_step_depth, steps_depth}
use Rattle.pram_check.specs.Bounded.{step_size, part_step_size, steps_size}
use Rattle.plain_form.specs.Registers.{local}
use Rattle.plain_form.specs.Formulas.{Formula, Zero, Between, Pair, formula_of, chained, positions}
use Rattle.plain_form.specs.Groups.{value_at}
use Rattle.plain_form.specs.Shapes.{still, counted, sent, looped, flipped, flagged, flags}
use Rattle.plain_form.specs.Inside as inside
use Rattle.plain_form.specs.Inside.{Frame}
use Rattle.plain_form.proofs.KeptReads.{reads_of}
use Rattle.verified_form.specs.FormedCode.{HasLines, PartHasLines, StepsHaveLines}
use Rattle.verified_form.proofs.SmallFormulas.{AreSmall, HasNames, height, small_join}
use Rattle.verified_form.proofs.SmallShapes.{IsFair, sent_small, looped_small, flipped_small}
use Rattle.verified_form.proofs.SmallShapes.{flagged_small, gets_small, writes_small}
use Rattle.verified_form.proofs.SmallShapes.{tested_small, flags_small}

-- ---- how large formulas are

mutual
  height_of : (e : Expression) → height (formula_of e) ≤ nodes e
  height_of (body.Number n) = omega arith
  height_of (body.Uniform x) = omega arith
  height_of body.Index = omega arith
  height_of (body.Local x) = omega arith
  height_of (body.Cell a) = omega arith
  height_of (Element' a b e) = let h : height (formula_of e) ≤ nodes e = height_of e in omega (arith, h)
  height_of (Prefix' o b e) = let h : height (formula_of e) ≤ nodes e = height_of e in omega (arith, h)
  height_of (Chain' b e q links) =
      let h : height (formula_of e) ≤ nodes e = height_of e in
      let k : height (chained (formula_of e) links) ≤ height (formula_of e) + link_nodes links = height_of_chain (formula_of e) links in
      omega (arith, h, k)

  height_of_chain : (f : Formula) {n : _} (links : Row_of-Link n) → height (chained f links) ≤ height f + link_nodes links
  height_of_chain f end_of-Link = omega arith
  height_of_chain f (more_of-Link o e links) =
      let h : height (formula_of e) ≤ nodes e = height_of e in
      let k : height (chained (Between o f (formula_of e)) links) ≤ height f + height (formula_of e) + 1 + link_nodes links =
      height_of_chain (Between o f (formula_of e)) links in
      omega (arith, h, k)

mutual
  pub positions_of : (e : Expression) → positions (formula_of e) ≤ nodes e
  positions_of (body.Number n) = omega arith
  positions_of (body.Uniform x) = omega arith
  positions_of body.Index = omega arith
  positions_of (body.Local x) = omega arith
  positions_of (body.Cell a) = omega arith
  positions_of (Element' a b e) = let h : positions (formula_of e) ≤ nodes e = positions_of e in omega (arith, h)
  positions_of (Prefix' o b e) = let h : positions (formula_of e) ≤ nodes e = positions_of e in omega (arith, h)
  positions_of (Chain' b e q links) =
      let h : positions (formula_of e) ≤ nodes e = positions_of e in
      let k : positions (chained (formula_of e) links) ≤ positions (formula_of e) + link_nodes links =
      positions_of_chain (formula_of e) links in
      omega (arith, h, k)

  positions_of_chain : (f : Formula) {n : _} (links : Row_of-Link n) → positions (chained f links) ≤ positions f + link_nodes links
  positions_of_chain f end_of-Link = omega arith
  positions_of_chain f (more_of-Link o e links) =
      let h : positions (formula_of e) ≤ nodes e = positions_of e in
      let k : positions (chained (Between o f (formula_of e)) links) ≤ positions f + positions (formula_of e) + 1 + link_nodes links =
      positions_of_chain (Between o f (formula_of e)) links in
      omega (arith, h, k)

-- how many locals there are
abbrev pub local_count : Option ℕ → ℕ
local_count None = 0
local_count (Some n) = n

local_below : (n : Option ℕ) (x : ℕ) → MatchOption n ⊥ (λ k. x < k) → x < local_count n
local_below None x h = absurd h
local_below (Some n) x h = h

module _ (s : Names) where
  mutual
    names_of : (e : Expression) → IsNamed s e → HasNames s.uniforms (local_count s.locals) (formula_of e)
    names_of (body.Number n) h = let a = h.no_sign in let b = h.bounded in (omega (arith, ints, a), b)
    names_of (body.Uniform x) h = h
    names_of body.Index h = tt
    names_of (body.Local x) h = local_below s.locals x h
    names_of (body.Cell a) h = tt
    names_of (Element' a b e) h = names_of e h.1
    names_of (Prefix' o b e) h = names_of e h
    names_of (Chain' b e q links) h = names_of_chain (formula_of e) links (names_of e h.0) h.1

    names_of_chain : (f : Formula) {n : _} (links : Row_of-Link n) → HasNames s.uniforms (local_count s.locals) f → AreNamed s links →
        HasNames s.uniforms (local_count s.locals) (chained f links)
    names_of_chain f end_of-Link h k = h
    names_of_chain f (more_of-Link o e links) h k = names_of_chain (Between o f (formula_of e)) links (h, names_of e k.0) k.1

  module _ (most : ℕ) (all : most ≤ 2 ^ 16) (base : ℕ) where
    pub sole_fair : (e : Expression) → IsSole s e → base + nodes e + 10 ≤ most →
        IsFair most s.uniforms (local_count s.locals) base (formula_of e)
    sole_fair e h l =
        let r = reads_of e in let few = h.1 in let k = height_of e in let p = positions_of e in
        record {
          names = names_of e h.0;
          room = record { reads = omega (arith, r, few, l); stack = omega (arith, r, few, l, k); positions = omega (arith, p, l, all) };
        }

    -- behind the subscript of a single cell
    pub cell_fair : (e : Expression) → IsSole s e → base + nodes e + 10 ≤ most →
        IsFair most s.uniforms (local_count s.locals) base (Pair Zero (formula_of e))
    cell_fair e h l =
        let r = reads_of e in let few = h.1 in let k = height_of e in let p = positions_of e in
        record {
          names = (tt, names_of e h.0);
          room = record { reads = omega (arith, r, few, l); stack = omega (arith, r, few, l, k); positions = omega (arith, p, l, all) };
        }

    pub pair_fair : (e f : Expression) → ArePair s e f → base + nodes e + nodes f + 10 ≤ most →
        IsFair most s.uniforms (local_count s.locals) base (Pair (formula_of e) (formula_of f))
    pair_fair e f h l =
        let r = reads_of e in let q = reads_of f in let few = h.2 in
        let k = height_of e in let m = height_of f in let p = positions_of e in let o = positions_of f in
        record {
          names = (names_of e h.0, names_of f h.1);
          room = record {
            reads = omega (arith, r, q, few, l);
            stack = omega (arith, r, q, few, l, k, m);
            positions = omega (arith, p, o, l, all);
          };
        }

-- ---- inside pardo

module _ (most : ℕ) (all : most ≤ 2 ^ 16) (s : Names) (few : s.uniforms + 1 ≤ most) (fewer : local_count s.locals + 2 ≤ most)
    (w : Frame) (vote : w.vote < most) where
  abbrev locals : ℕ
  locals = local_count s.locals

  inner_assign_small : (held : Bool) (line base : ℕ) (x : StepTarget) (e : Expression) → line < 2 ^ 32 → IsInnerAssign s x e →
      base + inner_target_nodes x + nodes e + 10 ≤ most → AreSmall most (inside.inner_assign w held line base x (formula_of e))
  inner_assign_small held line base (inner.Local x) e l h m =
      let k : x < locals = local_below s.locals x h.0 in
      gets_small most s.uniforms locals few fewer Private w.keep held line base (formula_of e) (local x) l (omega (arith, k, fewer))
      (sole_fair s most all base e h.1 (omega (arith, m)))
  inner_assign_small held line base (inner.Cell a) e l h m =
      let p = positions_of e in
      writes_small most s.uniforms locals few fewer Private w.keep held line base a Zero (formula_of e) l (omega (arith, p, m, all))
      (cell_fair s most all base e h.1 (omega (arith, m)))
  inner_assign_small held line base (inner.Element a i) e l h m =
      let p = positions_of e in let q = positions_of i in
      writes_small most s.uniforms locals few fewer Private w.keep held line base a (formula_of i) (formula_of e) l
      (omega (arith, p, q, m, all)) (pair_fair s most all base i e h.1 (omega (arith, m)))

  mutual
    step_small : (base start : ℕ) (held : Bool) (x : Step) → IsStep s x → HasLines x → base + step_depth x + step_size x + 10 ≤ most →
        AreSmall most (inside.step_code w base start held x)
    step_small base start held (step.Assign here x e) h l m = inner_assign_small held here.line base x e l h (omega (arith, m))
    step_small base start held (step.If' here e q a r b) h l m =
        let f = formula_of e in
        let test = counted w.keep held here.line Private base f ++ Mask (value_at Private base f) ∷ [] in
        let first = inside.part_code w base (start + length test) (still held f) a in
        let behind = inside.part_left (still held f) a in
        let second = λ (n : ℕ). inside.part_code w base n behind b in
        let other = flipped (inside.has_part b) (start + length (test ++ first)) second in
        small_join most (test ++ first ++ other) (Unmask ∷ [])
        (small_join most (test ++ first) other
        (small_join most test first
        (tested_small most s.uniforms locals few fewer w.keep held here.line base f l.0
        (sole_fair s most all base e h.0 (omega (arith, m))))
        (part_small base (start + length test) (still held f) a h.1 l.1 (omega (arith, m))))
        (flipped_small most (start + length (test ++ first)) (inside.has_part b) second
        (λ n. part_small base n behind b h.2 l.2 (omega (arith, m)))))
        (record { uniform = omega arith; private = omega arith; numbers = tt }, tt)
    step_small base start held (step.While' here e q a) h l m =
        let f = formula_of e in
        let before = flagged held base in
        let test = flags w.keep here.line w.vote base (base + 1) f in
        let body = λ (n : ℕ). sent (inside.part_code w (base + 1) n false a) (inside.part_left false a) in
        small_join most (before ++ looped (start + length before) test w.vote body) (Unmask ∷ [])
        (small_join most before (looped (start + length before) test w.vote body) (flagged_small most held base (omega (arith, m)))
        (looped_small most (start + length before) w.vote test body vote
        (flags_small most s.uniforms locals few fewer w.keep here.line w.vote base (base + 1) f l.0 vote (omega (arith, m))
        (sole_fair s most all (base + 1) e h.0 (omega (arith, m))))
        (λ n. sent_small most (inside.part_code w (base + 1) n false a) (inside.part_left false a)
        (part_small (base + 1) n false a h.1 l.1 (omega (arith, m))))))
        (record { uniform = omega arith; private = omega arith; numbers = tt }, tt)

    part_small : (base start : ℕ) (held : Bool) {k : _} (xs : Row_of-Step k) → ArePartSteps s xs → PartHasLines xs →
        base + part_step_depth xs + part_step_size xs + 10 ≤ most → AreSmall most (inside.part_code w base start held xs)
    part_small base start held end_of-Step h l m = tt
    part_small base start held (more_of-Step x xs) h l m =
        let first = inside.step_code w base start held x in
        small_join most first (inside.part_code w base (start + length first) (inside.step_left held x) xs)
        (step_small base start held x h.0 l.0 (omega (arith, m)))
        (part_small base (start + length first) (inside.step_left held x) xs h.1 l.1 (omega (arith, m)))

  pub steps_small : (base start : ℕ) (held : Bool) (xs : List Step) → AreSteps s xs → StepsHaveLines xs →
      base + steps_depth xs + steps_size xs + 10 ≤ most → AreSmall most (inside.steps_code w base start held xs)
  steps_small base start held [] h l m = tt
  steps_small base start held (x ∷ xs) h l m =
      let first = inside.step_code w base start held x in
      small_join most first (inside.steps_code w base (start + length first) (inside.step_left held x) xs)
      (step_small base start held x h.0 l.0 (omega (arith, m)))
      (steps_small base (start + length first) (inside.step_left held x) xs h.1 l.1 (omega (arith, m)))
