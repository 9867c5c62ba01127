-- The code of statements by their parts, within the limits of a listing.
use Rattle.std.proofs.Common.{ℕ, ◌+◌, ◌<◌, ◌≤◌, ◌^◌, List, [], ◌∷◌, ◌++◌, length, Bool, true, false, not, ◌&&◌, arith}
use Rattle.std.specs.Prelude.{pos}
use Rattle.std.proofs.lemmas.Int.{ints}
use Rattle.superstep_instructions.specs.declared.instr.Side.{Side}
use Rattle.superstep_instructions.specs.declared.instr.Side.TheVariants.{Uniform, Private}
use Rattle.superstep_instructions.specs.declared.instr.Arithmetic.TheVariants as arithmetic
use Rattle.superstep_instructions.specs.declared.instr.Truth.TheVariants as truth
use Rattle.superstep_instructions.specs.declared.instr.Instr.{Instr}
use Rattle.superstep_instructions.specs.declared.instr.Instr.TheVariants.{Set, Copy, Calculate, Decide, Index, Enter, Mask, Unmask}
use Rattle.superstep_instructions.specs.declared.instr.Instr.TheVariants.{Put, Vote, Print, Jump, JumpIfZero}
use Rattle.plain_form.specs.Registers.{variable, turn, high, more, behind_turns, index}
use Rattle.plain_form.specs.Formulas.{Formula, Pair, reads, positions}
use Rattle.plain_form.specs.Groups.{stack, evaluated, value_at, first_at, second_at}
use Rattle.plain_form.specs.Shapes.{flush, still, waits, begun, counted, gets, writes, prints, sent, chosen, looped, turned, bounds}
use Rattle.plain_form.specs.Shapes.{setting}
use Rattle.plain_form.specs.Shapes.{entered, flipped, flagged, flags}
use Rattle.verified_form.proofs.SmallFormulas.{IsSmall, AreSmall, HasNames, HasRoom, small_join, set_small, copy_small, decide_small}
use Rattle.verified_form.proofs.SmallFormulas.{calculate_small, put_small, place_below, evaluated_small}

pub flush_small : (most : ℕ) (held : Bool) → AreSmall most (flush held)
flush_small most true = (record { uniform = omega arith; private = omega arith; numbers = tt }, tt)
flush_small most false = tt

pub begun_small : (most : ℕ) (keep held : Bool) (line : ℕ) → line < 2 ^ 32 → AreSmall most (begun keep held line)
begun_small most keep held line h =
    (record { uniform = omega arith; private = omega arith; numbers = h }, flush_small most (keep && not held))

pub sent_small : (most : ℕ) (part : List Instr) (left : Bool) → AreSmall most part → AreSmall most (sent part left)
sent_small most part left h = small_join most part (flush left) h (flush_small most left)

-- a jump by a register of the program
pub fork_small : (most r t : ℕ) → r < most → IsSmall most (JumpIfZero r t)
fork_small most r t h = record { uniform = omega (arith, h); private = omega arith; numbers = tt }

pub jump_small : (most t : ℕ) → IsSmall most (Jump t)
jump_small most t = record { uniform = omega arith; private = omega arith; numbers = tt }

pub looped_small : (most head r : ℕ) (test : List Instr) (body : ℕ → List Instr) → r < most → AreSmall most test →
    ((n : ℕ) → AreSmall most (body n)) → AreSmall most (looped head test r body)
looped_small most head r test body h a b =
    let start = head + length test + 1 in
    let fork = JumpIfZero r (start + length (body start) + 1) in
    small_join most (test ++ fork ∷ [] ++ body start) (Jump head ∷ [])
    (small_join most (test ++ fork ∷ []) (body start)
    (small_join most test (fork ∷ []) a (fork_small most r (start + length (body start) + 1) h, tt)) (b start)) (jump_small most head, tt)

pub chosen_small : (most start r : ℕ) (part : List Instr) (some : Bool) (other : ℕ → List Instr) → r < most → AreSmall most part →
    ((n : ℕ) → AreSmall most (other n)) → AreSmall most (chosen start r part some other)
chosen_small most start r part false other h a b = (fork_small most r (start + 1 + length part) h, a)
chosen_small most start r part true other h a b =
    let next = start + 1 + length part + 1 in (
      fork_small most r next h,
      small_join most part (Jump (next + length (other next)) ∷ other next) a (jump_small most (next + length (other next)), b next),
    )

pub turned_small : (most start r : ℕ) (set : List Instr) (body : ℕ → List Instr) → r < most → AreSmall most set →
    ((n : ℕ) → AreSmall most (body n)) → AreSmall most (turned start r set body)
turned_small most start r set body h a b =
    let head = start + 1 in
    let turns = set ++ body (head + length set) in
    let end = head + length turns + 2 in (
      fork_small most r end h,
      small_join most turns (JumpIfZero r end ∷ Jump head ∷ []) (small_join most set (body (head + length set)) a (b (head + length set)))
          (fork_small most r end h, (jump_small most head, tt)),
    )

pub flipped_small : (most start : ℕ) (some : Bool) (part : ℕ → List Instr) → ((n : ℕ) → AreSmall most (part n)) →
    AreSmall most (flipped some start part)
flipped_small most start false part h = tt
flipped_small most start true part h = (record { uniform = omega arith; private = omega arith; numbers = tt }, h (start + 1))

-- a register of processors
pub mask_small : (most r : ℕ) → r < most → IsSmall most (Mask r)
mask_small most r h = record { uniform = omega arith; private = omega (arith, h); numbers = tt }

pub flagged_small : (most : ℕ) (held : Bool) (flag : ℕ) → flag < most → AreSmall most (flagged held flag)
flagged_small most held flag h =
    small_join most (flush held) (Set Private flag (pos 1) ∷ Mask flag ∷ []) (flush_small most held)
    (set_small most Private flag (pos 1) h (omega (arith, ints), omega (arith, ints)), (mask_small most flag h, tt))

-- ---- what is evaluated

-- A formula whose names are declared, with room from `base` on.
pub record IsFair (most uniforms locals base : ℕ) (f : Formula) : Type 0 where
  pub names : HasNames uniforms locals f
  pub room : HasRoom most f base (stack base f) 0

module _ (most uniforms locals : ℕ) (few : uniforms + 1 ≤ most) (fewer : locals + 2 ≤ most) (s : Side) where
  pub value_below : (base : ℕ) (f : Formula) → IsFair most uniforms locals base f → value_at s base f < most
  value_below base f h = place_below most uniforms locals few fewer s f base (stack base f) 0 h.names h.room

  pub first_below : (base : ℕ) (f g : Formula) → IsFair most uniforms locals base (Pair f g) → first_at s base f g < most
  first_below base f g h = place_below most uniforms locals few fewer s (Pair f g) base (stack base (Pair f g)) 0 h.names h.room

  pub second_below : (base : ℕ) (f g : Formula) → IsFair most uniforms locals base (Pair f g) → second_at s base f g < most
  second_below base f g h =
      let i = h.room.reads in let k = h.room.stack in let m = h.room.positions in
      let room : HasRoom most g (base + reads f) (stack base (Pair f g) + 1) 0 =
      record { reads = omega (arith, i); stack = omega (arith, k); positions = omega (arith, m) } in
      place_below most uniforms locals few fewer s g (base + reads f) (stack base (Pair f g) + 1) 0 h.names.1 room

  pub counted_small : (keep held : Bool) (line base : ℕ) (f : Formula) → line < 2 ^ 32 → IsFair most uniforms locals base f →
      AreSmall most (counted keep held line s base f)
  counted_small keep held line base f l h =
      small_join most (begun keep held line) (evaluated s base f) (begun_small most keep held line l)
      (evaluated_small most uniforms locals few fewer s base f h.names h.room)

  pub gets_small : (keep held : Bool) (line base : ℕ) (f : Formula) (d : ℕ) → line < 2 ^ 32 → d < most →
      IsFair most uniforms locals base f →
      AreSmall most (gets keep held line s base f d)
  gets_small keep held line base f d l k h =
      small_join most (counted keep held line s base f) (Copy s d (value_at s base f) ∷ []) (counted_small keep held line base f l h)
      (copy_small most s d (value_at s base f) k (value_below base f h), tt)

  pub writes_small : (keep held : Bool) (line base a : ℕ) (f g : Formula) → line < 2 ^ 32 → positions f + positions g + 1 < 2 ^ 32 →
      IsFair most uniforms locals base (Pair f g) → AreSmall most (writes keep held line s base a f g)
  writes_small keep held line base a f g l m h =
      let first = flush (still held (Pair f g)) in
      let w = waits held (Pair f g) in
      let second = counted keep w line s base (Pair f g) in
      let q = positions f + positions g + 1 in
      small_join most (first ++ second) (Put s a (first_at s base f g) (second_at s base f g) q ∷ [])
      (small_join most first second (flush_small most (still held (Pair f g))) (counted_small keep w line base (Pair f g) l h))
      (put_small most s a (first_at s base f g) (second_at s base f g) q (first_below base f g h) (second_below base f g h) m, tt)

-- ---- outside pardo

module _ (most uniforms locals : ℕ) (few : uniforms + 1 ≤ most) (fewer : locals + 2 ≤ most) where
  pub prints_small : (keep held : Bool) (line base : ℕ) (f : Formula) → line < 2 ^ 32 → IsFair most uniforms locals base f →
      AreSmall most (prints keep held line base f)
  prints_small keep held line base f l h =
      let r = value_at Uniform base f in
      let k : r < most = value_below most uniforms locals few fewer Uniform base f h in
      small_join most (counted keep held line Uniform base f) (Print r ∷ [])
      (counted_small most uniforms locals few fewer Uniform keep held line base f l h)
      (record { uniform = omega (arith, k); private = omega arith; numbers = tt }, tt)

  pub bounds_small : (keep held : Bool) (line free : ℕ) (f g : Formula) → line < 2 ^ 32 → free + 2 < most →
      IsFair most uniforms locals (behind_turns free) (Pair f g) → AreSmall most (bounds keep held line free f g)
  bounds_small keep held line free f g l b h =
      let base = behind_turns free in
      let first = counted keep held line Uniform base (Pair f g) in
      let x = first_at Uniform base f g in
      let y = second_at Uniform base f g in
      let second = Copy Uniform (turn free) x ∷ Copy Uniform (high free) y ∷ [] in
      let third = flush (still held (Pair f g)) in
      small_join most (first ++ second ++ third) (Decide Uniform truth.AtMost (more free) (turn free) (high free) ∷ [])
      (small_join most (first ++ second) third
      (small_join most first second (counted_small most uniforms locals few fewer Uniform keep held line base (Pair f g) l h) (
        copy_small most Uniform (turn free) x (omega (arith, b)) (first_below most uniforms locals few fewer Uniform base f g h),
        (
          copy_small most Uniform (high free) y (omega (arith, b)) (second_below most uniforms locals few fewer Uniform base f g h),
          tt,
        ),
      )) (flush_small most (still held (Pair f g)))) (
        decide_small most Uniform truth.AtMost (more free) (turn free) (high free) (omega (arith, b)) (omega (arith, b))
            (omega (arith, b)),
        tt,
      )

  pub setting_small : (keep : Bool) (line free x : ℕ) → line < 2 ^ 32 → free + 2 < most → x < uniforms →
      AreSmall most (setting keep line free x)
  setting_small keep line free x l b h =
      small_join most (begun keep false line)
      (Copy Uniform (variable x) (turn free) ∷ Decide Uniform truth.Less (more free) (turn free) (high free)
      ∷ Calculate Uniform arithmetic.Add (turn free) (turn free) (more free) 0 ∷ []) (begun_small most keep false line l) (
        copy_small most Uniform (variable x) (turn free) (omega (arith, h, few)) (omega (arith, b)),
        (
          decide_small most Uniform truth.Less (more free) (turn free) (high free) (omega (arith, b)) (omega (arith, b))
              (omega (arith, b)),
          (
            calculate_small most Uniform arithmetic.Add (turn free) (turn free) (more free) 0 (omega (arith, b)) (omega (arith, b))
                (omega (arith, b)) (omega arith),
            tt,
          ),
        ),
      )

  pub entered_small : (keep held : Bool) (line base : ℕ) (f g : Formula) → line < 2 ^ 32 → positions f + positions g + 1 < 2 ^ 32 →
      IsFair most uniforms locals base (Pair f g) → AreSmall most (entered keep held line base f g)
  entered_small keep held line base f g l m h =
      let x = first_at Uniform base f g in
      let y = second_at Uniform base f g in
      let i : x < most = first_below most uniforms locals few fewer Uniform base f g h in
      let k : y < most = second_below most uniforms locals few fewer Uniform base f g h in
      small_join most (counted keep held line Uniform base (Pair f g)) (Enter x y (positions f + positions g + 1) ∷ Index index ∷ [])
      (counted_small most uniforms locals few fewer Uniform keep held line base (Pair f g) l h) (
        record { uniform = omega (arith, i, k); private = omega arith; numbers = m },
        (record { uniform = omega arith; private = omega (arith, fewer); numbers = tt }, tt),
      )

  -- ---- inside pardo

  pub tested_small : (keep held : Bool) (line base : ℕ) (f : Formula) → line < 2 ^ 32 → IsFair most uniforms locals base f →
      AreSmall most (counted keep held line Private base f ++ Mask (value_at Private base f) ∷ [])
  tested_small keep held line base f l h =
      small_join most (counted keep held line Private base f) (Mask (value_at Private base f) ∷ [])
      (counted_small most uniforms locals few fewer Private keep held line base f l h)
      (mask_small most (value_at Private base f) (value_below most uniforms locals few fewer Private base f h), tt)

  pub flags_small : (keep : Bool) (line vote flag base : ℕ) (f : Formula) → line < 2 ^ 32 → vote < most → flag < most →
      IsFair most uniforms locals base f → AreSmall most (flags keep line vote flag base f)
  flags_small keep line vote flag base f l v b h =
      small_join most (counted keep false line Private base f)
      (Copy Private flag (value_at Private base f) ∷ Unmask ∷ Mask flag ∷ Vote vote ∷ [])
      (counted_small most uniforms locals few fewer Private keep false line base f l h) (
        copy_small most Private flag (value_at Private base f) b (value_below most uniforms locals few fewer Private base f h),
        (
          record { uniform = omega arith; private = omega arith; numbers = tt },
          (mask_small most flag b, (record { uniform = omega (arith, v); private = omega arith; numbers = tt }, tt)),
        ),
      )
