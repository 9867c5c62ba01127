-- The straight parts of statements, judged.
use Rattle.std.proofs.Common.{◌≡◌, ℕ, ◌+◌, ◌-◌, ◌<◌, ◌≤◌, [], ◌∷◌, ◌++◌, length, Bool, true, false, not, ◌&&◌, refl, ap, arith, pos}
use Rattle.std.specs.Prelude.{nat_lt}
use Rattle.std.proofs.lemmas.Bool.Decides.{nat_tests}
use Rattle.superstep_instructions.specs.declared.instr.Side.{Side}
use Rattle.superstep_instructions.specs.declared.instr.Side.TheVariants.{Uniform, Private}
use Rattle.superstep_instructions.specs.declared.instr.Instr.TheVariants.{Set, Copy, Calculate, Decide, Index, Enter, Mask, Flip, Unmask}
use Rattle.superstep_instructions.specs.declared.instr.Instr.TheVariants.{Put}
use Rattle.superstep_instructions.specs.declared.instr.Instr.TheVariants.{Send, Vote, Print}
use Rattle.superstep_instructions.specs.declared.instr.Arithmetic.TheVariants as arithmetic
use Rattle.superstep_instructions.specs.declared.instr.Truth.TheVariants as truth
use Rattle.superstep_instructions.specs.Code.{SuperstepCode}
use Rattle.plain_form.specs.Registers.{turn, high, more, variable, behind_turns, index}
use Rattle.plain_form.specs.Formulas.{Formula, Pair, reads, positions}
use Rattle.plain_form.specs.Groups.{evaluated, value_at, first_at, second_at}
use Rattle.plain_form.specs.Shapes.{flush, has_reads, still, waits, begun, counted, gets, writes, prints, bounds, setting, entered}
use Rattle.plain_form.specs.Shapes.{flagged, flags}
use Rattle.verified_form.proofs.Fitting.{resting, has_own_side, acts_on_own_side, IsFit, Fits, fits_join, fits_to}
use Rattle.verified_form.proofs.FormulaFits.{IsWithin, evaluated_fits}
use Rattle.verified_form.proofs.Held.{waited}

-- a formula whose reads are declared, and at most eight
pub record IsReady (entries : ℕ) (f : Formula) : Type 0 where
  pub within : IsWithin entries f
  pub few : reads f ≤ 8

module _ (code : SuperstepCode) (side : Side) (masks : ℕ) where
  same_held : (a b : Bool) → a ≡ b → resting side masks a ≡ resting side masks b
  same_held a b e = ap (λ (h : Bool). resting side masks h) e

  send_fits : (held : Bool) → IsFit code Send (resting side masks held)
  send_fits held = record { along = refl; entry = refl; mode = refl; masks = refl; exchange = refl }

  -- behind a flush no write is held
  pub flush_fits : (held : Bool) → Fits code (resting side masks held) (flush held) (resting side masks false)
  flush_fits true = (send_fits true, refl)
  flush_fits false = refl

  pub begun_fits : (keep held : Bool) (line : ℕ) → Fits code (resting side masks held) (begun keep held line) (resting side masks held)
  begun_fits true true line = (record { along = refl; entry = refl; mode = refl; masks = refl; exchange = refl }, refl)
  begun_fits true false line =
      (record { along = refl; entry = refl; mode = refl; masks = refl; exchange = refl }, (send_fits false, refl))
  begun_fits false true line = (record { along = refl; entry = refl; mode = refl; masks = refl; exchange = refl }, refl)
  begun_fits false false line = (record { along = refl; entry = refl; mode = refl; masks = refl; exchange = refl }, refl)

  pub counted_fits : (keep held : Bool) (line base : ℕ) (f : Formula) → IsReady (length code.layout) f →
      Fits code (resting side masks held) (counted keep held line side base f) (resting side masks (still held f))
  counted_fits keep held line base f r =
      fits_join code (resting side masks held) (resting side masks held) (resting side masks (still held f)) (begun keep held line)
      (evaluated side base f) (begun_fits keep held line) (evaluated_fits code side masks held base f r.within r.few)

  copy_fits : (held : Bool) (d x : ℕ) → IsFit code (Copy side d x) (resting side masks held)
  copy_fits held d x = record { along = refl; entry = refl; mode = has_own_side side masks 0 held; masks = refl; exchange = refl }

  pub gets_fits : (keep held : Bool) (line base : ℕ) (f : Formula) (d : ℕ) → IsReady (length code.layout) f →
      Fits code (resting side masks held) (gets keep held line side base f d) (resting side masks (still held f))
  gets_fits keep held line base f d r =
      let after = resting side masks (still held f) in
      fits_join code (resting side masks held) after after (counted keep held line side base f) (Copy side d (value_at side base f) ∷ [])
      (counted_fits keep held line base f r) (copy_fits (still held f) d (value_at side base f), refl)

  -- a write that can't wait for reads is sent
  unwaited_fits : (held some : Bool) → Fits code (resting side masks held) (flush (held && not some)) (resting side masks (held && some))
  unwaited_fits true true = refl
  unwaited_fits true false = (send_fits true, refl)
  unwaited_fits false true = refl
  unwaited_fits false false = refl

  put_fits : (a x y q : ℕ) → a < length code.layout → IsFit code (Put side a x y q) (resting side masks false)
  put_fits a x y q h = record {
    along = refl;
    entry = (let e : nat_lt a (length code.layout) ≡ true = grind (arith, nat_tests) in e);
    mode = acts_on_own_side side masks 0 false;
    masks = refl;
    exchange = refl;
  }

  pub writes_fits : (keep held : Bool) (line base a : ℕ) (f g : Formula) → a < length code.layout →
      IsReady (length code.layout) (Pair f g) →
      Fits code (resting side masks held) (writes keep held line side base a f g) (resting side masks true)
  writes_fits keep held line base a f g h r =
      let start = resting side masks held in
      let waiting = resting side masks (waits held (Pair f g)) in
      let bare = resting side masks false in
      let first = flush (still held (Pair f g)) in
      let second = counted keep (waits held (Pair f g)) line side base (Pair f g) in
      let q = positions f + positions g + 1 in
      let put = Put side a (first_at side base f g) (second_at side base f g) q in
      fits_join code start bare (resting side masks true) (first ++ second) (put ∷ [])
      (fits_join code start waiting bare first second (unwaited_fits held (has_reads (Pair f g)))
      (fits_to code waiting (resting side masks (still (waits held (Pair f g)) (Pair f g))) bare second
      (same_held (still (waits held (Pair f g)) (Pair f g)) false (waited held (has_reads (Pair f g))))
      (counted_fits keep (waits held (Pair f g)) line base (Pair f g) r)))
      (put_fits a (first_at side base f g) (second_at side base f g) q h, refl)

-- ---- outside pardo

module _ (code : SuperstepCode) where
  pub prints_fit : (keep held : Bool) (line base : ℕ) (f : Formula) → IsReady (length code.layout) f →
      Fits code (resting Uniform 0 held) (prints keep held line base f) (resting Uniform 0 (still held f))
  prints_fit keep held line base f r =
      let after = resting Uniform 0 (still held f) in
      fits_join code (resting Uniform 0 held) after after (counted keep held line Uniform base f) (Print (value_at Uniform base f) ∷ [])
      (counted_fits code Uniform 0 keep held line base f r)
      (record { along = refl; entry = refl; mode = refl; masks = refl; exchange = refl }, refl)

  pub bounds_fit : (keep held : Bool) (line free : ℕ) (f g : Formula) → IsReady (length code.layout) (Pair f g) →
      Fits code (resting Uniform 0 held) (bounds keep held line free f g) (resting Uniform 0 false)
  bounds_fit keep held line free f g r =
      let start = resting Uniform 0 held in
      let after = resting Uniform 0 (still held (Pair f g)) in
      let bare = resting Uniform 0 false in
      let base = behind_turns free in
      let first = counted keep held line Uniform base (Pair f g) in
      let x = first_at Uniform base f g in
      let y = second_at Uniform base f g in
      let second = Copy Uniform (turn free) x ∷ Copy Uniform (high free) y ∷ [] in
      let third = flush (still held (Pair f g)) in
      fits_join code start bare bare (first ++ second ++ third) (Decide Uniform truth.AtMost (more free) (turn free) (high free) ∷ [])
      (fits_join code start after bare (first ++ second) third
      (fits_join code start after after first second (counted_fits code Uniform 0 keep held line base (Pair f g) r) (
        copy_fits code Uniform 0 (still held (Pair f g)) (turn free) x,
        (
          copy_fits code Uniform 0 (still held (Pair f g))
              (high free) y,
          refl,
        ),
      ))
      (flush_fits code Uniform 0 (still held (Pair f g))))
      (record { along = refl; entry = refl; mode = refl; masks = refl; exchange = refl }, refl)

  pub setting_fits : (keep : Bool) (line free x : ℕ) →
      Fits code (resting Uniform 0 false) (setting keep line free x) (resting Uniform 0 false)
  setting_fits keep line free x =
      let bare = resting Uniform 0 false in
      fits_join code bare bare bare (begun keep false line)
      (Copy Uniform (variable x) (turn free) ∷ Decide Uniform truth.Less (more free) (turn free) (high free)
      ∷ Calculate Uniform arithmetic.Add (turn free) (turn free) (more free) 0 ∷ [])
      (begun_fits code Uniform 0 keep false line) (
        copy_fits code Uniform 0 false (variable x) (turn free),
        (
          record { along = refl; entry = refl; mode = refl; masks = refl; exchange = refl },
          (record { along = refl; entry = refl; mode = refl; masks = refl; exchange = refl }, refl),
        ),
      )

  -- a range begins, under no mask
  pub entered_fits : (keep held : Bool) (line base : ℕ) (f g : Formula) → IsReady (length code.layout) (Pair f g) →
      Fits code (resting Uniform 0 held) (entered keep held line base f g) (resting Private 0 (still held (Pair f g)))
  entered_fits keep held line base f g r =
      fits_join code (resting Uniform 0 held) (resting Uniform 0 (still held (Pair f g))) (resting Private 0 (still held (Pair f g)))
      (counted keep held line Uniform base (Pair f g))
      (Enter (first_at Uniform base f g) (second_at Uniform base f g) (positions f + positions g + 1) ∷ Index index ∷ [])
      (counted_fits code Uniform 0 keep held line base (Pair f g) r) (
        record { along = refl; entry = refl; mode = refl; masks = refl; exchange = refl },
        (record { along = refl; entry = refl; mode = refl; masks = refl; exchange = refl }, refl),
      )

-- ---- inside pardo

module _ (code : SuperstepCode) (masks : ℕ) where
  pub mask_fits : (held : Bool) (x : ℕ) → masks < 64 → IsFit code (Mask x) (resting Private masks held)
  mask_fits held x h = record {
    along = refl;
    entry = refl;
    mode = refl;
    masks = (let e : nat_lt masks 64 ≡ true = grind (arith, nat_tests) in e);
    exchange = refl;
  }

  pub unmask_fits : (held : Bool) → 0 < masks → IsFit code Unmask (resting Private masks held)
  unmask_fits held h = record {
    along = refl;
    entry = refl;
    mode = refl;
    masks = (let e : nat_lt 0 masks ≡ true = grind (arith, nat_tests) in e);
    exchange = refl;
  }

  pub flip_fits : (held : Bool) → 0 < masks → IsFit code Flip (resting Private masks held)
  flip_fits held h = record {
    along = refl;
    entry = refl;
    mode = refl;
    masks = (let e : nat_lt 0 masks ≡ true = grind (arith, nat_tests) in e);
    exchange = refl;
  }

  -- the test of an `if`, and its mask
  pub tested_fits : (keep held : Bool) (line base : ℕ) (f : Formula) → masks < 64 → IsReady (length code.layout) f →
      Fits code (resting Private masks held) (counted keep held line Private base f ++ Mask (value_at Private base f) ∷ [])
      (resting Private (masks + 1) (still held f))
  tested_fits keep held line base f h r =
      fits_join code (resting Private masks held) (resting Private masks (still held f)) (resting Private (masks + 1) (still held f))
      (counted keep held line Private base f) (Mask (value_at Private base f) ∷ [])
      (counted_fits code Private masks keep held line base f r)
      (mask_fits (still held f) (value_at Private base f) h, refl)

  pub flagged_fits : (held : Bool) (flag : ℕ) → masks < 64 →
      Fits code (resting Private masks held) (flagged held flag) (resting Private (masks + 1) false)
  flagged_fits held flag h =
      fits_join code (resting Private masks held) (resting Private masks false) (resting Private (masks + 1) false) (flush held)
      (Set Private flag (pos 1) ∷ Mask flag ∷ []) (flush_fits code Private masks held)
      (record { along = refl; entry = refl; mode = refl; masks = refl; exchange = refl }, (mask_fits false flag h, refl))

module _ (code : SuperstepCode) (masks : ℕ) where
  pub back : (held : Bool) → resting Private (masks + 1 - 1) held ≡ resting Private masks held
  back held = ap (λ (k : ℕ). resting Private k held) (let e : masks + 1 - 1 ≡ masks = omega arith in e)

  pub flags_fit : (keep : Bool) (line vote flag base : ℕ) (f : Formula) → masks < 64 → IsReady (length code.layout) f →
      Fits code (resting Private (masks + 1) false) (flags keep line vote flag base f) (resting Private (masks + 1) false)
  flags_fit keep line vote flag base f h r =
      let start = resting Private (masks + 1) false in
      fits_join code start start start (counted keep false line Private base f)
      (Copy Private flag (value_at Private base f) ∷ Unmask ∷ Mask flag ∷ Vote vote ∷ [])
      (counted_fits code Private (masks + 1) keep false line base f r) (
        copy_fits code Private (masks + 1) false flag (value_at Private base f),
        (
          unmask_fits code (masks + 1) false (omega arith),
          (
            mask_fits code (masks + 1 - 1) false flag (omega (arith, h)),
            (
              record { along = refl; entry = refl; mode = refl; masks = refl; exchange = refl },
              ap (λ (k : ℕ). resting Private k false) (let e : masks + 1 - 1 + 1 ≡ masks + 1 = omega arith in e),
            ),
          ),
        ),
      )
