-- The code of statements inside pardo, judged where it stands.
use Rattle.std.proofs.Common.{ℕ, ◌+◌, ◌<◌, ◌≤◌, List, [], ◌∷◌, ◌++◌, length, Bool, false, not, ◌&&◌, Option, refl, arith}
use Rattle.superstep_instructions.specs.declared.instr.Side.TheVariants.{Private}
use Rattle.superstep_instructions.specs.declared.instr.Instr.{Instr}
use Rattle.superstep_instructions.specs.declared.instr.Instr.TheVariants.{Copy, Mask, Flip, Unmask, Send, Vote}
use Rattle.superstep_instructions.specs.Code.{SuperstepCode}
use Rattle.pram_names.specs.declared.body.StepTarget.{StepTarget}
use Rattle.pram_names.specs.declared.body.StepTarget.TheVariants as inner
use Rattle.pram_names.specs.declared.body.Expression.{Expression}
use Rattle.pram_names.specs.declared.body.Step as step
use Rattle.pram_names.specs.declared.body.Step.{Step, Row_of-Step, end_of-Step, more_of-Step}
use Rattle.pram_check.specs.Bounded.{Names, IsInnerAssign, IsStep, ArePartSteps, AreSteps, step_depth, part_step_depth, steps_depth}
use Rattle.plain_form.specs.Registers.{local}
use Rattle.plain_form.specs.Formulas.{Formula, Zero, formula_of}
use Rattle.plain_form.specs.Groups.{only, evaluated, value_at}
use Rattle.plain_form.specs.Shapes.{flush, still, counted, sent, flipped, inner_if_code, flagged, flags, looped, inner_while_code}
use Rattle.plain_form.specs.Inside.{Frame, inner_assign, inner_assign_left, step_code, step_left, part_code, part_left, steps_code}
use Rattle.plain_form.specs.Inside.{steps_left, has_part}
use Rattle.verified_form.proofs.Fitting.{resting, Fits, HasRegisters, Judged, judged_fits, judged_join}
use Rattle.verified_form.proofs.ShapeFits.{IsReady, flush_fits, gets_fits, writes_fits, flip_fits, unmask_fits, tested_fits, flagged_fits}
use Rattle.verified_form.proofs.ShapeFits.{flags_fit, back}
use Rattle.verified_form.proofs.Jumps.{looped_judged}
use Rattle.verified_form.proofs.Ready.{scope, single_below, array_below, sole_ready, cell_ready, pair_ready}

module _ (code : SuperstepCode) (all : HasRegisters code) (uniforms : ℕ) (locals : Option ℕ) where
  abbrev names : Names
  names = scope code uniforms locals

  assign_fits : (w : Frame) (masks line base : ℕ) (held : Bool) (x : StepTarget) (e : Expression) → IsInnerAssign names x e →
      Fits code (resting Private masks held) (inner_assign w held line base x (formula_of e))
      (resting Private masks (inner_assign_left held x (formula_of e)))
  assign_fits w masks line base held (inner.Local x) e h =
      gets_fits code Private masks w.keep held line base (formula_of e) (local x) (sole_ready names e h.1)
  assign_fits w masks line base held (inner.Cell a) e h =
      writes_fits code Private masks w.keep held line base a Zero (formula_of e) (single_below names a h.0) (cell_ready names e h.1)
  assign_fits w masks line base held (inner.Element a i) e h =
      writes_fits code Private masks w.keep held line base a (formula_of i) (formula_of e) (array_below names a h.0)
      (pair_ready names i e h.1)

  -- ---- an `if`, by its parts

  unmask_judged : (at masks : ℕ) (held : Bool) →
      Judged code at (resting Private (masks + 1) held) (Unmask ∷ []) (resting Private masks held)
  unmask_judged at masks held =
      judged_fits code all at (resting Private (masks + 1) held) (resting Private masks held) (Unmask ∷ [])
      (unmask_fits code (masks + 1) held (omega arith), back code masks held)

  flip_judged : (at masks : ℕ) (held : Bool) →
      Judged code at (resting Private (masks + 1) held) (Flip ∷ []) (resting Private (masks + 1) held)
  flip_judged at masks held =
      let s = resting Private (masks + 1) held in
      judged_fits code all at s s (Flip ∷ [])
      (flip_fits code (masks + 1) held (omega arith), refl)

  module _ (keep held : Bool) (start line base masks : ℕ) (f : Formula) (first second : ℕ → List Instr) (some between behind : Bool) where
    abbrev test : List Instr
    test = counted keep held line Private base f ++ Mask (value_at Private base f) ∷ []

    abbrev before : List Instr
    before = test ++ first (start + length test)

    inner_if_judged : masks < 64 → IsReady (length code.layout) f →
        Judged code (start + length test) (resting Private (masks + 1) (still held f)) (first (start + length test))
        (resting Private (masks + 1) between) →
        Judged code (start + length before) (resting Private (masks + 1) between) (flipped some (start + length before) second)
        (resting Private (masks + 1) behind) →
        Judged code start (resting Private masks held) (inner_if_code keep held start line base f first some second)
        (resting Private masks behind)
    inner_if_judged few ready thens elses =
        let s = resting Private masks held in
        let a = resting Private (masks + 1) (still held f) in
        let b = resting Private (masks + 1) between in
        let c = resting Private (masks + 1) behind in
        let other = flipped some (start + length before) second in
        judged_join code start s c (resting Private masks behind) (before ++ other) (Unmask ∷ [])
        (judged_join code start s b c before other
        (judged_join code start s a b test (first (start + length test))
        (judged_fits code all start s a test (tested_fits code masks keep held line base f few ready)) thens) elses)
        (unmask_judged (start + length (before ++ other)) masks behind)

  -- ---- a part with the send of what it holds

  pub sent_judged : (at masks : ℕ) (left : Bool) (part : List Instr) →
      Judged code at (resting Private masks false) part (resting Private masks left) →
      Judged code at (resting Private masks false) (sent part left) (resting Private masks false)
  sent_judged at masks left part h =
      let bare = resting Private masks false in
      let held = resting Private masks left in
      judged_join code at bare held bare part (flush left) h
      (judged_fits code all (at + length part) held bare (flush left) (flush_fits code Private masks left))

  -- ---- a `while`, by its body

  module _ (keep held : Bool) (start line vote flag base masks : ℕ) (f : Formula) (body : ℕ → List Instr) where
    abbrev head : ℕ
    head = start + length (flagged held flag)

    abbrev more : List Instr
    more =
        (only (keep && not false) (Send ∷ []) ++ evaluated Private base f)
        ++ Copy Private flag (value_at Private base f) ∷ Unmask ∷ Mask flag ∷ Vote vote ∷ []

    abbrev turn : ℕ
    turn = head + length (flags keep line vote flag base f) + 1

    inner_while_judged : masks < 64 → IsReady (length code.layout) f →
        Judged code turn (resting Private (masks + 1) false) (body turn) (resting Private (masks + 1) false) →
        Judged code start (resting Private masks held) (inner_while_code keep held start line vote flag base f body)
        (resting Private masks false)
    inner_while_judged few ready turns =
        let s = resting Private masks held in
        let a = resting Private (masks + 1) false in
        let before = flagged held flag in
        let loop = looped head (flags keep line vote flag base f) vote body in
        judged_join code start s a (resting Private masks false) (before ++ loop) (Unmask ∷ [])
        (judged_join code start s a a before loop (judged_fits code all start s a before (flagged_fits code masks held flag few))
        (looped_judged code all Private (masks + 1) head line vote more body
        (judged_fits code all head a a (flags keep line vote flag base f)
        (flags_fit code masks keep line vote flag base f few ready)) turns))
        (unmask_judged (start + length (before ++ loop)) masks false)

  -- ---- all statements

  -- an else part, if there is one
  other_judged : (w : Frame) (base start masks : ℕ) (held : Bool) {k : _} (ss : Row_of-Step k) →
      ((n : ℕ) →
      Judged code n (resting Private (masks + 1) held) (part_code w base n held ss) (resting Private (masks + 1) (part_left held ss))) →
      Judged code start (resting Private (masks + 1) held) (flipped (has_part ss) start (λ n. part_code w base n held ss))
      (resting Private (masks + 1) (part_left held ss))
  other_judged w base start masks held end_of-Step part =
      judged_fits code all start (resting Private (masks + 1) held) (resting Private (masks + 1) held) [] refl
  other_judged w base start masks held (more_of-Step s ss) part =
      let b = resting Private (masks + 1) held in
      let c = resting Private (masks + 1) (part_left held (more_of-Step s ss)) in
      judged_join code start b b c (Flip ∷ []) (part_code w base (start + 1) held (more_of-Step s ss)) (flip_judged start masks held)
      (part (start + 1))

  mutual
    pub step_judged : (w : Frame) (base start masks : ℕ) (held : Bool) (s : Step) → IsStep names s → masks + step_depth s ≤ 64 →
        Judged code start (resting Private masks held) (step_code w base start held s) (resting Private masks (step_left held s))
    step_judged w base start masks held (step.Assign here x e) h d =
        judged_fits code all start (resting Private masks held) (resting Private masks (inner_assign_left held x (formula_of e)))
        (inner_assign w held here.line base x (formula_of e)) (assign_fits w masks here.line base held x e h)
    step_judged w base start masks held (step.If' here e q a r b) h d =
        let f = formula_of e in
        let one = λ (n : ℕ). part_code w base n (still held f) a in
        let two = λ (n : ℕ). part_code w base n (part_left (still held f) a) b in
        inner_if_judged w.keep held start here.line base masks f one two (has_part b) (part_left (still held f) a)
        (part_left (part_left (still held f) a) b) (omega (arith, d)) (sole_ready names e h.0)
        (part_judged w base (start + length (test w.keep held start here.line base masks f one two (has_part b) false false)) (masks + 1)
        (still held f) a h.1 (omega (arith, d)))
        (other_judged w base (start + length (before w.keep held start here.line base masks f one two (has_part b) false false)) masks
        (part_left (still held f) a) b
        (λ n. part_judged w base n (masks + 1) (part_left (still held f) a) b h.2 (omega (arith, d))))
    step_judged w base start masks held (step.While' here e q a) h d =
        let f = formula_of e in
        let part = λ (n : ℕ). part_code w (base + 1) n false a in
        let at = turn w.keep held start here.line w.vote base (base + 1) masks f (λ n. sent (part n) (part_left false a)) in
        inner_while_judged w.keep held start here.line w.vote base (base + 1) masks f (λ n. sent (part n) (part_left false a))
        (omega (arith, d))
        (sole_ready names e h.0)
        (sent_judged at (masks + 1) (part_left false a) (part at) (part_judged w (base + 1) at (masks + 1) false a h.1 (omega (arith, d))))

    pub part_judged : (w : Frame) (base start masks : ℕ) (held : Bool) {k : _} (ss : Row_of-Step k) → ArePartSteps names ss →
        masks + part_step_depth ss ≤ 64 →
        Judged code start (resting Private masks held) (part_code w base start held ss) (resting Private masks (part_left held ss))
    part_judged w base start masks held end_of-Step h d =
        judged_fits code all start (resting Private masks held) (resting Private masks held) [] refl
    part_judged w base start masks held (more_of-Step s ss) h d =
        let first = step_code w base start held s in
        judged_join code start (resting Private masks held) (resting Private masks (step_left held s))
        (resting Private masks (part_left (step_left held s) ss)) first (part_code w base (start + length first) (step_left held s) ss)
        (step_judged w base start masks held s h.0 (omega (arith, d)))
        (part_judged w base (start + length first) masks (step_left held s) ss h.1 (omega (arith, d)))

  pub steps_judged : (w : Frame) (base start masks : ℕ) (held : Bool) (ss : List Step) → AreSteps names ss → masks + steps_depth ss ≤ 64 →
      Judged code start (resting Private masks held) (steps_code w base start held ss) (resting Private masks (steps_left held ss))
  steps_judged w base start masks held [] h d =
      judged_fits code all start (resting Private masks held) (resting Private masks held) [] refl
  steps_judged w base start masks held (s ∷ ss) h d =
      let first = step_code w base start held s in
      judged_join code start (resting Private masks held) (resting Private masks (step_left held s))
      (resting Private masks (steps_left (step_left held s) ss)) first (steps_code w base (start + length first) (step_left held s) ss)
      (step_judged w base start masks held s h.0 (omega (arith, d)))
      (steps_judged w base (start + length first) masks (step_left held s) ss h.1 (omega (arith, d)))
