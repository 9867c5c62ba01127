-- Loops and branches, judged by their parts. Each jump has its state: under some masks, with nothing held.
use Rattle.std.proofs.Common.{◌≡◌, ℕ, ◌+◌, ◌<◌, List, [], ◌∷◌, ◌++◌, length, true, false, ◌&&◌, ◌||◌, Some, refl, sym, ap, ◌∙◌}
use Rattle.std.proofs.Common.{subst, arith}
use Rattle.std.proofs.Common.{inl, inr, append_assoc, length-append}
use Rattle.std.specs.Prelude.{nat_lt, slice_get}
use Rattle.std.proofs.lemmas.Bool.Decides.{nat_tests}
use Rattle.superstep_instructions.specs.declared.instr.Side.{Side}
use Rattle.superstep_instructions.specs.declared.instr.Instr.{Instr}
use Rattle.superstep_instructions.specs.declared.instr.Instr.TheVariants.{Mark, Jump, JumpIfZero}
use Rattle.superstep_instructions.specs.Code.{SuperstepCode}
use Rattle.bsp_verify.specs.declared.state.State.{State}
use Rattle.pram_model.proofs.Truths.{or_second}
use Rattle.bsp_verify.specs.Control.{IsReached}
use Rattle.bsp_verify.specs.Judging.{is_mark, is_target}
use Rattle.bsp_verify.specs.Stretches.{behind, scan_of, Stands, IsPlaced, IsStretch}
use Rattle.bsp_verify.proofs.StretchLemmas.{parts_stand, stretches_compose, stretches_leave}
use Rattle.plain_form.specs.Shapes.{looped, turned, chosen}
use Rattle.verified_form.proofs.Fitting.{resting, HasRegisters, Judged, found, scanned, scanned_behind, stands_as}

module _ (code : SuperstepCode) (all : HasRegisters code) (side : Side) (masks : ℕ) where
  abbrev here : State
  here = resting side masks false

  abbrev size : ℕ
  size = length code.instructions

  -- ---- jumps alone

  target_above : (at t : ℕ) → at < t → t < size → is_target code at t ≡ true
  target_above at t h l =
      let a : nat_lt t size ≡ true = grind (arith, nat_tests) in
      let b : nat_lt at t ≡ true = grind (arith, nat_tests) in
      ap (λ c. c && (nat_lt at t || is_mark (slice_get code.instructions t))) a
      ∙ ap (λ c. c || is_mark (slice_get code.instructions t)) b

  target_mark : (at t line : ℕ) → t < size → slice_get code.instructions t ≡ Some (Mark line) → is_target code at t ≡ true
  target_mark at t line l h =
      let a : nat_lt t size ≡ true = grind (arith, nat_tests) in
      ap (λ c. c && (nat_lt at t || is_mark (slice_get code.instructions t))) a
      ∙ or_second (nat_lt at t) (is_mark (slice_get code.instructions t)) (ap is_mark h)

  fork_placed : (at r t : ℕ) → slice_get code.instructions at ≡ Some (JumpIfZero r t) → at < t → t < size → scan_of code t ≡ here →
      IsPlaced code at (JumpIfZero r t) here
  fork_placed at r t is h l e = record {
    registers = all at (JumpIfZero r t) is;
    entry = refl;
    target = target_above at t h l;
    mode = refl;
    masks = refl;
    exchange = refl;
    joins = λ u j. ap (scan_of code) j ∙ e;
    followed = λ f n. cc;
  }

  fork_leads : (at r t : ℕ) → slice_get code.instructions at ≡ Some (JumpIfZero r t) → at < t → IsReached code t
  fork_leads at r t is h = inr (at, JumpIfZero r t, h, is, inl refl)

  jump_placed : (at t : ℕ) → is_target code at t ≡ true → scan_of code t ≡ here → IsReached code (at + 1) → IsPlaced code at (Jump t) here
  jump_placed at t h e reached = record {
    registers = refl;
    entry = refl;
    target = h;
    mode = refl;
    masks = refl;
    exchange = refl;
    joins = λ u j. ap (scan_of code) j ∙ e;
    followed = λ f n. reached;
  }

  -- what stands behind a stretch that leaves the state as it is
  stands_behind : (at : ℕ) (xs ys : List Instr) → Stands code at here (xs ++ ys) → IsStretch code at here xs here →
      Stands code (at + length xs) here ys
  stands_behind at xs ys h s =
      stands_as code (at + length xs) (at + length xs) (behind xs here) here ys refl (sym (stretches_leave code at here here xs s))
      ((parts_stand code).1 at here xs ys h).1

  first_stands : (at : ℕ) (xs ys : List Instr) → Stands code at here (xs ++ ys) → Stands code at here xs
  first_stands at xs ys h = ((parts_stand code).1 at here xs ys h).0

  -- behind such a stretch the state is the same
  scanned_end : (at : ℕ) (xs : List Instr) → Stands code at here xs → IsStretch code at here xs here → scan_of code (at + length xs) ≡ here
  scanned_end at xs h s = scanned_behind code at here xs h ∙ sym (stretches_leave code at here here xs s)

  -- ---- a loop from its head on

  module _ (head line r : ℕ) (more : List Instr) (body : ℕ → List Instr) where
    abbrev test : List Instr
    test = Mark line ∷ more

    abbrev start : ℕ
    start = head + length test + 1

    abbrev part : List Instr
    part = body start

    abbrev last : ℕ
    last = start + length part

    abbrev fork : Instr
    fork = JumpIfZero r (last + 1)

    abbrev whole : List Instr
    whole = test ++ (fork ∷ (part ++ (Jump head ∷ [])))

    looped_is : looped head test r body ≡ whole
    looped_is = append_assoc (test ++ fork ∷ []) part (Jump head ∷ []) ∙ append_assoc test (fork ∷ []) (part ++ (Jump head ∷ []))

    loop_judged : Judged code head here test here → Judged code start here part here → Judged code head here whole here
    loop_judged tests turns h l =
        let n1 = length-append test (fork ∷ (part ++ (Jump head ∷ []))) in
        let n2 = length-append part (Jump head ∷ []) in
        let test_stands = first_stands head test (fork ∷ (part ++ (Jump head ∷ []))) h in
        let test_stretch : IsStretch code head here test here = tests test_stands (omega (arith, l, n1, n2)) in
        let fork_stands = stands_behind head test (fork ∷ (part ++ (Jump head ∷ []))) h test_stretch in
        let fork_is = found code (head + length test) here fork (part ++ (Jump head ∷ [])) fork_stands in
        let rest_stands = ((parts_stand code).1 (head + length test) here (fork ∷ []) (part ++ (Jump head ∷ [])) fork_stands).1 in
        let part_stretch : IsStretch code start here part here =
        turns (first_stands start part (Jump head ∷ []) rest_stands) (omega (arith, l, n1, n2)) in
        let jump_stands = stands_behind start part (Jump head ∷ []) rest_stands part_stretch in
        let end_state : scan_of code (last + 1) ≡ here = scanned_behind code last here (Jump head ∷ []) jump_stands in
        let forked = fork_placed (head + length test) r (last + 1) fork_is (omega arith) (omega (arith, l, n1, n2)) end_state in
        let target = target_mark last head line (omega (arith, l, n1, n2)) (found code head here (Mark line) more test_stands) in
        let jumped = jump_placed last head target (scanned code head here test test_stands)
        (fork_leads (head + length test) r (last + 1) fork_is (omega arith)) in
        stretches_compose code head here here here test (fork ∷ (part ++ (Jump head ∷ []))) test_stretch
        (forked, stretches_compose code start here here here part (Jump head ∷ []) part_stretch (jumped, refl))

    pub looped_judged : Judged code head here test here → Judged code start here part here →
        Judged code head here (looped head test r body) here
    looped_judged tests turns =
        subst (λ (is : List Instr). Judged code head here is here) (sym looped_is) (loop_judged tests turns)

  -- ---- the turns of a `for`

  module _ (start line r : ℕ) (more : List Instr) (body : ℕ → List Instr) where
    abbrev head : ℕ
    head = start + 1

    abbrev set : List Instr
    set = Mark line ∷ more

    abbrev turns : List Instr
    turns = set ++ body (head + length set)

    abbrev end : ℕ
    end = head + length turns + 2

    pub turned_judged : Judged code head here turns here → Judged code start here (turned start r set body) here
    turned_judged judged h l =
        let fork = JumpIfZero r end in
        let tail = fork ∷ Jump head ∷ [] in
        let n = length-append turns tail in
        let fork_is = found code start here fork (turns ++ tail) h in
        let rest_stands = ((parts_stand code).1 start here (fork ∷ []) (turns ++ tail) h).1 in
        let turns_stand = first_stands head turns tail rest_stands in
        let turns_stretch : IsStretch code head here turns here = judged turns_stand (omega (arith, l, n)) in
        let tail_stands = stands_behind head turns tail rest_stands turns_stretch in
        let second_is = found code (head + length turns) here fork (Jump head ∷ []) tail_stands in
        let end_state : scan_of code end ≡ here = scanned_behind code (head + length turns) here tail tail_stands in
        let first = fork_placed start r end fork_is (omega arith) (omega (arith, l, n)) end_state in
        let second = fork_placed (head + length turns) r end second_is (omega arith) (omega (arith, l, n)) end_state in
        let target = target_mark (head + length turns + 1) head line (omega (arith, l, n))
        (found code head here (Mark line) (more ++ body (head + length set)) turns_stand) in
        let reached : IsReached code (head + length turns + 1 + 1) =
        subst (IsReached code) (let e : end ≡ head + length turns + 1 + 1 = omega arith in e)
        (fork_leads start r end fork_is (omega arith)) in
        let back = jump_placed (head + length turns + 1) head target (scanned code head here turns turns_stand) reached in
        (first, stretches_compose code head here here here turns tail turns_stretch (second, (back, refl)))

  -- ---- the parts of an `if`

  module _ (start r : ℕ) (part : List Instr) (other_part : ℕ → List Instr) where
    abbrev behind_part : ℕ
    behind_part = start + 1 + length part

    pub one_judged : Judged code (start + 1) here part here → Judged code start here (chosen start r part false other_part) here
    one_judged judged h l =
        let fork = JumpIfZero r behind_part in
        let part_stands = ((parts_stand code).1 start here (fork ∷ []) part h).1 in
        let part_stretch : IsStretch code (start + 1) here part here = judged part_stands (omega (arith, l)) in
        let forked = fork_placed start r behind_part (found code start here fork part h) (omega arith) (omega (arith, l))
        (scanned_end (start + 1) part part_stands part_stretch) in
        (forked, part_stretch)

    abbrev other : ℕ
    other = behind_part + 1

    pub two_judged : Judged code (start + 1) here part here → Judged code other here (other_part other) here →
        Judged code start here (chosen start r part true other_part) here
    two_judged judged other_judged h l =
        let second = other_part other in
        let fork = JumpIfZero r other in
        let jump = Jump (other + length second) in
        let n = length-append part (jump ∷ second) in
        let fork_is = found code start here fork (part ++ (jump ∷ second)) h in
        let rest_stands = ((parts_stand code).1 start here (fork ∷ []) (part ++ (jump ∷ second)) h).1 in
        let part_stretch : IsStretch code (start + 1) here part here =
        judged (first_stands (start + 1) part (jump ∷ second) rest_stands) (omega (arith, l, n)) in
        let jump_stands = stands_behind (start + 1) part (jump ∷ second) rest_stands part_stretch in
        let second_stands = ((parts_stand code).1 behind_part here (jump ∷ []) second jump_stands).1 in
        let second_stretch : IsStretch code other here second here = other_judged second_stands (omega (arith, l, n)) in
        let other_state : scan_of code other ≡ here = scanned code other here second second_stands in
        let forked = fork_placed start r other fork_is (omega arith) (omega (arith, l, n)) other_state in
        let jumped = jump_placed behind_part (other + length second)
        (target_above behind_part (other + length second) (omega arith) (omega (arith, l, n)))
        (scanned_end other second second_stands second_stretch) (fork_leads start r other fork_is (omega arith)) in
        (forked, stretches_compose code (start + 1) here here here part (jump ∷ second) part_stretch (jumped, second_stretch))
