-- The code of statements outside pardo, judged where it stands.
use Rattle.std.proofs.Common.{ℕ, ◌+◌, ◌≤◌, List, [], ◌∷◌, ◌++◌, length, Bool, false, not, ◌&&◌, None, Some, refl, arith}
use Rattle.superstep_instructions.specs.declared.instr.Side.TheVariants.{Uniform, Private}
use Rattle.superstep_instructions.specs.declared.instr.Arithmetic.TheVariants as arithmetic
use Rattle.superstep_instructions.specs.declared.instr.Truth.TheVariants as truth
use Rattle.superstep_instructions.specs.declared.instr.Instr.{Instr}
use Rattle.superstep_instructions.specs.declared.instr.Instr.TheVariants.{Copy, Calculate, Decide, Leave, Send}
use Rattle.superstep_instructions.specs.Code.{SuperstepCode}
use Rattle.pram_names.specs.declared.body.Target.{Target}
use Rattle.pram_names.specs.declared.body.Target.TheVariants as target
use Rattle.pram_names.specs.declared.body.Expression.{Expression}
use Rattle.pram_names.specs.declared.body.Statement.{Statement, Assign, Print, While', If', For', Pardo, Row_of-Statement, end_of-Statement}
use Rattle.pram_names.specs.declared.body.Statement.{more_of-Statement}
use Rattle.pram_check.specs.Bounded.{Names, IsAssign, IsStatement, ArePartStatements, AreStatements, depth, part_depth, body_depth}
use Rattle.plain_form.specs.Registers.{variable, turn, high, more, behind_turns, behind_locals}
use Rattle.plain_form.specs.Formulas.{Formula, Zero, Pair, formula_of}
use Rattle.plain_form.specs.Groups.{only, evaluated, value_at}
use Rattle.plain_form.specs.Shapes.{flush, still, counted, prints, sent, chosen, if_code, looped, while_code, bounds, setting, turned}
use Rattle.plain_form.specs.Shapes.{for_code}
use Rattle.plain_form.specs.Shapes.{entered, pardo_code}
use Rattle.plain_form.specs.Inside.{Frame, steps_code, steps_left}
use Rattle.plain_form.specs.Outside as outside
use Rattle.plain_form.specs.Outside.{assign, assign_left, part_code, part_left, statements_code, statements_left, has_part}
use Rattle.bsp_verify.specs.declared.state.State.{State}
use Rattle.verified_form.proofs.Fitting.{resting, Fits, HasRegisters, Judged, fits_join, judged_fits, judged_join}
use Rattle.verified_form.proofs.ShapeFits.{IsReady, flush_fits, counted_fits, gets_fits, writes_fits, prints_fit, bounds_fit, setting_fits}
use Rattle.verified_form.proofs.ShapeFits.{entered_fits}
use Rattle.verified_form.proofs.Jumps.{looped_judged, turned_judged, one_judged, two_judged}
use Rattle.verified_form.proofs.Ready.{scope, single_below, array_below, sole_ready, cell_ready, pair_ready}
use Rattle.verified_form.proofs.StepsFormed.{steps_judged}

module _ (code : SuperstepCode) (all : HasRegisters code) (uniforms : ℕ) where
  -- no write is held
  abbrev bare : State
  bare = resting Uniform 0 false

  abbrev names : Names
  names = scope code uniforms None

  assign_fits : (keep : Bool) (line free : ℕ) (held : Bool) (x : Target) (e : Expression) → IsAssign names x e →
      Fits code (resting Uniform 0 held) (assign keep held line free x (formula_of e))
      (resting Uniform 0 (assign_left held x (formula_of e)))
  assign_fits keep line free held (target.Uniform x) e h =
      gets_fits code Uniform 0 keep held line free (formula_of e) (variable x) (sole_ready names e h.1)
  assign_fits keep line free held (target.Cell a) e h =
      writes_fits code Uniform 0 keep held line free a Zero (formula_of e) (single_below names a h.0)
      (cell_ready names e h.1)
  assign_fits keep line free held (target.Element a i) e h =
      writes_fits code Uniform 0 keep held line free a (formula_of i) (formula_of e) (array_below names a h.0)
      (pair_ready names i e h.1)

  -- ---- statements by their parts

  module _ (keep held : Bool) (start line free : ℕ) (f : Formula) (body : ℕ → List Instr) where
    abbrev loop_head : ℕ
    loop_head = start + length (flush held)

    abbrev loop_turn : ℕ
    loop_turn = loop_head + length (counted keep false line Uniform free f) + 1

    while_judged : IsReady (length code.layout) f → Judged code loop_turn bare (body loop_turn) bare →
        Judged code start (resting Uniform 0 held) (while_code keep held start line free f body) bare
    while_judged ready turns =
        let test = counted keep false line Uniform free f in
        judged_join code start (resting Uniform 0 held) bare bare (flush held) (looped loop_head test (value_at Uniform free f) body)
        (judged_fits code all start (resting Uniform 0 held) bare (flush held) (flush_fits code Uniform 0 held))
        (looped_judged code all Uniform 0 loop_head line (value_at Uniform free f)
        (only (keep && not false) (Send ∷ []) ++ evaluated Uniform free f) body
        (judged_fits code all loop_head bare bare test (counted_fits code Uniform 0 keep false line free f ready)) turns)

  module _ (keep held : Bool) (start line free : ℕ) (f : Formula) (first : ℕ → List Instr) (some : Bool) (second : ℕ → List Instr) where
    abbrev test : List Instr
    test = counted keep held line Uniform free f ++ flush (still held f)

    abbrev fork_place : ℕ
    fork_place = start + length test

    if_judged : IsReady (length code.layout) f →
        Judged code fork_place bare (chosen fork_place (value_at Uniform free f) (first (fork_place + 1)) some second) bare →
        Judged code start (resting Uniform 0 held) (if_code keep held start line free f first some second) bare
    if_judged ready parts =
        let s = resting Uniform 0 held in
        let a = resting Uniform 0 (still held f) in
        judged_join code start s bare bare test (chosen fork_place (value_at Uniform free f) (first (fork_place + 1)) some second)
        (judged_fits code all start s bare test
        (fits_join code s a bare (counted keep held line Uniform free f) (flush (still held f))
        (counted_fits code Uniform 0 keep held line free f ready) (flush_fits code Uniform 0 (still held f)))) parts

  module _ (keep held : Bool) (start line free x : ℕ) (f g : Formula) (body : ℕ → List Instr) where
    abbrev turned_from : ℕ
    turned_from = start + length (bounds keep held line free f g)

    abbrev turn_place : ℕ
    turn_place = turned_from + 1 + length (setting keep line free x)

    for_judged : IsReady (length code.layout) (Pair f g) → Judged code turn_place bare (body turn_place) bare →
        Judged code start (resting Uniform 0 held) (for_code keep held start line free x f g body) bare
    for_judged ready turns =
        let s = resting Uniform 0 held in
        let first = bounds keep held line free f g in
        let set = setting keep line free x in
        let settings = Copy Uniform (variable x) (turn free) ∷ Decide Uniform truth.Less (more free) (turn free) (high free)
        ∷ Calculate Uniform arithmetic.Add (turn free) (turn free) (more free) 0 ∷ [] in
        judged_join code start s bare bare first (turned turned_from (more free) set body)
        (judged_fits code all start s bare first (bounds_fit code keep held line free f g ready))
        (turned_judged code all Uniform 0 turned_from line (more free) (only (keep && not false) (Send ∷ []) ++ settings) body
        (judged_join code (turned_from + 1) bare bare bare set (body turn_place)
        (judged_fits code all (turned_from + 1) bare bare set (setting_fits code keep line free x)) turns))

  module _ (keep held : Bool) (start line base : ℕ) (f g : Formula) (body : ℕ → List Instr) (behind : Bool) where
    abbrev range_place : ℕ
    range_place = start + length (entered keep held line base f g)

    pardo_judged : IsReady (length code.layout) (Pair f g) →
        Judged code range_place (resting Private 0 (still held (Pair f g))) (body range_place) (resting Private 0 behind) →
        Judged code start (resting Uniform 0 held) (pardo_code keep held start line base f g body) (resting Uniform 0 behind)
    pardo_judged ready steps =
        let s = resting Uniform 0 held in
        let a = resting Private 0 (still held (Pair f g)) in
        let b = resting Private 0 behind in
        let before = entered keep held line base f g in
        judged_join code start s b (resting Uniform 0 behind) (before ++ body range_place) (Leave ∷ [])
        (judged_join code start s a b before (body range_place)
        (judged_fits code all start s a before (entered_fits code keep held line base f g ready)) steps)
        (judged_fits code all (start + length (before ++ body range_place)) b (resting Uniform 0 behind) (Leave ∷ [])
        (record { along = refl; entry = refl; mode = refl; masks = refl; exchange = refl }, refl))

  -- ---- all statements

  sent_part_judged : (keep : Bool) (free at : ℕ) {k : _} (ss : Row_of-Statement k) →
      Judged code at bare (part_code keep free at false ss) (resting Uniform 0 (part_left false ss)) →
      Judged code at bare (sent (part_code keep free at false ss) (part_left false ss)) bare
  sent_part_judged keep free at ss h =
      let left = part_left false ss in
      judged_join code at bare (resting Uniform 0 left) bare (part_code keep free at false ss) (flush left) h
      (judged_fits code all (at + length (part_code keep free at false ss)) (resting Uniform 0 left) bare (flush left)
      (flush_fits code Uniform 0 left))

  -- the parts of an `if`, of which the second may be missing
  parts_judged : (keep : Bool) (start r free : ℕ) (first : List Instr) {k : _} (ss : Row_of-Statement k) →
      Judged code (start + 1) bare first bare →
      ((n : ℕ) → Judged code n bare (sent (part_code keep free n false ss) (part_left false ss)) bare) →
      Judged code start bare
      (chosen start r first (has_part ss) (λ n. sent (part_code keep free n false ss) (part_left false ss))) bare
  parts_judged keep start r free first end_of-Statement one two =
      one_judged code all Uniform 0 start r first (λ n. sent [] false) one
  parts_judged keep start r free first (more_of-Statement s ss) one two =
      two_judged code all Uniform 0 start r first
      (λ n. sent (part_code keep free n false (more_of-Statement s ss)) (part_left false (more_of-Statement s ss))) one
      (two (start + 1 + length first + 1))

  mutual
    statement_judged : (keep : Bool) (free start : ℕ) (held : Bool) (s : Statement) → IsStatement names s →
        depth s ≤ 64 →
        Judged code start (resting Uniform 0 held) (outside.code keep free start held s) (resting Uniform 0 (outside.left held s))
    statement_judged keep free start held (Assign here x e) h d =
        judged_fits code all start (resting Uniform 0 held) (resting Uniform 0 (assign_left held x (formula_of e)))
        (assign keep held here.line free x (formula_of e)) (assign_fits keep here.line free held x e h)
    statement_judged keep free start held (Print here e) h d =
        judged_fits code all start (resting Uniform 0 held) (resting Uniform 0 (still held (formula_of e)))
        (prints keep held here.line free (formula_of e))
        (prints_fit code keep held here.line free (formula_of e) (sole_ready names e h))
    statement_judged keep free start held (While' here e q a) h d =
        let body = λ (n : ℕ). sent (part_code keep free n false a) (part_left false a) in
        while_judged keep held start here.line free (formula_of e) body (sole_ready names e h.0)
        (sent_part_judged keep free (loop_turn keep held start here.line free (formula_of e) body) a
        (part_judged keep free (loop_turn keep held start here.line free (formula_of e) body) false a h.1 (omega (arith, d))))
    statement_judged keep free start held (If' here e q a r b) h d =
        let first = λ (n : ℕ). sent (part_code keep free n false a) (part_left false a) in
        let second = λ (n : ℕ). sent (part_code keep free n false b) (part_left false b) in
        let at = fork_place keep held start here.line free (formula_of e) first (has_part b) second in
        if_judged keep held start here.line free (formula_of e) first (has_part b) second (sole_ready names e h.0)
        (parts_judged keep at (value_at Uniform free (formula_of e)) free (first (at + 1)) b
        (sent_part_judged keep free (at + 1) a (part_judged keep free (at + 1) false a h.1 (omega (arith, d))))
        (λ n. sent_part_judged keep free n b (part_judged keep free n false b h.2 (omega (arith, d)))))
    statement_judged keep free start held (For' here x e f q a) h d =
        let body = λ (n : ℕ). sent (part_code keep (behind_turns free) n false a) (part_left false a) in
        let at = turn_place keep held start here.line free x (formula_of e) (formula_of f) body in
        for_judged keep held start here.line free x (formula_of e) (formula_of f) body (pair_ready names e f h.1)
        (sent_part_judged keep (behind_turns free) at a (part_judged keep (behind_turns free) at false a h.2 (omega (arith, d))))
    statement_judged keep free start held (Pardo here e f locals body) h d =
        let w : Frame = record { keep = keep; vote = free } in
        let s = still held (Pair (formula_of e) (formula_of f)) in
        let steps = λ (n : ℕ). steps_code w (behind_locals locals) n s body.items in
        let at = range_place keep held start here.line free (formula_of e) (formula_of f) steps (steps_left s body.items) in
        pardo_judged keep held start here.line free (formula_of e) (formula_of f) steps (steps_left s body.items)
        (pair_ready names e f h.0)
        (steps_judged code all uniforms (Some locals) w (behind_locals locals) at 0 s body.items h.1 (omega (arith, d)))

    part_judged : (keep : Bool) (free start : ℕ) (held : Bool) {k : _} (ss : Row_of-Statement k) →
        ArePartStatements names ss → part_depth ss ≤ 64 →
        Judged code start (resting Uniform 0 held) (part_code keep free start held ss) (resting Uniform 0 (part_left held ss))
    part_judged keep free start held end_of-Statement h d =
        judged_fits code all start (resting Uniform 0 held) (resting Uniform 0 held) [] refl
    part_judged keep free start held (more_of-Statement s ss) h d =
        let first = outside.code keep free start held s in
        judged_join code start (resting Uniform 0 held) (resting Uniform 0 (outside.left held s))
        (resting Uniform 0 (part_left (outside.left held s) ss)) first
        (part_code keep free (start + length first) (outside.left held s) ss)
        (statement_judged keep free start held s h.0 (omega (arith, d)))
        (part_judged keep free (start + length first) (outside.left held s) ss h.1 (omega (arith, d)))

  pub statements_judged : (keep : Bool) (free start : ℕ) (held : Bool) (ss : List Statement) →
      AreStatements names ss → body_depth ss ≤ 64 →
      Judged code start (resting Uniform 0 held) (statements_code keep free start held ss) (resting Uniform 0 (statements_left held ss))
  statements_judged keep free start held [] h d =
      judged_fits code all start (resting Uniform 0 held) (resting Uniform 0 held) [] refl
  statements_judged keep free start held (s ∷ ss) h d =
      let first = outside.code keep free start held s in
      judged_join code start (resting Uniform 0 held) (resting Uniform 0 (outside.left held s))
      (resting Uniform 0 (statements_left (outside.left held s) ss)) first
      (statements_code keep free (start + length first) (outside.left held s) ss)
      (statement_judged keep free start held s h.0 (omega (arith, d)))
      (statements_judged keep free (start + length first) (outside.left held s) ss h.1 (omega (arith, d)))
