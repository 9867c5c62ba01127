-- The code of a program within the limits of a listing.
use Rattle.std.proofs.Common.{◌≡◌, ℕ, suc, ◌+◌, ◌*◌, ◌<◌, ◌≤◌, ◌^◌, List, [], ◌∷◌, ◌++◌, length, Bool, true, false, Some}
use Rattle.std.proofs.lemmas.Option.{slice_get_within}
use Rattle.std.proofs.Common.{refl, sym, ◌∙◌, arith, subst}
use Rattle.std.specs.Prelude.{nat_lt, ◌&&◌, ◌||◌, slice_get}
use Rattle.std.specs.List.{AllByRecursion}
use Rattle.std.proofs.lemmas.Bool.Decides.{nat_tests}
use Rattle.pram_model.proofs.Truths.{both, unsome}
use Rattle.superstep_instructions.specs.declared.instr.Side.{Side}
use Rattle.superstep_instructions.specs.declared.instr.Side.TheVariants.{Uniform, Private}
use Rattle.superstep_instructions.specs.declared.instr.Instr.{Instr}
use Rattle.superstep_instructions.specs.declared.instr.Instr.TheVariants.{Mark, Set, Copy, Negate, Calculate, Decide, Not, CopyUniform}
use Rattle.superstep_instructions.specs.declared.instr.Instr.TheVariants.{Index}
use Rattle.superstep_instructions.specs.declared.instr.Instr.TheVariants.{Enter, Leave, Mask, Flip, Unmask, Ask, Put, Send, Reply, Vote}
use Rattle.superstep_instructions.specs.declared.instr.Instr.TheVariants.{Jump, JumpIfZero, Halt}
use Rattle.superstep_instructions.specs.declared.instr.Instr.TheVariants as instr
use Rattle.superstep_instructions.specs.Code.{SuperstepCode}
use Rattle.superstep_instructions.specs.Limits.{IsInstr}
use Rattle.pram_names.specs.declared.body.Expression.{Expression}
use Rattle.pram_names.specs.declared.body.Target.{Target}
use Rattle.pram_names.specs.declared.body.Target.TheVariants as target
use Rattle.pram_names.specs.declared.body.Statement.{Statement, Assign, Print, While', If', For', Pardo, Row_of-Statement, end_of-Statement}
use Rattle.pram_names.specs.declared.body.Statement.{more_of-Statement}
use Rattle.pram_check.specs.Bounded.{Names, names_of, with_locals, IsAssign, IsStatement, ArePartStatements, AreStatements}
use Rattle.pram_check.specs.Bounded.{nodes, target_nodes, depth, part_depth, body_depth, size, part_size, body_size}
use Rattle.bsp_verify.specs.Judging.{has_entry, has_target, is_mark}
use Rattle.plain_form.specs.Registers.{named, if_on, behind_all, registers, variable, more, behind_turns, behind_locals, behind_variables}
use Rattle.plain_form.specs.Formulas.{Zero, Pair, formula_of}
use Rattle.plain_form.specs.Groups.{value_at}
use Rattle.plain_form.specs.Shapes.{flush, still, counted, sent, chosen, looped, bounds, setting, entered, turned}
use Rattle.plain_form.specs.Inside.{Frame, steps_code}
use Rattle.plain_form.specs.Outside as outside
use Rattle.plain_form.specs.PlainForm.{instructions_of, form_of}
use Rattle.plain_form.proofs.TextWords.{code_fits}
use Rattle.verified_form.specs.FormedCode.{StatementHasLines, BlockHasLines, BodyHasLines, FormsAreCode}
use Rattle.verified_form.proofs.SmallFormulas.{IsSmall, AreSmall, small_join}
use Rattle.verified_form.proofs.SmallShapes.{flush_small, sent_small, looped_small, chosen_small, turned_small, value_below, gets_small}
use Rattle.verified_form.proofs.SmallShapes.{writes_small, counted_small, prints_small, bounds_small, setting_small, entered_small}
use Rattle.verified_form.proofs.SmallSteps.{local_count, positions_of, sole_fair, cell_fair, pair_fair, steps_small}
use Rattle.verified_form.proofs.ProgramsFormed.{forms_are_well_formed}

-- ---- statements

module _ (most : ℕ) (all : most ≤ 2 ^ 16) (s : Names) (few : s.uniforms + 1 ≤ most) (fewer : local_count s.locals + 2 ≤ most)
    (keep : Bool) where
  abbrev locals : ℕ
  locals = local_count s.locals

  assign_small : (held : Bool) (line free : ℕ) (x : Target) (e : Expression) → line < 2 ^ 32 → IsAssign s x e →
      free + target_nodes x + nodes e + 10 ≤ most → AreSmall most (outside.assign keep held line free x (formula_of e))
  assign_small held line free (target.Uniform x) e l h m =
      let k = h.0 in
      gets_small most s.uniforms locals few fewer Uniform keep held line free (formula_of e) (variable x) l (omega (arith, k, few))
      (sole_fair s most all free e h.1 (omega (arith, m)))
  assign_small held line free (target.Cell a) e l h m =
      let p = positions_of e in
      writes_small most s.uniforms locals few fewer Uniform keep held line free a Zero (formula_of e) l (omega (arith, p, m, all))
      (cell_fair s most all free e h.1 (omega (arith, m)))
  assign_small held line free (target.Element a i) e l h m =
      let p = positions_of e in let q = positions_of i in
      writes_small most s.uniforms locals few fewer Uniform keep held line free a (formula_of i) (formula_of e) l
      (omega (arith, p, q, m, all)) (pair_fair s most all free i e h.1 (omega (arith, m)))

  mutual
    statement_small : (free start : ℕ) (held : Bool) (x : Statement) → IsStatement s x → StatementHasLines x →
        free + 3 * depth x + size x + 10 ≤ most → AreSmall most (outside.code keep free start held x)
    statement_small free start held (Assign here x e) h l m = assign_small held here.line free x e l h (omega (arith, m))
    statement_small free start held (Print here e) h l m =
        prints_small most s.uniforms locals few fewer keep held here.line free (formula_of e) l (sole_fair s most all free e h (omega
        (arith, m)))
    statement_small free start held (While' here e q a) h l m =
        let f = formula_of e in
        let test = counted keep false here.line Uniform free f in
        let body = λ (n : ℕ). sent (outside.part_code keep free n false a) (outside.part_left false a) in
        let fair = sole_fair s most all free e h.0 (omega (arith, m)) in
        let head = start + length (flush held) in
        small_join most (flush held) (looped head test (value_at Uniform free f) body) (flush_small most held)
        (looped_small most head (value_at Uniform free f) test body (value_below most s.uniforms locals few fewer Uniform free f fair)
        (counted_small most s.uniforms locals few fewer Uniform keep false here.line free f l.0 fair)
        (λ n. sent_small most (outside.part_code keep free n false a) (outside.part_left false a)
        (block_small free n false a h.1 l.1 (omega (arith, m)))))
    statement_small free start held (If' here e q a r b) h l m =
        let f = formula_of e in
        let c = counted keep held here.line Uniform free f in
        let test = c ++ flush (still held f) in
        let behind = start + length test in
        let first = sent (outside.part_code keep free (behind + 1) false a) (outside.part_left false a) in
        let second = λ (n : ℕ). sent (outside.part_code keep free n false b) (outside.part_left false b) in
        let fair = sole_fair s most all free e h.0 (omega (arith, m)) in
        small_join most test (chosen behind (value_at Uniform free f) first (outside.has_part b) second)
        (small_join most c (flush (still held f)) (counted_small most s.uniforms locals few fewer Uniform keep held here.line free f l.0
        fair)
        (flush_small most (still held f)))
        (chosen_small most behind (value_at Uniform free f) first (outside.has_part b) second
        (value_below most s.uniforms locals few fewer Uniform free f fair)
        (sent_small most (outside.part_code keep free (behind + 1) false a) (outside.part_left false a)
        (block_small free (behind + 1) false a h.1 l.1 (omega (arith, m))))
        (λ n. sent_small most (outside.part_code keep free n false b) (outside.part_left false b)
        (block_small free n false b h.2 l.2 (omega (arith, m)))))
    statement_small free start held (For' here x e f q a) h l m =
        let first = bounds keep held here.line free (formula_of e) (formula_of f) in
        let set = setting keep here.line free x in
        let body = λ (n : ℕ). sent (outside.part_code keep (behind_turns free) n false a) (outside.part_left false a) in
        small_join most first (turned (start + length first) (more free) set body)
        (bounds_small most s.uniforms locals few fewer keep held here.line free (formula_of e) (formula_of f) l.0 (omega (arith, m))
        (pair_fair s most all (behind_turns free) e f h.1 (omega (arith, m))))
        (turned_small most (start + length first) (more free) set body (omega (arith, m))
        (setting_small most s.uniforms locals few fewer keep here.line free x l.0 (omega (arith, m)) h.0)
        (λ n. sent_small most (outside.part_code keep (behind_turns free) n false a) (outside.part_left false a)
        (block_small (behind_turns free) n false a h.2 l.1 (omega (arith, m)))))
    statement_small free start held (Pardo here e f count body) h l m =
        let w : Frame = record { keep = keep; vote = free } in
        let before = entered keep held here.line free (formula_of e) (formula_of f) in
        let still_there = still held (Pair (formula_of e) (formula_of f)) in
        let part = steps_code w (behind_locals count) (start + length before) still_there body.items in
        let p = positions_of e in let q = positions_of f in
        small_join most (before ++ part) (Leave ∷ [])
        (small_join most before part
        (entered_small most s.uniforms locals few fewer keep held here.line free (formula_of e) (formula_of f) l.0
        (omega (arith, p, q, m, all))
        (pair_fair s most all free e f h.0 (omega (arith, m))))
        (steps_small most all (with_locals count s) few (omega (arith, m)) w (omega (arith, m)) (behind_locals count)
        (start + length before) still_there body.items h.1 l.1 (omega (arith, m))))
        (record { uniform = omega arith; private = omega arith; numbers = tt }, tt)

    block_small : (free start : ℕ) (held : Bool) {k : _} (xs : Row_of-Statement k) → ArePartStatements s xs → BlockHasLines xs →
        free + 3 * part_depth xs + part_size xs + 10 ≤ most → AreSmall most (outside.part_code keep free start held xs)
    block_small free start held end_of-Statement h l m = tt
    block_small free start held (more_of-Statement x xs) h l m =
        let first = outside.code keep free start held x in
        small_join most first (outside.part_code keep free (start + length first) (outside.left held x) xs)
        (statement_small free start held x h.0 l.0 (omega (arith, m)))
        (block_small free (start + length first) (outside.left held x) xs h.1 l.1 (omega (arith, m)))

  statements_small : (free start : ℕ) (held : Bool) (xs : List Statement) → AreStatements s xs → BodyHasLines xs →
      free + 3 * body_depth xs + body_size xs + 10 ≤ most → AreSmall most (outside.statements_code keep free start held xs)
  statements_small free start held [] h l m = tt
  statements_small free start held (x ∷ xs) h l m =
      let first = outside.code keep free start held x in
      small_join most first (outside.statements_code keep free (start + length first) (outside.left held x) xs)
      (statement_small free start held x h.0 l.0 (omega (arith, m)))
      (statements_small free (start + length first) (outside.left held x) xs h.1 l.1 (omega (arith, m)))

-- ---- the limits

registers_small : (most : ℕ) (s : Side) (is : List Instr) → ((i : Instr) → IsSmall most i → behind_all (named s i) ≤ most) →
    AreSmall most is → registers s is ≤ most
registers_small most s [] side h = omega arith
registers_small most s (i ∷ is) side h =
    let a = side i h.0 in
    let b : registers s is ≤ most = registers_small most s is side h.1 in
    omega (arith, a, b)

either_side : (most : ℕ) (s : Side) (rs : List ℕ) → behind_all (if_on Uniform s rs) ≤ most → behind_all (if_on Private s rs) ≤ most →
    behind_all rs ≤ most
either_side most Uniform rs h k = h
either_side most Private rs h k = k

module _ (code : SuperstepCode) (layout : length code.layout ≤ 2 ^ 16) (short : length code.instructions ≤ 2 ^ 16) where
  is_short : (most n : ℕ) → most ≤ 2 ^ 16 → nat_lt n most ≡ true → n < 2 ^ 16
  is_short most n l h = let k : n < most = grind (arith, nat_tests) in omega (arith, k, l)

  jump_fits : (t : ℕ) (b : Bool) → nat_lt t (length code.instructions) && b ≡ true → t < 2 ^ 16
  jump_fits t b h = is_short (length code.instructions) t short (both (nat_lt t (length code.instructions)) b h).0

  instr_fits : (place : ℕ) (i : Instr) → IsSmall (2 ^ 16) i → has_entry code i ≡ true → has_target code place i ≡ true → IsInstr i
  instr_fits place (Mark line) h e j = (h.numbers, tt)
  instr_fits place (Set s d n) h e j =
      let k = either_side (2 ^ 16) s (d ∷ []) h.uniform h.private in (omega (arith, k), (h.numbers, tt))
  instr_fits place (Copy s d x) h e j =
      let k = either_side (2 ^ 16) s (d ∷ x ∷ []) h.uniform h.private in (omega (arith, k), (omega (arith, k), tt))
  instr_fits place (Negate s d x q) h e j =
      let k = either_side (2 ^ 16) s (d ∷ x ∷ []) h.uniform h.private in (omega (arith, k), (omega (arith, k), (h.numbers, tt)))
  instr_fits place (Calculate s o d x y q) h e j =
      let k = either_side (2 ^ 16) s (d ∷ x ∷ y ∷ []) h.uniform h.private in
      (omega (arith, k), (omega (arith, k), (omega (arith, k), (h.numbers, tt))))
  instr_fits place (Decide s o d x y) h e j =
      let k = either_side (2 ^ 16) s (d ∷ x ∷ y ∷ []) h.uniform h.private in
      (omega (arith, k), (omega (arith, k), (omega (arith, k), tt)))
  instr_fits place (Not s d x) h e j =
      let k = either_side (2 ^ 16) s (d ∷ x ∷ []) h.uniform h.private in (omega (arith, k), (omega (arith, k), tt))
  instr_fits place (CopyUniform d x) h e j = let k = h.uniform in let l = h.private in (omega (arith, l), (omega (arith, k), tt))
  instr_fits place (Index d) h e j = let l = h.private in (omega (arith, l), tt)
  instr_fits place (Enter x y q) h e j = let k = h.uniform in (omega (arith, k), (omega (arith, k), (h.numbers, tt)))
  instr_fits place Leave h e j = tt
  instr_fits place (Mask x) h e j = let l = h.private in (omega (arith, l), tt)
  instr_fits place Flip h e j = tt
  instr_fits place Unmask h e j = tt
  instr_fits place (Ask s d a x q) h e j =
      let k = either_side (2 ^ 16) s (d ∷ x ∷ []) h.uniform h.private in
      (omega (arith, k), (is_short (length code.layout) a layout e, (omega (arith, k), (h.numbers, tt))))
  instr_fits place (Put s a x y q) h e j =
      let k = either_side (2 ^ 16) s (x ∷ y ∷ []) h.uniform h.private in
      (is_short (length code.layout) a layout e, (omega (arith, k), (omega (arith, k), (h.numbers, tt))))
  instr_fits place Send h e j = tt
  instr_fits place Reply h e j = tt
  instr_fits place (Vote d) h e j = let k = h.uniform in (omega (arith, k), tt)
  instr_fits place (instr.Print x) h e j = let k = h.uniform in (omega (arith, k), tt)
  instr_fits place (Jump t) h e j = (jump_fits t (nat_lt place t || is_mark (slice_get code.instructions t)) j, tt)
  instr_fits place (JumpIfZero x t) h e j =
      let k = h.uniform in
      (omega (arith, k), (jump_fits t (nat_lt place t || is_mark (slice_get code.instructions t)) j, tt))
  instr_fits place Halt h e j = tt

-- what is so of each at its place, and of all, is so of all
all_by_place : (P Q : Instr → Type 0) (is : List Instr) → ((k : ℕ) (i : Instr) → slice_get is k ≡ Some i → P i → Q i) →
    AllByRecursion P is → AllByRecursion Q is
all_by_place P Q [] f h = tt
all_by_place P Q (i ∷ is) f h = (f 0 i refl h.0, all_by_place P Q is (λ k j e p. f (suc k) j e p) h.1)

pub forms_are_code : FormsAreCode
forms_are_code keep p bounded resolved lines =
    let code = form_of keep p in
    let is = instructions_of keep p in
    let small = bounded.small in
    let tokens = bounded.few_tokens in
    let deep = bounded.depth in
    let some = bounded.some_procs in
    let procs = bounded.few_procs in
    let short = code_fits keep p resolved tokens in
    let body = statements_small (2 ^ 16) (omega arith) (names_of p) (omega (arith, small, tokens)) (omega arith) keep
    (behind_variables p.uniforms) 0 false p.body bounded.body lines (omega (arith, small, tokens, deep)) in
    let fits : AreSmall (2 ^ 16) is =
    small_join (2 ^ 16) (outside.statements_code keep (behind_variables p.uniforms) 0 false p.body) (Halt ∷ []) body
    (record { uniform = omega arith; private = omega arith; numbers = tt }, tt) in
    let formed = forms_are_well_formed keep p bounded in
    record {
      some_procs = omega (arith, some);
      few_procs = omega (arith, procs);
      layout = bounded.layout;
      few_uniform = registers_small (2 ^ 16) Uniform is (λ i h. h.uniform) fits;
      few_private = registers_small (2 ^ 16) Private is (λ i h. h.private) fits;
      instructions = all_by_place (IsSmall (2 ^ 16)) IsInstr is (λ k i e h.
          let met = formed.1.1.each k (slice_get_within is k i e) in
          let same = unsome met.instr i (sym met.is ∙ e) in
          instr_fits code (omega (arith, small, tokens)) (omega (arith, short)) k i h
          (subst (λ (x : Instr). has_entry code x ≡ true) same met.allowed.entry)
          (subst (λ (x : Instr). has_target code k x ≡ true) same met.allowed.target)) fits;
      few_instructions = short;
    }
