-- How long the code of statements inside pardo is.
use Rattle.std.proofs.Common.{◌≡◌, ℕ, ◌+◌, ◌*◌, ◌≤◌, Bool, true, false, List, [], ◌∷◌, ◌++◌, length, arith, length-append, pos}
use Rattle.superstep_instructions.specs.declared.instr.Side.{Side}
use Rattle.superstep_instructions.specs.declared.instr.Side.TheVariants.{Private}
use Rattle.superstep_instructions.specs.declared.instr.Instr.{Instr}
use Rattle.superstep_instructions.specs.declared.instr.Instr.TheVariants.{Copy, Put, Set, Mask, Unmask, Vote, Jump, JumpIfZero}
use Rattle.pram_names.specs.declared.body.Expression as body
use Rattle.pram_names.specs.declared.body.Expression.{Expression, Element', Prefix', Chain'}
use Rattle.pram_names.specs.declared.body.StepTarget.{StepTarget}
use Rattle.pram_names.specs.declared.body.StepTarget.TheVariants as inner
use Rattle.pram_names.specs.declared.body.Step as step
use Rattle.pram_names.specs.declared.body.Step.{Step, Row_of-Step, end_of-Step, more_of-Step}
use Rattle.pram_check.specs.Bounded.{nodes, inner_target_nodes}
use Rattle.plain_form.specs.Formulas.{Formula, Zero, Pair, formula_of, positions}
use Rattle.plain_form.specs.Groups.{evaluated, value_at, first_at, second_at}
use Rattle.plain_form.specs.Shapes.{flush, still, waits, begun, counted, gets, writes, sent, looped, flipped, inner_if_code, flagged, flags}
use Rattle.plain_form.specs.Shapes.{inner_while_code}
use Rattle.plain_form.specs.Inside.{Frame, inner_assign, step_code, step_left, part_code, part_left, steps_code, has_part}
use Rattle.plain_form.specs.Sizes.{step_words, part_step_words, steps_words}
use Rattle.plain_form.proofs.Lengths.{width, width_of, short_evaluated}

pub short_flush : (h : Bool) → length (flush h) ≤ 1
short_flush true = omega arith
short_flush false = omega arith

pub short_begun : (keep held : Bool) (line : ℕ) → length (begun keep held line) ≤ 2
short_begun true true line = omega arith
short_begun true false line = omega arith
short_begun false true line = omega arith
short_begun false false line = omega arith

-- the beginning of a statement
pub short_counted : (keep held : Bool) (line : ℕ) (s : Side) (base : ℕ) (f : Formula) →
    length (counted keep held line s base f) ≤ 2 + 3 * width f
short_counted keep held line s base f =
    let e = short_evaluated s base f in
    let o = short_begun keep held line in
    let l = length-append (begun keep held line) (evaluated s base f) in
    omega (arith, e, o, l)

pub short_gets : (keep held : Bool) (line : ℕ) (s : Side) (base : ℕ) (f : Formula) (d : ℕ) →
    length (gets keep held line s base f d) ≤ 3 + 3 * width f
short_gets keep held line s base f d =
    let e = short_counted keep held line s base f in
    let l = length-append (counted keep held line s base f) (Copy s d (value_at s base f) ∷ []) in
    omega (arith, e, l)

pub short_writes : (keep held : Bool) (line : ℕ) (s : Side) (base entry : ℕ) (f g : Formula) →
    length (writes keep held line s base entry f g) ≤ 4 + 3 * (width f + width g)
short_writes keep held line s base entry f g =
    let c = counted keep (waits held (Pair f g)) line s base (Pair f g) in
    let put = Put s entry (first_at s base f g) (second_at s base f g) (positions f + positions g + 1) ∷ [] in
    let e = short_counted keep (waits held (Pair f g)) line s base (Pair f g) in
    let k = short_flush (still held (Pair f g)) in
    let l = length-append (flush (still held (Pair f g))) c in
    let m = length-append (flush (still held (Pair f g)) ++ c) put in
    omega (arith, e, k, l, m)

-- a loop, but for its test and its body
pub length_of_looped : (head : ℕ) (test : List Instr) (r : ℕ) (body : ℕ → List Instr) → length (looped head test r body)
    ≡ length test + length (body (head + length test + 1)) + 2
length_of_looped head test r body =
    let part = body (head + length test + 1) in
    let jump = JumpIfZero r (head + length test + 1 + length part + 1) ∷ [] in
    let l = length-append test jump in
    let m = length-append (test ++ jump) part in
    let n = length-append (test ++ jump ++ part) (Jump head ∷ []) in
    omega (arith, l, m, n)

pub short_sent : (part : List Instr) (left : Bool) → length (sent part left) ≤ length part + 1
short_sent part left =
    let k = short_flush left in
    let l = length-append part (flush left) in
    omega (arith, k, l)

some_node : (e : Expression) → 1 ≤ nodes e
some_node (body.Number n) = omega arith
some_node (body.Uniform x) = omega arith
some_node body.Index = omega arith
some_node (body.Local x) = omega arith
some_node (body.Cell a) = omega arith
some_node (Element' a b e) = omega arith
some_node (Prefix' o b e) = omega arith
some_node (Chain' b e q links) = let h : 1 ≤ nodes e = some_node e in omega (arith, h)

short_flipped : (some : Bool) (start : ℕ) (part : ℕ → List Instr) (b : ℕ) → ((n : ℕ) → length (part n) ≤ b) →
    length (flipped some start part) ≤ b + 1
short_flipped false start part b h = omega arith
short_flipped true start part b h = let k = h (start + 1) in omega (arith, k)

short_assign : (w : Frame) (held : Bool) (line base : ℕ) (x : StepTarget) (e : Expression) →
    length (inner_assign w held line base x (formula_of e)) ≤ 4 * (2 + inner_target_nodes x + nodes e)
short_assign w held line base (inner.Local x) e =
    let h = short_gets w.keep held line Private base (formula_of e) (2 + x) in
    let n : width (formula_of e) ≡ nodes e = width_of e in
    omega (arith, h, n)
short_assign w held line base (inner.Cell a) e =
    let h = short_writes w.keep held line Private base a Zero (formula_of e) in
    let n : width (formula_of e) ≡ nodes e = width_of e in
    omega (arith, h, n)
short_assign w held line base (inner.Element a i) e =
    let h = short_writes w.keep held line Private base a (formula_of i) (formula_of e) in
    let n : width (formula_of e) ≡ nodes e = width_of e in
    let m : width (formula_of i) ≡ nodes i = width_of i in
    omega (arith, h, n, m)

-- an `if`, by the lengths of its parts
short_if : (keep held : Bool) (start line base : ℕ) (f : Formula) (first : ℕ → List Instr) (some : Bool) (second : ℕ →
    List Instr) (a b : ℕ) →
    ((n : ℕ) → length (first n) ≤ a) → ((n : ℕ) → length (second n) ≤ b) →
    length (inner_if_code keep held start line base f first some second) ≤ 5 + 3 * width f + a + b
short_if keep held start line base f first some second a b h k =
    let test = counted keep held line Private base f ++ Mask (value_at Private base f) ∷ [] in
    let one = first (start + length test) in
    let two = flipped some (start + length (test ++ one)) second in
    let e = short_counted keep held line Private base f in
    let l = length-append (counted keep held line Private base f) (Mask (value_at Private base f) ∷ []) in
    let m = length-append test one in
    let n = length-append (test ++ one) two in
    let o = length-append (test ++ one ++ two) (Unmask ∷ []) in
    let p : length one ≤ a = h (start + length test) in
    let q : length two ≤ b + 1 = short_flipped some (start + length (test ++ one)) second b k in
    omega (arith, e, l, m, n, o, p, q)

-- a `while`, by the length of its body
short_while : (keep held : Bool) (start line vote flag base : ℕ) (f : Formula) (body : ℕ → List Instr) (a : ℕ) →
    ((n : ℕ) → length (body n) ≤ a) → length (inner_while_code keep held start line vote flag base f body) ≤ 12 + 3 * width f + a
short_while keep held start line vote flag base f body a h =
    let before = flagged held flag in
    let test = flags keep line vote flag base f in
    let c = counted keep false line Private base f in
    let loop = looped (start + length before) test vote body in
    let e = short_counted keep false line Private base f in
    let k = short_flush held in
    let l = length-append (flush held) (Set Private flag (pos 1) ∷ Mask flag ∷ []) in
    let m = length-append c (Copy Private flag (value_at Private base f) ∷ Unmask ∷ Mask flag ∷ Vote vote ∷ []) in
    let n = length_of_looped (start + length before) test vote body in
    let o = length-append before loop in
    let p = length-append (before ++ loop) (Unmask ∷ []) in
    let q = h (start + length before + length test + 1) in
    omega (arith, e, k, l, m, n, o, p, q)

short_sent_part : (w : Frame) (base start : ℕ) {k : _} (ss : Row_of-Step k) → length
    (part_code w base start false ss) ≤ 4 * part_step_words ss →
    length (sent (part_code w base start false ss) (part_left false ss)) ≤ 4 * part_step_words ss + 1
short_sent_part w base start ss h =
    let k = short_sent (part_code w base start false ss) (part_left false ss) in omega (arith, h, k)

mutual
  pub short_step : (w : Frame) (base start : ℕ) (held : Bool) (s : Step) → length (step_code w base start held s) ≤ 4 * step_words s
  short_step w base start held (step.Assign here x e) = short_assign w held here.line base x e
  short_step w base start held (step.If' here e q a r b) =
      let f = formula_of e in
      let n : width f ≡ nodes e = width_of e in
      let h = short_if w.keep held start here.line base f (λ start. part_code w base start (still held f) a) (has_part b)
      (λ start. part_code w base start (part_left (still held f) a) b) (4 * part_step_words a) (4 * part_step_words b)
      (λ n. short_part w base n (still held f) a) (λ n. short_part w base n (part_left (still held f) a) b) in
      omega (arith, n, h)
  short_step w base start held (step.While' here e q a) =
      let f = formula_of e in
      let n : width f ≡ nodes e = width_of e in
      let h = short_while w.keep held start here.line w.vote base (base + 1) f
      (λ start. sent (part_code w (base + 1) start false a) (part_left false a)) (4 * part_step_words a + 1)
      (λ n. short_sent_part w (base + 1) n a (short_part w (base + 1) n false a)) in
      let some = some_node e in
      omega (arith, n, h, some)

  pub short_part : (w : Frame) (base start : ℕ) (held : Bool) {k : _} (ss : Row_of-Step k) →
      length (part_code w base start held ss) ≤ 4 * part_step_words ss
  short_part w base start held end_of-Step = omega arith
  short_part w base start held (more_of-Step s ss) =
      let first = step_code w base start held s in
      let rest = part_code w base (start + length first) (step_left held s) ss in
      let h : length first ≤ 4 * step_words s = short_step w base start held s in
      let k : length rest ≤ 4 * part_step_words ss = short_part w base (start + length first) (step_left held s) ss in
      let l = length-append first rest in
      omega (arith, h, k, l)

pub short_steps : (w : Frame) (base start : ℕ) (held : Bool) (ss : List Step) → length
    (steps_code w base start held ss) ≤ 4 * steps_words ss
short_steps w base start held [] = omega arith
short_steps w base start held (s ∷ ss) =
    let first = step_code w base start held s in
    let rest = steps_code w base (start + length first) (step_left held s) ss in
    let h = short_step w base start held s in
    let k = short_steps w base (start + length first) (step_left held s) ss in
    let l = length-append first rest in
    omega (arith, h, k, l)
