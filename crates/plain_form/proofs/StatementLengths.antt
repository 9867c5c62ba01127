-- How long the code of statements outside pardo is.
use Rattle.std.proofs.Common.{◌≡◌, ℕ, ◌+◌, ◌*◌, ◌≤◌, Bool, true, false, List, [], ◌∷◌, ◌++◌, length, arith, length-append}
use Rattle.superstep_instructions.specs.declared.instr.Side.TheVariants.{Uniform}
use Rattle.superstep_instructions.specs.declared.instr.Arithmetic.TheVariants as arithmetic
use Rattle.superstep_instructions.specs.declared.instr.Truth.TheVariants as truth
use Rattle.superstep_instructions.specs.declared.instr.Instr.{Instr}
use Rattle.superstep_instructions.specs.declared.instr.Instr.TheVariants.{Copy, Calculate, Decide, Index, Enter, Leave, Print, Jump}
use Rattle.superstep_instructions.specs.declared.instr.Instr.TheVariants.{JumpIfZero}
use Rattle.superstep_instructions.specs.declared.instr.Instr.TheVariants.{Halt}
use Rattle.pram_names.specs.declared.body.Expression.{Expression}
use Rattle.pram_names.specs.declared.body.Target.{Target}
use Rattle.pram_names.specs.declared.body.Target.TheVariants as target
use Rattle.pram_names.specs.declared.body.Statement as statement
use Rattle.pram_names.specs.declared.body.Statement.{Statement, Assign, While', If', For', Pardo, Row_of-Statement, end_of-Statement}
use Rattle.pram_names.specs.declared.body.Statement.{more_of-Statement}
use Rattle.pram_check.specs.Bounded.{nodes, target_nodes}
use Rattle.plain_form.specs.Registers.{variable, turn, high, more, behind_turns, behind_locals, behind_variables, index}
use Rattle.plain_form.specs.Formulas.{Formula, Zero, Pair, formula_of, positions}
use Rattle.plain_form.specs.Groups.{value_at, first_at, second_at}
use Rattle.plain_form.specs.Shapes.{flush, still, begun, counted, prints, sent, chosen, if_code, looped, while_code, bounds, setting}
use Rattle.plain_form.specs.Shapes.{turned}
use Rattle.plain_form.specs.Shapes.{for_code, pardo_code}
use Rattle.plain_form.specs.Inside.{Frame, steps_code}
use Rattle.plain_form.specs.Outside.{assign, code, left, part_code, part_left, statements_code, has_part}
use Rattle.plain_form.specs.Sizes.{words, part_words, body_words, steps_words, CodeIsShort}
use Rattle.plain_form.proofs.Lengths.{width, width_of}
use Rattle.plain_form.proofs.StepLengths.{short_flush, short_begun, short_counted, short_gets, short_writes, length_of_looped, short_sent}
use Rattle.plain_form.proofs.StepLengths.{short_steps}

short_assign : (keep held : Bool) (line free : ℕ) (x : Target) (e : Expression) →
    length (assign keep held line free x (formula_of e)) ≤ 4 * (2 + target_nodes x + nodes e)
short_assign keep held line free (target.Uniform x) e =
    let h = short_gets keep held line Uniform free (formula_of e) (variable x) in
    let n : width (formula_of e) ≡ nodes e = width_of e in
    omega (arith, h, n)
short_assign keep held line free (target.Cell a) e =
    let h = short_writes keep held line Uniform free a Zero (formula_of e) in
    let n : width (formula_of e) ≡ nodes e = width_of e in
    omega (arith, h, n)
short_assign keep held line free (target.Element a i) e =
    let h = short_writes keep held line Uniform free a (formula_of i) (formula_of e) in
    let n : width (formula_of e) ≡ nodes e = width_of e in
    let m : width (formula_of i) ≡ nodes i = width_of i in
    omega (arith, h, n, m)

short_print : (keep held : Bool) (line free : ℕ) (e : Expression) → length (prints keep held line free (formula_of e)) ≤ 4 * (2 + nodes e)
short_print keep held line free e =
    let f = formula_of e in
    let h = short_counted keep held line Uniform free f in
    let l = length-append (counted keep held line Uniform free f) (Print (value_at Uniform free f) ∷ []) in
    let n : width f ≡ nodes e = width_of e in
    omega (arith, h, l, n)

short_chosen : (start r : ℕ) (first : List Instr) (some : Bool) (second : ℕ → List Instr) (b : ℕ) → ((n : ℕ) → length (second n) ≤ b) →
    length (chosen start r first some second) ≤ length first + b + 2
short_chosen start r first false second b h = omega arith
short_chosen start r first true second b h =
    let other = start + 1 + length first + 1 in
    let l = length-append first (Jump (other + length (second other)) ∷ second other) in
    let k = h other in
    omega (arith, l, k)

-- an `if`, by the lengths of its parts
short_if : (keep held : Bool) (start line free : ℕ) (f : Formula) (first : ℕ → List Instr) (some : Bool) (second : ℕ →
    List Instr) (a b : ℕ) →
    ((n : ℕ) → length (first n) ≤ a) → ((n : ℕ) → length (second n) ≤ b) →
    length (if_code keep held start line free f first some second) ≤ 5 + 3 * width f + a + b
short_if keep held start line free f first some second a b h k =
    let c = counted keep held line Uniform free f in
    let test = c ++ flush (still held f) in
    let one = first (start + length test + 1) in
    let two = chosen (start + length test) (value_at Uniform free f) one some second in
    let e = short_counted keep held line Uniform free f in
    let g = short_flush (still held f) in
    let l = length-append c (flush (still held f)) in
    let m = length-append test two in
    let p : length one ≤ a = h (start + length test + 1) in
    let q : length two ≤ length one + b + 2 = short_chosen (start + length test) (value_at Uniform free f) one some second b k in
    omega (arith, e, g, l, m, p, q)

-- a `while`, by the length of its body
short_while : (keep held : Bool) (start line free : ℕ) (f : Formula) (body : ℕ → List Instr) (a : ℕ) → ((n : ℕ) → length (body n) ≤ a) →
    length (while_code keep held start line free f body) ≤ 5 + 3 * width f + a
short_while keep held start line free f body a h =
    let test = counted keep false line Uniform free f in
    let head = start + length (flush held) in
    let loop = looped head test (value_at Uniform free f) body in
    let e = short_counted keep false line Uniform free f in
    let k = short_flush held in
    let l = length_of_looped head test (value_at Uniform free f) body in
    let m = length-append (flush held) loop in
    let q = h (head + length test + 1) in
    omega (arith, e, k, l, m, q)

short_bounds : (keep held : Bool) (line free : ℕ) (f g : Formula) → length (bounds keep held line free f g) ≤ 6 + 3 * (width f + width g)
short_bounds keep held line free f g =
    let base = behind_turns free in
    let c = counted keep held line Uniform base (Pair f g) in
    let two = Copy Uniform (turn free) (first_at Uniform base f g) ∷ Copy Uniform (high free) (second_at Uniform base f g) ∷ [] in
    let send = flush (still held (Pair f g)) in
    let last = Decide Uniform truth.AtMost (more free) (turn free) (high free) ∷ [] in
    let e = short_counted keep held line Uniform base (Pair f g) in
    let k = short_flush (still held (Pair f g)) in
    let l = length-append c two in
    let m = length-append (c ++ two) send in
    let n = length-append (c ++ two ++ send) last in
    omega (arith, e, k, l, m, n)

short_setting : (keep : Bool) (line free x : ℕ) → length (setting keep line free x) ≤ 5
short_setting keep line free x =
    let k = short_begun keep false line in
    let l = length-append (begun keep false line) (Copy Uniform (variable x) (turn free) ∷ Decide Uniform truth.Less (more free) (turn free)
    (high free) ∷ Calculate Uniform arithmetic.Add (turn free) (turn free) (more free) 0 ∷ []) in
    omega (arith, k, l)

short_turned : (start r : ℕ) (set : List Instr) (body : ℕ → List Instr) (a : ℕ) → ((n : ℕ) → length (body n) ≤ a) →
    length (turned start r set body) ≤ 3 + length set + a
short_turned start r set body a h =
    let part = body (start + 1 + length set) in
    let end = start + 1 + length (set ++ part) + 2 in
    let l = length-append set part in
    let m = length-append (set ++ part) (JumpIfZero r end ∷ Jump (start + 1) ∷ []) in
    let q = h (start + 1 + length set) in
    omega (arith, l, m, q)

-- a `for`, by the length of its body
short_for : (keep held : Bool) (start line free x : ℕ) (f g : Formula) (body : ℕ → List Instr) (a : ℕ) → ((n : ℕ) → length (body n) ≤ a) →
    length (for_code keep held start line free x f g body) ≤ 14 + 3 * (width f + width g) + a
short_for keep held start line free x f g body a h =
    let first = bounds keep held line free f g in
    let set = setting keep line free x in
    let turns = turned (start + length first) (more free) set body in
    let b = short_bounds keep held line free f g in
    let s = short_setting keep line free x in
    let t = short_turned (start + length first) (more free) set body a h in
    let l = length-append first turns in
    omega (arith, b, s, t, l)

-- a pardo, by the length of its body
short_pardo : (keep held : Bool) (start line free : ℕ) (f g : Formula) (body : ℕ → List Instr) (a : ℕ) → ((n : ℕ) → length (body n) ≤ a) →
    length (pardo_code keep held start line free f g body) ≤ 5 + 3 * (width f + width g) + a
short_pardo keep held start line free f g body a h =
    let c = counted keep held line Uniform free (Pair f g) in
    let enter = Enter (first_at Uniform free f g) (second_at Uniform free f g) (positions f + positions g + 1) ∷ Index index ∷ [] in
    let part = body (start + length (c ++ enter)) in
    let e = short_counted keep held line Uniform free (Pair f g) in
    let l = length-append c enter in
    let m = length-append (c ++ enter) part in
    let n = length-append (c ++ enter ++ part) (Leave ∷ []) in
    let q = h (start + length (c ++ enter)) in
    omega (arith, e, l, m, n, q)

short_sent_part : (keep : Bool) (free start : ℕ) {k : _} (ss : Row_of-Statement k) →
    length (part_code keep free start false ss) ≤ 4 * part_words ss →
    length (sent (part_code keep free start false ss) (part_left false ss)) ≤ 4 * part_words ss + 1
short_sent_part keep free start ss h =
    let k = short_sent (part_code keep free start false ss) (part_left false ss) in omega (arith, h, k)

mutual
  short_code : (keep : Bool) (free start : ℕ) (held : Bool) (s : Statement) → length (code keep free start held s) ≤ 4 * words s
  short_code keep free start held (Assign here x e) = short_assign keep held here.line free x e
  short_code keep free start held (statement.Print here e) = short_print keep held here.line free e
  short_code keep free start held (While' here e q a) =
      let f = formula_of e in
      let n : width f ≡ nodes e = width_of e in
      let h = short_while keep held start here.line free f (λ start. sent (part_code keep free start false a) (part_left false a))
      (4 * part_words a + 1) (λ n. short_sent_part keep free n a (short_part keep free n false a)) in
      omega (arith, n, h)
  short_code keep free start held (If' here e q a r b) =
      let f = formula_of e in
      let n : width f ≡ nodes e = width_of e in
      let h = short_if keep held start here.line free f (λ start. sent (part_code keep free start false a) (part_left false a)) (has_part b)
      (λ start. sent (part_code keep free start false b) (part_left false b)) (4 * part_words a + 1) (4 * part_words b + 1)
      (λ n. short_sent_part keep free n a (short_part keep free n false a))
      (λ n. short_sent_part keep free n b (short_part keep free n false b)) in
      omega (arith, n, h)
  short_code keep free start held (For' here x e f q a) =
      let n : width (formula_of e) ≡ nodes e = width_of e in
      let m : width (formula_of f) ≡ nodes f = width_of f in
      let h = short_for keep held start here.line free x (formula_of e) (formula_of f)
      (λ start. sent (part_code keep (behind_turns free) start false a) (part_left false a)) (4 * part_words a + 1)
      (λ n. short_sent_part keep (behind_turns free) n a (short_part keep (behind_turns free) n false a)) in
      omega (arith, n, m, h)
  short_code keep free start held (Pardo here e f locals a) =
      let n : width (formula_of e) ≡ nodes e = width_of e in
      let m : width (formula_of f) ≡ nodes f = width_of f in
      let w : Frame = record { keep = keep; vote = free } in
      let k = still held (Pair (formula_of e) (formula_of f)) in
      let h = short_pardo keep held start here.line free (formula_of e) (formula_of f)
      (λ start. steps_code w (behind_locals locals) start k a.items) (4 * steps_words a.items)
      (λ n. short_steps w (behind_locals locals) n k a.items) in
      omega (arith, n, m, h)

  short_part : (keep : Bool) (free start : ℕ) (held : Bool) {k : _} (ss : Row_of-Statement k) →
      length (part_code keep free start held ss) ≤ 4 * part_words ss
  short_part keep free start held end_of-Statement = omega arith
  short_part keep free start held (more_of-Statement s ss) =
      let first = code keep free start held s in
      let rest = part_code keep free (start + length first) (left held s) ss in
      let h : length first ≤ 4 * words s = short_code keep free start held s in
      let k : length rest ≤ 4 * part_words ss = short_part keep free (start + length first) (left held s) ss in
      let l = length-append first rest in
      omega (arith, h, k, l)

short_statements : (keep : Bool) (free start : ℕ) (held : Bool) (ss : List Statement) →
    length (statements_code keep free start held ss) ≤ 4 * body_words ss
short_statements keep free start held [] = omega arith
short_statements keep free start held (s ∷ ss) =
    let first = code keep free start held s in
    let rest = statements_code keep free (start + length first) (left held s) ss in
    let h = short_code keep free start held s in
    let k = short_statements keep free (start + length first) (left held s) ss in
    let l = length-append first rest in
    omega (arith, h, k, l)

pub code_is_short : CodeIsShort
code_is_short keep p =
    let body = statements_code keep (behind_variables p.uniforms) 0 false p.body in
    let h : length body ≤ 4 * body_words p.body = short_statements keep (behind_variables p.uniforms) 0 false p.body in
    let l = length-append body (Halt ∷ []) in
    omega (arith, h, l)
