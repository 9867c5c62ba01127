-- Where the parts of a loop stand: its test, the jump out of it, the body, the send behind that, the jump back, and the end.
use Rattle.std.proofs.Common.{◌≡◌, ℕ, ◌+◌, List, [], ◌∷◌, ◌++◌, length, Bool, subst, arith}
use Rattle.std.proofs.Common.{length-append}
use Rattle.superstep_instructions.specs.declared.instr.Instr.{Instr}
use Rattle.superstep_instructions.specs.declared.instr.Instr.TheVariants.{Mark, Unmask, Jump, JumpIfZero}
use Rattle.flat_stretches.specs.Along.{Run, IsAt}
use Rattle.flat_stretches.specs.Folds.{Stand}
use Rattle.flat_stretches.specs.Tells.{IsCalm}
use Rattle.flat_stretches.proofs.Joins.{stands_split}
use Rattle.plain_form.specs.Shapes.{flush, sent, looped}
use Rattle.verified_form.specs.Calm.{BeginsCalm}
use Rattle.verified_form.proofs.Calm.{statements_begin_calm, parts_end_calm, loops_are_calm}

-- Behind its test and behind its body faults are told.
pub record LoopStands (t : Run) (head : ℕ) (test : List Instr) (vote : ℕ) (part : List Instr) (left : Bool) : Type 0 where
  pub begins : Stand t head test
  pub calm : IsCalm t.code (head + length test)
  pub fork : IsAt t (head + length test) (JumpIfZero vote (head + length test + 1 + length (sent part left) + 1))
  pub body : Stand t (head + length test + 1) part
  pub ends : IsCalm t.code (head + length test + 1 + length part)
  pub sends : Stand t (head + length test + 1 + length part) (flush left)
  pub jump : IsAt t (head + length test + 1 + length (sent part left)) (Jump head)
  pub unmask : IsAt t (head + length test + 1 + length (sent part left) + 1) Unmask

module _ (t : Run) (head line vote : ℕ) (more : List Instr) (part : ℕ → List Instr) (left : Bool) where
  abbrev test : List Instr
  test = Mark line ∷ more

  abbrev start : ℕ
  start = head + length test + 1

  abbrev body : List Instr
  body = sent (part start) left

  abbrev loop : List Instr
  loop = looped head test vote (λ n. sent (part n) left)

  abbrev fork : Instr
  fork = JumpIfZero vote (start + length body + 1)

  pub loop_length : length (looped head test vote (λ n. sent (part n) left)) ≡ length test + 1 + length (sent (part start) left) + 1
  loop_length =
      let n1 = length-append test (fork ∷ []) in
      let n2 = length-append (test ++ fork ∷ []) body in
      let n3 = length-append ((test ++ fork ∷ []) ++ body) (Jump head ∷ []) in
      omega (arith, n1, n2, n3)

  pub loop_stands : Stand t head loop → IsAt t (head + length loop) Unmask → BeginsCalm t start (part start) →
      IsCalm t.code (head + length loop) → LoopStands t head test vote (part start) left
  loop_stands h last begins c =
      let begin = statements_begin_calm in
      let first = stands_split t head ((test ++ fork ∷ []) ++ body) (Jump head ∷ []) h in
      let second = stands_split t head (test ++ fork ∷ []) body first.0 in
      let third = stands_split t head test (fork ∷ []) second.0 in
      let n1 = length-append test (fork ∷ []) in
      let n2 = length-append (test ++ fork ∷ []) body in
      let n3 = loop_length in
      let inner = subst (λ k. Stand t k body) (let e : head + length (test ++ fork ∷ []) ≡ start = omega (arith, n1) in e) second.1 in
      let halves = stands_split t start (part start) (flush left) inner in
      let calm = loops_are_calm t head line vote more (λ n. sent (part n) left) h (begin.sent t start (part start) left begins) c in
      record {
        begins = third.0;
        calm = calm.0;
        fork = third.1.0;
        body = halves.0;
        ends = parts_end_calm t start (part start) left inner calm.1;
        sends = halves.1;
        jump = subst (λ k. IsAt t k (Jump head))
            (let e : head + length ((test ++ fork ∷ []) ++ body) ≡ start + length body = omega (arith, n1, n2) in e) first.1.0;
        unmask = subst (λ k. IsAt t k Unmask) (let e : head + length loop ≡ start + length body + 1 = omega (arith, n3) in e) last;
      }
