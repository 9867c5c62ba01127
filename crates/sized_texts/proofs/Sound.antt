-- What is read is a number by the grammar.
use Rattle.std.proofs.Common.{◌≡◌, ℕ, zero, suc, ◌==◌, Bool, true, false, List, [], ◌∷◌, length, Option, Some, None}
use Rattle.std.proofs.Common.{Result, Ok, Err, refl, ap, ◌∙◌}
use Rattle.std.proofs.Common.{arith, subst}
use Rattle.std.specs.Prelude.{if◌then◌else◌}
use Rattle.std.proofs.lemmas.Bool.Decides.{nat_tests}
use Rattle.sized_texts.specs.declared.atom.Atom.{Atom}
use Rattle.sized_texts.specs.declared.atom.Atom.TheVariants as atom
use Rattle.sized_texts.specs.declared.line.Line.{Line}
use Rattle.sized_texts.specs.declared.line.Line.TheVariants as line
use Rattle.sized_texts.specs.declared.operation.Function.{Function}
use Rattle.sized_texts.specs.declared.operation.Function.TheVariants as function
use Rattle.sized_texts.specs.declared.operation.Operator.{Operator}
use Rattle.sized_texts.specs.declared.operation.Operator.TheVariants as operator
use Rattle.sized_texts.specs.declared.reason.Reason.{Reason}
use Rattle.sized_texts.specs.declared.size.Size.{Size}
use Rattle.sized_texts.specs.declared.stop.Wrong.{Wrong}
use Rattle.sized_texts.specs.Expressions as e
use Rattle.sized_texts.specs.Front.{behind, front, past_spaces}
use Rattle.sized_texts.specs.Grammar as g
use Rattle.sized_texts.specs.Reading.{◌>>=◌, expect, expect_front, misplaced, placed, wrong_at}
use Rattle.sized_texts.specs.Values.{applied, called}
use Rattle.sized_texts.proofs.Bound.{bind_ok}

placed_ok : (left : ℕ) (r : Result ℕ Reason) (v : ℕ) → placed left r ≡ Ok v → r ≡ Ok v
placed_ok left (Ok u) v is = let k : u ≡ v = cc in ap Ok k
placed_ok left (Err w) v is = absurd (cc)

abbrev made : {A : Type 0} → A → Result A Wrong
made x = Ok x

ok_is : {A : Type 0} (x y : A) → made x ≡ Ok y → x ≡ y
ok_is x y is = cc

front_ok : (byte : ℕ) (text rest : List ℕ) → expect_front byte text ≡ Ok rest → text ≡ byte ∷ rest
front_ok byte [] rest is = absurd (cc)
front_ok byte (b ∷ bs) rest is = by (b == byte) refl is
  where
    by : (t : Bool) → t ≡ (b == byte) →
        (if t then Ok bs else Err (wrong_at (misplaced (b ∷ bs)) (length (b ∷ bs)))) ≡ Ok rest → b ∷ bs ≡ byte ∷ rest
    by true same h = let k : bs ≡ rest = cc in let j : b ≡ byte = grind (arith, nat_tests) in cc
    by false same h = absurd (cc)

abbrev Sound : (List ℕ → Result (ℕ × List ℕ) Wrong) → g.Rel → Type 0
Sound read R = (text : List ℕ) (v : ℕ) (rest : List ℕ) → read text ≡ Ok (v, rest) → R text v rest

module _ (sizes : List Size) (Inner : ℕ → List ℕ → Result (ℕ × List ℕ) Wrong) (R : g.Rel) (sound : (left : ℕ) → Sound (Inner left) R) where
  nested_ok : (close left : ℕ) (text : List ℕ) (x : ℕ × List ℕ) → e.nested sizes Inner close left text ≡ Ok x →
      (mid : List ℕ) × R text x.0 mid × g.Then close mid x.1
  nested_ok close left text x is =
      let a = bind_ok (Inner left text) (λ inner. expect close inner.1 >>= λ rest. Ok (inner.0, rest)) x is in
      let b = bind_ok (expect close a.0.1) (λ rest. Ok (a.0.0, rest)) x a.2 in
      let whole : (a.0.0, b.0) ≡ x = cc in (
        a.0.1,
        subst (λ v. R text v a.0.1) (ap (λ p. p.0) whole) (sound left text a.0.0 a.0.1 a.1),
        front_ok close (past_spaces a.0.1) x.1 (b.1 ∙ ap (λ p. Ok p.1) whole),
      )

  group_ok : (f : Function) (left : ℕ) (text : List ℕ) (x : ℕ × List ℕ) → e.group sizes Inner f left text ≡ Ok x →
      (v : ℕ) × (mid : List ℕ) × R text v mid × g.Then 41 mid x.1 × (called f v ≡ Ok x.0)
  group_ok f left text x is =
      let a = bind_ok (e.nested sizes Inner 41 left text) (λ inner. placed left (called f inner.0) >>= λ v. Ok (v, inner.1)) x is in
      let b = bind_ok (placed left (called f a.0.0)) (λ v. Ok (v, a.0.1)) x a.2 in
      let whole : (b.0, a.0.1) ≡ x = ok_is (b.0, a.0.1) x b.2 in
      let n = nested_ok 41 left text a.0 a.1 in (
        a.0.0,
        n.0,
        n.1,
        subst (λ r. g.Then 41 n.0 r) (ap (λ p. p.1) whole) n.2,
        placed_ok left (called f a.0.0) b.0 b.1 ∙ ap (λ p. Ok p.0) whole,
      )

  power_ok : (left : ℕ) (text here : List ℕ) (x : ℕ × List ℕ) → g.first_atom sizes here ≡ atom.Power → g.after here ≡ text →
      e.power sizes Inner left text ≡ Ok x → g.IsOperand sizes R here x.0 x.1
  power_ok left text here x first same is =
      let i = bind_ok (expect 40 text) (λ inside. e.nested sizes Inner 44 left inside >>= λ a. e.nested sizes Inner 41 left a.1 >>= λ b.
      placed left (applied operator.Power a.0 b.0) >>= λ v. Ok (v, b.1)) x is in
      let a = bind_ok (e.nested sizes Inner 44 left i.0) (λ a. e.nested sizes Inner 41 left a.1 >>= λ b.
      placed left (applied operator.Power a.0 b.0) >>= λ v. Ok (v, b.1)) x i.2 in
      let b = bind_ok (e.nested sizes Inner 41 left a.0.1)
      (λ b. placed left (applied operator.Power a.0.0 b.0) >>= λ v. Ok (v, b.1)) x a.2 in
      let u = bind_ok (placed left (applied operator.Power a.0.0 b.0.0)) (λ v. Ok (v, b.0.1)) x b.2 in
      let whole : (u.0, b.0.1) ≡ x = ok_is (u.0, b.0.1) x u.2 in
      let n = nested_ok 44 left i.0 a.0 a.1 in
      let m = nested_ok 41 left a.0.1 b.0 b.1 in
      subst (λ p. g.IsOperand sizes R here p.0 p.1) whole
      (g.power here i.0 n.0 a.0.1 m.0 b.0.1 a.0.0 b.0.0 u.0 first
      (front_ok 40 (past_spaces (g.after here)) i.0 (ap (λ t. expect 40 t) same ∙ i.1)) n.1 n.2 m.1 m.2
      (placed_ok left (applied operator.Power a.0.0 b.0.0) u.0 u.1))

  operand_ok : (text : List ℕ) (v : ℕ) (rest : List ℕ) → e.operand sizes Inner text ≡ Ok (v, rest) → g.IsOperand sizes R text v rest
  unfolding e.operand
  operand_ok text v rest is = by (g.first_atom sizes text) refl is
    where
      by : (a : Atom) → g.first_atom sizes text ≡ a →
          e.operand_by sizes Inner a (length (past_spaces text)) (g.after text) ≡ Ok (v, rest) → g.IsOperand sizes R text v rest
      by (atom.Value w) first h =
          subst (λ p. g.IsOperand sizes R text p.0 p.1) (ok_is (w, g.after text) (v, rest) h) (g.number text w first)
      by atom.Paren first h =
          let n = group_ok function.Same (length (past_spaces text)) (g.after text) (v, rest) h in
          let same : n.0 ≡ v = let k : called function.Same n.0 ≡ Ok v = n.4 in cc in
          g.group text n.1 rest v first (subst (λ w. R (g.after text) w n.1) same n.2) n.3
      by (atom.Call f) first h =
          let left = length (past_spaces text) in
          let i = bind_ok (expect 40 (g.after text)) (e.group sizes Inner f left) (v, rest) h in
          let n = group_ok f left i.0 (v, rest) i.2 in
          g.call f text i.0 n.1 rest n.0 v first (front_ok 40 (past_spaces (g.after text)) i.0 i.1) n.2 n.3 n.4
      by atom.Power first h = power_ok (length (past_spaces text)) (g.after text) text (v, rest) first refl h
      by (atom.Bad r) first h = absurd (cc)

module _ (l : Line) (Operand : List ℕ → Result (ℕ × List ℕ) Wrong) (R : g.Rel) (sound : Sound Operand R)
    (text : List ℕ) (x : ℕ × List ℕ) where
  more_ok : (n v : ℕ) (mid : List ℕ) → g.IsChain l R text v mid → e.more l Operand n v mid ≡ Ok x → g.IsChain l R text x.0 x.1
  more_ok zero v mid so is = subst (λ p. g.IsChain l R text p.0 p.1) (ok_is (v, mid) x is) so
  more_ok (suc n) v mid so is = by (e.operator_of l (front mid)) refl is (λ u r. more_ok n u r)
    where
      by : (o : Option Operator) → o ≡ e.operator_of l (front mid) → e.step l Operand o v mid (e.more l Operand n) ≡ Ok x →
          ((u : ℕ) (r : List ℕ) → g.IsChain l R text u r → e.more l Operand n u r ≡ Ok x → g.IsChain l R text x.0 x.1) →
          g.IsChain l R text x.0 x.1
      by None same h on = subst (λ p. g.IsChain l R text p.0 p.1) (ok_is (v, mid) x h) so
      by (Some o) same h on =
          let a = bind_ok (Operand (behind mid))
          (λ w. placed (length mid) (applied o v w.0) >>= λ u. e.more l Operand n u (past_spaces w.1)) x h in
          let b = bind_ok (placed (length mid) (applied o v a.0.0)) (λ u. e.more l Operand n u (past_spaces a.0.1)) x a.2 in
          on b.0 (past_spaces a.0.1) (g.more o text mid a.0.1 v a.0.0 b.0 so same (sound (behind mid) a.0.0 a.0.1 a.1)
          (placed_ok (length mid) (applied o v a.0.0) b.0 b.1)) b.2

  chain_ok : e.chain l Operand text ≡ Ok x → g.IsChain l R text x.0 x.1
  unfolding e.chain
  chain_ok is =
      let a = bind_ok (Operand text) (λ first. e.goes_on l Operand first.0 (past_spaces first.1)) x is in
      more_ok (length (past_spaces a.0.1)) a.0.0 (past_spaces a.0.1) (g.one text a.0.1 a.0.0 (sound text a.0.0 a.0.1 a.1)) a.2

sum_ok : (sizes : List Size) (Inner : ℕ → List ℕ → Result (ℕ × List ℕ) Wrong) (R : g.Rel) → ((left : ℕ) → Sound (Inner left) R) →
    Sound (e.at_line sizes Inner line.Sum) (g.SumOf sizes R)
sum_ok sizes Inner R sound text v rest is =
    chain_ok line.Sum (e.chain line.Product (e.operand sizes Inner)) (g.IsChain line.Product (g.IsOperand sizes R))
    (λ t w r h. chain_ok line.Product (e.operand sizes Inner) (g.IsOperand sizes R) (operand_ok sizes Inner R sound) t (w, r) h)
    text (v, rest) is

further_ok : (sizes : List Size) (d left : ℕ) → Sound (e.further sizes d left) (g.Further sizes d)
unfolding e.further g.Further
further_ok sizes zero left text v rest is = absurd (cc)
further_ok sizes (suc d) left text v rest is =
    sum_ok sizes (e.further sizes d) (g.Further sizes d) (λ i. further_ok sizes d i) text v rest is

pub braced_ok : (sizes : List Size) (text : List ℕ) (v : ℕ) (rest : List ℕ) → e.braced sizes text ≡ Ok (v, rest) →
    g.IsExpression sizes text v rest
unfolding e.braced
braced_ok sizes text v rest is =
    let a = bind_ok (e.at_line sizes (e.further sizes 64) line.Sum text) (λ x. expect 125 x.1 >>= λ r. Ok (x.0, r)) (v, rest) is in
    let b = bind_ok (expect 125 a.0.1) (λ r. Ok (a.0.0, r)) (v, rest) a.2 in
    let whole : (a.0.0, b.0) ≡ (v, rest) = ok_is (a.0.0, b.0) (v, rest) b.2 in
    let sum : g.IsSum sizes 64 text a.0.0 a.0.1 =
    sum_ok sizes (e.further sizes 64) (g.Further sizes 64) (λ i. further_ok sizes 64 i) text a.0.0 a.0.1 a.1 in
    record {
      mid = a.0.1;
      sum = subst (λ w. g.IsSum sizes 64 text w a.0.1) (ap (λ p. p.0) whole) sum;
      closed = front_ok 125 (past_spaces a.0.1) rest (b.1 ∙ ap (λ p. Ok p.1) whole);
    }
