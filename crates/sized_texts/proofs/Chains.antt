-- Operands with operators between them, one by one, and levels of nesting.
use Rattle.std.proofs.Common.{◌≡◌, ℕ, zero, suc, ◌-◌, ◌<◌, ◌≤◌, List, length, Some, None, Result, Ok, Err, refl, sym, ap, ◌∙◌}
use Rattle.std.proofs.Common.{arith}
use Rattle.sized_texts.specs.declared.line.Line.{Line}
use Rattle.sized_texts.specs.declared.line.Line.TheVariants as line
use Rattle.sized_texts.specs.declared.operation.Operator.{Operator}
use Rattle.sized_texts.specs.declared.reason.Reason.TheVariants as reason
use Rattle.sized_texts.specs.declared.size.Size.{Size}
use Rattle.sized_texts.specs.declared.stop.Wrong.{Wrong}
use Rattle.sized_texts.specs.Expressions.{Reader, at_line, chain, further, more, operator_of, step}
use Rattle.sized_texts.specs.Front.{behind, front, past_spaces}
use Rattle.sized_texts.specs.Reading.{◌>>=◌, placed, wrong_at}
use Rattle.sized_texts.specs.Values.{applied}

pub further_none : (sizes : List Size) (d left : ℕ) (text : List ℕ) → d ≡ 0 →
    further sizes d left text ≡ Err (wrong_at reason.TooDeep left)
unfolding further
further_none sizes zero left text is = refl
further_none sizes (suc d) left text is = absurd (omega arith)

pub further_more : (sizes : List Size) (d left : ℕ) (text : List ℕ) → (d ≡ 0 → ⊥) →
    further sizes d left text ≡ at_line sizes (further sizes (d - 1)) line.Sum text
unfolding further
further_more sizes zero left text some = absurd (some refl)
further_more sizes (suc d) left text some =
    let e : d ≡ suc d - 1 = omega arith in ap (λ k. at_line sizes (further sizes k) line.Sum text) e

module _ (l : Line) (Operand : Reader) where
  pub more_none : (n v : ℕ) (text : List ℕ) → None ≡ operator_of l (front text) → more l Operand n v text ≡ Ok (v, text)
  more_none zero v text is = refl
  more_none (suc n) v text is = ap (λ o. step l Operand o v text (more l Operand n)) (sym is)

  -- an operand and the operator before it
  pub turn : (n v w u : ℕ) (o : Operator) (text after behind_it rest : List ℕ) (whole : Result (ℕ × List ℕ) Wrong) →
      length text ≤ n → Some o ≡ operator_of l (front text) → after ≡ behind text → length after < length text →
      Operand after ≡ Ok (w, behind_it) → placed (length text) (applied o v w) ≡ Ok u → rest ≡ past_spaces behind_it →
      length rest ≤ length after → more l Operand n v text ≡ whole →
      (m : ℕ) × (length rest ≤ m) × (more l Operand m u rest ≡ whole)
  turn zero v w u o text after behind_it rest whole fits is cut less read makes past low so = absurd (omega arith)
  turn (suc m) v w u o text after behind_it rest whole fits is cut less read makes past low so = (
    m,
    omega arith,
    ap (more l Operand m u) past
        ∙ sym (ap (λ x. step l Operand x v text (more l Operand m)) (sym is)
        ∙ ap (λ r. r >>= λ k. placed (length text) (applied o v k.0) >>= λ j. more l Operand m j (past_spaces k.1)) (ap Operand (sym cut)
        ∙ read)
        ∙ ap (λ r. r >>= λ j. more l Operand m j (past_spaces behind_it)) makes)
        ∙ so,
  )

  pub begins : (v : ℕ) (text behind_it rest : List ℕ) → Operand text ≡ Ok (v, behind_it) → rest ≡ past_spaces behind_it →
      more l Operand (length rest) v rest ≡ chain l Operand text
  unfolding chain
  begins v text behind_it rest read past =
      ap (λ r. more l Operand (length r) v r) past
      ∙ sym (ap (λ r. r >>= λ first. more l Operand (length (past_spaces first.1)) first.0 (past_spaces first.1)) read)
