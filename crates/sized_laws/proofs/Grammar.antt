-- What the grammar gives is read.
use Rattle.std.proofs.Common.{◌≡◌, ℕ, zero, suc, ◌+◌, ◌<◌, ◌≤◌, ◌==◌, Bool, true, false, List, [], ◌∷◌, drop, length, max}
use Rattle.std.proofs.Common.{Some, None, Ok, Err, refl, sym, ap, ◌∙◌, arith, cond, codes, length-append, length-drop, subst}
use Rattle.std.specs.Prelude.{◌&&◌, if◌then◌else◌}
use Rattle.std.specs.List.{prefix_len}
use Rattle.std.proofs.lemmas.Bool.Decides.{nat_tests}
use Rattle.pram_model.specs.Names.{is_word, same_text}
use Rattle.pram_model.proofs.Texts.{same_is}
use Rattle.sized_texts.specs.declared.line.Line.{Line}
use Rattle.sized_texts.specs.declared.line.Line.TheVariants as line
use Rattle.sized_texts.specs.declared.operation.Function.{Function}
use Rattle.sized_texts.specs.declared.operation.Function.TheVariants as function
use Rattle.sized_texts.specs.declared.operation.Operator.{Operator}
use Rattle.sized_texts.specs.declared.operation.Operator.TheVariants as operator
use Rattle.sized_texts.specs.declared.size.Size.{Size}
use Rattle.sized_texts.specs.Expressions as e
use Rattle.sized_texts.specs.Front.{behind, front, is_space, past_spaces}
use Rattle.sized_texts.specs.Grammar as g
use Rattle.sized_texts.specs.Reading.{◌>>=◌, expect, expect_front, misplaced, placed, wrong_at}
use Rattle.sized_texts.specs.Values.{applied, called}
use Rattle.sized_texts.proofs.Chains.{begins, more_none, turn}
use Rattle.sized_laws.proofs.Covers.{Keeps, Over, chain_over, further_over, operand_over}

-- an operator of sums is none of products
sum_only : (token : List ℕ) (o : Operator) → Some o ≡ e.operator_of line.Sum token → e.operator_of line.Product token ≡ None
sum_only token o is = by (same_text (codes "+") token) (same_text (codes "-") token) refl refl is
  where
    by : (p m : Bool) → p ≡ same_text (codes "+") token → m ≡ same_text (codes "-") token →
        Some o ≡ (if p then Some operator.Add else (if m then Some operator.Subtract else None)) →
        e.operator_of line.Product token ≡ None
    by true m plus minus h = ap (e.operator_of line.Product) (sym (same_is (codes "+") token (sym plus)))
    by false true plus minus h = ap (e.operator_of line.Product) (sym (same_is (codes "-") token (sym minus)))
    by false false plus minus h = absurd (cc)

operator_empty : (l : Line) → e.operator_of l [] ≡ None
operator_empty line.Sum = refl
operator_empty line.Product = refl

none_more : (text : List ℕ) → prefix_len is_space (past_spaces text) ≡ 0
none_more [] = refl
none_more (b ∷ rest) = by (is_space b) refl (none_more rest)
  where
    by : (t : Bool) → t ≡ is_space b → prefix_len is_space (past_spaces rest) ≡ 0 →
        prefix_len is_space (drop (cond t (1 + prefix_len is_space rest) 0) (b ∷ rest)) ≡ 0
    by true is on =
        let k : 1 + prefix_len is_space rest ≡ suc (prefix_len is_space rest) = omega arith in
        ap (λ n. prefix_len is_space (drop n (b ∷ rest))) k ∙ on
    by false is on = ap (λ t. cond t (1 + prefix_len is_space rest) 0) (sym is)

spaced : (text : List ℕ) → past_spaces (past_spaces text) ≡ past_spaces text
spaced text = ap (λ n. drop n (past_spaces text)) (none_more text)

chain_spaced : (l : Line) (R : g.Rel) (text : List ℕ) (v : ℕ) (rest : List ℕ) → g.IsChain l R text v rest → past_spaces rest ≡ rest
chain_spaced l R text v rest (g.one t r w first) = spaced r
chain_spaced l R text v rest (g.more o t mid r w x u before is next made) = spaced r

over_shorter : (text rest : List ℕ) → Over text rest → length rest ≤ length text
over_shorter text rest is =
    let whole = ap length is.parts in
    let both = length-append is.mid rest in omega (arith, whole, both)

past_shorter : (text : List ℕ) → length (past_spaces text) ≤ length text
past_shorter text = let k = length-drop (prefix_len is_space text) text in omega (arith, k)

behind_shorter : (l : Line) (text : List ℕ) (o : Operator) → Some o ≡ e.operator_of l (front text) → length (behind text) < length text
behind_shorter l [] o is = let k = operator_empty l in absurd (cc)
behind_shorter l (b ∷ rest) o is =
    let k = length-drop (max (prefix_len is_word (b ∷ rest)) 1) (b ∷ rest) in omega (arith, k)

-- what a line gives is read, where what follows passes a test
abbrev Reads : e.Reader → g.Rel → (List ℕ → Type 0) → Type 0
Reads read R F = (text : List ℕ) (v : ℕ) (rest : List ℕ) → R text v rest → F (past_spaces rest) → read text ≡ Ok (v, rest)

chain_goes : (l : Line) (read : e.Reader) (R : g.Rel) (F : List ℕ → Type 0) → Keeps R → Reads read R F →
    ((m : List ℕ) (o : Operator) → Some o ≡ e.operator_of l (front m) → F m) →
    (text : List ℕ) (v : ℕ) (mid : List ℕ) → g.IsChain l R text v mid → F mid →
    (n : ℕ) × (length mid ≤ n) × (e.more l read n v mid ≡ e.chain l read text)
chain_goes l read R F keeps reads goes text v mid (g.one t r w first) ends =
    (length (past_spaces r), omega arith, begins l read w t r (past_spaces r) (reads t w r first ends) refl)
chain_goes l read R F keeps reads goes text v mid (g.more o t here r w x u before is next made) ends =
    let h = chain_goes l read R F keeps reads goes t w here before (goes here o is) in
    let less = behind_shorter l here o is in
    let kept = over_shorter (behind here) r (keeps (behind here) x r next) in
    let past = past_shorter r in
    turn l read h.0 w x u o here (behind here) r (past_spaces r) (e.chain l read t) h.1 is refl less
    (reads (behind here) x r next ends) (ap (placed (length here)) made) refl (omega (arith, kept, past)) h.2

-- no operator of the line is at the front
abbrev Ends : Line → List ℕ → Type 0
Ends l text = e.operator_of l (front text) ≡ None

-- a sum is over
abbrev IsOver : List ℕ → Type 0
IsOver text = Ends line.Sum (past_spaces text) × Ends line.Product (past_spaces text)

abbrev InnerReads : (ℕ → e.Reader) → g.Rel → Type 0
InnerReads Inner R = (left : ℕ) (text : List ℕ) (v : ℕ) (rest : List ℕ) → R text v rest → IsOver rest → Inner left text ≡ Ok (v, rest)

expect_is : (byte : ℕ) (text rest : List ℕ) → g.Then byte text rest → expect byte text ≡ Ok rest
expect_is byte text rest is =
    let same : (byte == byte) ≡ true = grind (arith, nat_tests) in
    ap (expect_front byte) is
    ∙ ap (λ t. if t then Ok rest else Err (wrong_at (misplaced (byte ∷ rest)) (length (byte ∷ rest)))) same

over_at : (byte : ℕ) (text rest : List ℕ) → g.Then byte text rest → Ends line.Sum (byte ∷ rest) → Ends line.Product (byte ∷ rest) →
    IsOver text
over_at byte text rest is sum product =
    (ap (λ t. e.operator_of line.Sum (front t)) is ∙ sum, ap (λ t. e.operator_of line.Product (front t)) is ∙ product)

module _ (sizes : List Size) (Inner : ℕ → e.Reader) (R : g.Rel) (reads : InnerReads Inner R) where
  nested_reads : (close left : ℕ) (text : List ℕ) (v : ℕ) (mid rest : List ℕ) → R text v mid → g.Then close mid rest →
      Ends line.Sum (close ∷ rest) → Ends line.Product (close ∷ rest) → e.nested sizes Inner close left text ≡ Ok (v, rest)
  nested_reads close left text v mid rest is closed sum product =
      ap (λ r. r >>= λ inner. expect close inner.1 >>= λ rest. Ok (inner.0, rest))
      (reads left text v mid is (over_at close mid rest closed sum product))
      ∙ ap (λ r. r >>= λ rest. Ok (v, rest)) (expect_is close mid rest closed)

  group_reads : (f : Function) (left : ℕ) (text : List ℕ) (v u : ℕ) (mid rest : List ℕ) → R text v mid → g.Then 41 mid rest →
      called f v ≡ Ok u → e.group sizes Inner f left text ≡ Ok (u, rest)
  group_reads f left text v u mid rest is closed made =
      ap (λ r. r >>= λ inner. placed left (called f inner.0) >>= λ v. Ok (v, inner.1))
      (nested_reads 41 left text v mid rest is closed refl refl)
      ∙ ap (λ r. placed left r >>= λ v. Ok (v, rest)) made

  power_reads : (left : ℕ) (text inside mid second late rest : List ℕ) (a b u : ℕ) → g.Then 40 text inside → R inside a mid →
      g.Then 44 mid second → R second b late → g.Then 41 late rest → applied operator.Power a b ≡ Ok u →
      e.power sizes Inner left text ≡ Ok (u, rest)
  power_reads left text inside mid second late rest a b u opened one comma two closed made =
      ap (λ r. r >>= λ inside. e.nested sizes Inner 44 left inside >>= λ a. e.nested sizes Inner 41 left a.1 >>= λ b.
      placed left (applied operator.Power a.0 b.0) >>= λ v. Ok (v, b.1)) (expect_is 40 text inside opened)
      ∙ ap (λ r. r >>= λ a. e.nested sizes Inner 41 left a.1 >>= λ b. placed left (applied operator.Power a.0 b.0) >>= λ v. Ok (v, b.1))
      (nested_reads 44 left inside a mid second one comma refl refl)
      ∙ ap (λ r. r >>= λ b. placed left (applied operator.Power a b.0) >>= λ v. Ok (v, b.1))
      (nested_reads 41 left second b late rest two closed refl refl)
      ∙ ap (λ r. placed left r >>= λ v. Ok (v, rest)) made

  operand_reads : Reads (e.operand sizes Inner) (g.IsOperand sizes R) (λ _. Unit {0})
  unfolding e.operand
  operand_reads text v rest (g.number t w first) ends =
      ap (λ a. e.operand_by sizes Inner a (length (past_spaces t)) (g.after t)) first
  operand_reads text v rest (g.group t mid r w first inner closed) ends =
      ap (λ a. e.operand_by sizes Inner a (length (past_spaces t)) (g.after t)) first
      ∙ group_reads function.Same (length (past_spaces t)) (g.after t) w w mid r inner closed refl
  operand_reads text v rest (g.call f t inside mid r w u first opened inner closed made) ends =
      ap (λ a. e.operand_by sizes Inner a (length (past_spaces t)) (g.after t)) first
      ∙ ap (λ r. r >>= e.group sizes Inner f (length (past_spaces t))) (expect_is 40 (g.after t) inside opened)
      ∙ group_reads f (length (past_spaces t)) inside w u mid r inner closed made
  operand_reads text v rest (g.power t inside mid second late r a b u first opened one comma two closed made) ends =
      ap (λ x. e.operand_by sizes Inner x (length (past_spaces t)) (g.after t)) first
      ∙ power_reads (length (past_spaces t)) (g.after t) inside mid second late r a b u opened one comma two closed made

  module _ (keeps : Keeps R) where
    product_reads : Reads (e.chain line.Product (e.operand sizes Inner)) (g.IsChain line.Product (g.IsOperand sizes R)) (Ends line.Product)
    product_reads text v rest is ends =
        let n = chain_goes line.Product (e.operand sizes Inner) (g.IsOperand sizes R) (λ _. Unit {0}) (operand_over sizes R keeps)
        operand_reads (λ m o same. tt) text v rest is tt in
        let same = chain_spaced line.Product (g.IsOperand sizes R) text v rest is in
        let over : Ends line.Product rest = subst (Ends line.Product) same ends in
        sym n.2 ∙ more_none line.Product (e.operand sizes Inner) n.0 v rest (sym over)

    sum_reads : (text : List ℕ) (v : ℕ) (rest : List ℕ) → g.SumOf sizes R text v rest → IsOver rest →
        e.at_line sizes Inner line.Sum text ≡ Ok (v, rest)
    sum_reads text v rest is over =
        let same = chain_spaced line.Sum (g.IsChain line.Product (g.IsOperand sizes R)) text v rest is in
        let sum : Ends line.Sum rest = subst (Ends line.Sum) same over.0 in
        let product : Ends line.Product rest = subst (Ends line.Product) same over.1 in
        let n = chain_goes line.Sum (e.chain line.Product (e.operand sizes Inner)) (g.IsChain line.Product (g.IsOperand sizes R))
        (Ends line.Product) (chain_over line.Product (g.IsOperand sizes R) (operand_over sizes R keeps)) product_reads
        (λ m o plus. sum_only (front m) o plus) text v rest is product in
        sym n.2 ∙ more_none line.Sum (e.chain line.Product (e.operand sizes Inner)) n.0 v rest (sym sum)

further_reads : (sizes : List Size) (d : ℕ) → InnerReads (e.further sizes d) (g.Further sizes d)
unfolding e.further g.Further
further_reads sizes zero left text v rest is over = absurd is
further_reads sizes (suc d) left text v rest is over =
    sum_reads sizes (e.further sizes d) (g.Further sizes d) (further_reads sizes d) (further_over sizes d) text v rest is over

pub expression_reads : (sizes : List Size) (text : List ℕ) (v : ℕ) (rest : List ℕ) → g.IsExpression sizes text v rest →
    e.braced sizes text ≡ Ok (v, rest)
unfolding e.braced
expression_reads sizes text v rest is =
    ap (λ r. r >>= λ x. expect 125 x.1 >>= λ rest. Ok (x.0, rest))
    (sum_reads sizes (e.further sizes 64) (g.Further sizes 64) (further_reads sizes 64) (further_over sizes 64) text v is.mid is.sum
    (over_at 125 is.mid rest is.closed refl refl))
    ∙ ap (λ r. r >>= λ rest. Ok (v, rest)) (expect_is 125 is.mid rest is.closed)
