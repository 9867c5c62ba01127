-- What an expression takes of a text has no line end.
use Rattle.std.proofs.Common.{◌≡◌, ℕ, zero, suc, ◌+◌, ◌-◌, Bool, true, false, List, [], ◌∷◌, ◌++◌, take, length, max}
use Rattle.std.proofs.Common.{None, refl, sym, ap, ◌∙◌, arith, cond, append_assoc, length-append}
use Rattle.std.specs.List.{prefix_len}
use Rattle.std.proofs.lemmas.List.{take-append-drop}
use Rattle.std.proofs.Math.Seq.{take-append_seam}
use Rattle.pram_model.specs.Names.{is_word}
use Rattle.sized_texts.specs.declared.atom.Atom.{Atom}
use Rattle.sized_texts.specs.declared.atom.Atom.TheVariants as atom
use Rattle.sized_texts.specs.declared.line.Line.{Line}
use Rattle.sized_texts.specs.declared.line.Line.TheVariants as line
use Rattle.sized_texts.specs.declared.reason.Reason.TheVariants as reason
use Rattle.sized_texts.specs.declared.size.Size.{Size}
use Rattle.sized_texts.specs.Expressions.{atom_of, operator_of}
use Rattle.sized_texts.specs.Front.{behind, front, is_space, past_spaces}
use Rattle.sized_texts.specs.Grammar as g
use Rattle.sized_laws.proofs.Ends.{ends, ends_append, no_end}

-- the second text is behind a part of the first that has no line end
pub record Over (text rest : List ℕ) : Type 0 where
  pub mid : List ℕ
  pub parts : text ≡ mid ++ rest
  pub one_line : ends mid ≡ 0

over_none : (text : List ℕ) → Over text text
over_none text = record { mid = []; parts = refl; one_line = refl }

over_then : (a b c : List ℕ) → Over a b → Over b c → Over a c
over_then a b c x y =
    let e = ends_append x.mid y.mid in
    let first = x.one_line in
    let second = y.one_line in
    record {
      mid = x.mid ++ y.mid;
      parts = x.parts ∙ ap (λ r. x.mid ++ r) y.parts ∙ sym (append_assoc x.mid y.mid c);
      one_line = omega (arith, e, first, second);
    }

-- bytes that pass a test that a line end doesn't
passing : (p : ℕ → Bool) → p 10 ≡ false → (text : List ℕ) → ends (take (prefix_len p text) text) ≡ 0
passing p fails [] = refl
passing p fails (b ∷ rest) = by (p b) refl (passing p fails rest)
  where
    by : (t : Bool) → t ≡ p b → ends (take (prefix_len p rest) rest) ≡ 0 →
        ends (take (cond t (1 + prefix_len p rest) 0) (b ∷ rest)) ≡ 0
    by false is on = refl
    by true is on =
        let e : 1 + prefix_len p rest ≡ suc (prefix_len p rest) = omega arith in
        let first = no_end b (λ same. let k = ap p same in absurd (cc)) in
        ap (λ n. ends (take n (b ∷ rest))) e ∙ omega (arith, first, on)

past_over : (text : List ℕ) → Over text (past_spaces text)
past_over text =
    record {
      mid = take (prefix_len is_space text) text;
      parts = sym (take-append-drop (prefix_len is_space text) text);
      one_line = passing is_space refl text;
    }

-- a token that is no line end
token_over : (text : List ℕ) → (front text ≡ 10 ∷ [] → ⊥) → Over text (behind text)
token_over [] differs = over_none []
token_over (b ∷ rest) differs =
    record {
      mid = front (b ∷ rest);
      parts = sym (take-append-drop (max (prefix_len is_word (b ∷ rest)) 1) (b ∷ rest));
      one_line = by (is_word b) refl;
    }
  where
    by : (t : Bool) → t ≡ is_word b → ends (take (max (cond t (1 + prefix_len is_word rest) 0) 1) (b ∷ rest)) ≡ 0
    by false is =
        let alone : front (b ∷ rest) ≡ b ∷ [] = ap (λ t. take (max (cond t (1 + prefix_len is_word rest) 0) 1) (b ∷ rest)) (sym is) in
        let first = no_end b (λ same. differs (alone ∙ ap (λ x. x ∷ []) same)) in
        omega (arith, first)
    by true is =
        let e : max (1 + prefix_len is_word rest) 1 ≡ suc (prefix_len is_word rest) = omega arith in
        let first = no_end b (λ same. let k = ap is_word same in absurd (cc)) in
        let on = passing is_word refl rest in
        ap (λ n. ends (take n (b ∷ rest))) e ∙ omega (arith, first, on)

-- an operand's first token
after_over : (sizes : List Size) (text : List ℕ) (a : Atom) → g.first_atom sizes text ≡ a → (a ≡ atom.Bad reason.NotClosed → ⊥) →
    Over text (g.after text)
after_over sizes text a is differs =
    over_then text (past_spaces text) (g.after text) (past_over text)
    (token_over (past_spaces text) (λ h. differs (sym is ∙ ap (atom_of sizes) h)))

-- a byte behind white space
then_over : (byte : ℕ) (text rest : List ℕ) → ends (byte ∷ []) ≡ 0 → g.Then byte text rest → Over text rest
then_over byte text rest none is =
    over_then text (past_spaces text) rest (past_over text) (record { mid = byte ∷ []; parts = is; one_line = none })

operator_none : (l : Line) → operator_of l (10 ∷ []) ≡ None
operator_none line.Sum = refl
operator_none line.Product = refl

abbrev pub Keeps : g.Rel → Type 0
Keeps R = (text : List ℕ) (v : ℕ) (rest : List ℕ) → R text v rest → Over text rest

pub operand_over : (sizes : List Size) (R : g.Rel) → Keeps R → Keeps (g.IsOperand sizes R)
operand_over sizes R on text v rest (g.number t w first) = after_over sizes t (atom.Value w) first (λ h. absurd (cc))
operand_over sizes R on text v rest (g.group t mid r w first inner close) =
    over_then t (g.after t) r (after_over sizes t atom.Paren first (λ h. absurd (cc)))
    (over_then (g.after t) mid r (on (g.after t) w mid inner) (then_over 41 mid r refl close))
operand_over sizes R on text v rest (g.call f t inside mid r w u first opened inner close made) =
    over_then t (g.after t) r (after_over sizes t (atom.Call f) first (λ h. absurd (cc)))
    (over_then (g.after t) inside r (then_over 40 (g.after t) inside refl opened)
    (over_then inside mid r (on inside w mid inner) (then_over 41 mid r refl close)))
operand_over sizes R on text v rest (g.power t inside mid second late r a b u first opened one comma two close made) =
    over_then t (g.after t) r (after_over sizes t atom.Power first (λ h. absurd (cc)))
    (over_then (g.after t) inside r (then_over 40 (g.after t) inside refl opened)
    (over_then inside mid r (on inside a mid one)
    (over_then mid second r (then_over 44 mid second refl comma)
    (over_then second late r (on second b late two) (then_over 41 late r refl close)))))

pub chain_over : (l : Line) (R : g.Rel) → Keeps R → Keeps (g.IsChain l R)
chain_over l R on text v rest (g.one t r w first) = over_then t r (past_spaces r) (on t w r first) (past_over r)
chain_over l R on text v rest (g.more o t mid r w x u before is next made) =
    over_then t mid (past_spaces r) (chain_over l R on t w mid before)
    (over_then mid (behind mid) (past_spaces r)
    (token_over mid (λ h. let k = ap (operator_of l) h ∙ operator_none l in absurd (cc)))
    (over_then (behind mid) r (past_spaces r) (on (behind mid) x r next) (past_over r)))

sum_over : (sizes : List Size) (R : g.Rel) → Keeps R → Keeps (g.SumOf sizes R)
sum_over sizes R on text v rest is =
    chain_over line.Sum (g.IsChain line.Product (g.IsOperand sizes R))
    (chain_over line.Product (g.IsOperand sizes R) (operand_over sizes R on)) text v rest is

pub further_over : (sizes : List Size) (d : ℕ) → Keeps (g.Further sizes d)
unfolding g.Further
further_over sizes zero text v rest is = absurd is
further_over sizes (suc d) text v rest is = sum_over sizes (g.Further sizes d) (further_over sizes d) text v rest is

-- what an expression takes, and the text behind it
pub expression_parts : (sizes : List Size) (text : List ℕ) (v : ℕ) (rest : List ℕ) → g.IsExpression sizes text v rest → Over text rest
expression_parts sizes text v rest is =
    over_then text is.mid rest
    (sum_over sizes (g.Further sizes 64) (further_over sizes 64) text v is.mid is.sum) (then_over 125 is.mid rest refl is.closed)

pub how_many : (text mid rest : List ℕ) → text ≡ mid ++ rest → length text - length rest ≡ length mid
how_many text mid rest parts = let whole = ap length parts in let both = length-append mid rest in omega (arith, whole, both)

-- what an expression takes has no line end
pub expression_over : (sizes : List Size) (text : List ℕ) (v : ℕ) (rest : List ℕ) → g.IsExpression sizes text v rest →
    ends (take (length text - length rest) text) ≡ 0
expression_over sizes text v rest is =
    let o = expression_parts sizes text v rest is in
    ap (λ n. ends (take n text)) (how_many text o.mid rest o.parts) ∙ ap (λ t. ends (take (length o.mid) t)) o.parts
    ∙ ap ends (take-append_seam o.mid rest) ∙ o.one_line
