-- How the functions of the parser put together what they found.
use Rattle.std.proofs.Common.{◌≡◌, ◌≢◌, ℕ, zero, suc, ◌-◌, true, List, [], ◌∷◌, ◌++◌, length, Result, Ok, Err, refl, sym, ap, ◌∙◌, subst}
use Rattle.std.proofs.Common.{arith, append_assoc}
use Rattle.std.proofs.lemmas.List.{append-nil}
use Rattle.std.specs.Prelude.{IfOk}
use Rattle.pram_tokens.specs.declared.token.Binary.{Binary}
use Rattle.pram_tokens.specs.declared.token.Binary.TheVariants as op
use Rattle.pram_tokens.specs.declared.token.Mark.{Mark}
use Rattle.pram_tokens.specs.declared.token.Mark.TheVariants as mark
use Rattle.pram_tokens.specs.declared.token.Name.{Name}
use Rattle.pram_tokens.specs.declared.token.Numeral.{Numeral}
use Rattle.pram_tokens.specs.declared.token.Token.{Token}
use Rattle.pram_tokens.specs.declared.token.Token.TheVariants as token
use Rattle.pram_trees.specs.declared.tree.Prefix.{Prefix}
use Rattle.pram_trees.specs.declared.tree.Prefix.TheVariants as prefix
use Rattle.pram_trees.specs.declared.level.Level.{Level}
use Rattle.pram_trees.specs.declared.level.Level.TheVariants as level
use Rattle.pram_trees.specs.declared.tree.Expr.{Expr}
use Rattle.pram_trees.specs.declared.tree.Expr.TheVariants as e
use Rattle.pram_trees.specs.Grammar.{tokens, step_tokens, chain, joins, prefix_token, AreSteps, IsChainLevel, chained, compared, number}
use Rattle.pram_trees.specs.Grammar.{name, element, paren, minus, not, Fits}
use Rattle.pram_trees.specs.Machine.{verdict}
use Rattle.pram_trees.specs.Symbols.{Stack, Operand, Rest, Subscript, Want, enter, tighter, again, same_mark}
use Rattle.pram_trees.specs.Follows.{Found, FoundInside, FoundNamed, FoundFurther, inside, further, IsOperatorAt}
use Rattle.pram_trees.proofs.ExprTokens.{tokens-Number, tokens-Name, tokens-Element, tokens-Paren, tokens-Prefix, tokens-chain}
use Rattle.pram_parser.proofs.Marks.{code_is}
use Rattle.pram_parser.proofs.Exits.{Leads}

pub ok_along : {X E : Type 0} (P Q : X → Type 0) (r : Result X E) → ((x : X) → P x → Q x) → IfOk r P → IfOk r Q
ok_along P Q (Ok x) f h = f x h
ok_along P Q (Err y) f h = tt

-- The tree of what was found. A boxed part y is the part x.

pub found_number : (d : ℕ) (n : Numeral) (t : Token) (ts rest : List Token) → ts ≡ t ∷ rest → t ≡ token.Number n →
    Found level.Atom d ts (e.Number n) rest
found_number d n t ts rest whole is = (number n, whole ∙ ap (λ v. v ∷ rest) is ∙ sym (ap (λ v. v ++ rest) (tokens-Number n)))

pub found_paren : (d : ℕ) (m : Mark) (t : Token) (x y : Expr) (ts mid rest : List Token) → ts ≡ t ∷ mid → t ≡ token.Mark m →
    same_mark mark.OpenParen m ≡ true →
    FoundInside mark.CloseParen d mid x rest → y ≡ x → Found level.Atom d ts (e.Paren y) rest
found_paren d m t x y ts mid rest whole is opens h box =
    let front : t ≡ token.Mark mark.OpenParen = is ∙ ap token.Mark (sym (code_is mark.OpenParen m opens)) in
    subst (λ z. Found level.Atom d ts (e.Paren z) rest) (sym box) (
      paren x h.0,
      whole ∙ ap (λ v. v ∷ mid) front ∙ ap (λ v. token.Mark mark.OpenParen ∷ v) h.1
          ∙ sym (ap (λ v. v ++ rest) (tokens-Paren x)),
    )

pub found_name : (d : ℕ) (x y : Name) (ts : List Token) → y ≡ x → FoundNamed x d ts (e.Name y) ts
found_name d x y ts same = subst (λ z. FoundNamed x d ts (e.Name z) ts) (sym same) (name x, sym (ap (λ v. v ++ ts) (tokens-Name x)))

pub found_element : (d : ℕ) (x y : Name) (i j : Expr) (ts mid rest : List Token) → ts ≡ token.Mark mark.OpenBracket ∷ mid →
    FoundInside mark.CloseBracket d mid i rest → y ≡ x → j ≡ i → FoundNamed x d ts (e.Element y j) rest
found_element d x y i j ts mid rest whole h same box =
    subst (λ z. FoundNamed x d ts (e.Element z j) rest) (sym same)
    (subst (λ z. FoundNamed x d ts (e.Element x z) rest) (sym box) (
      element x i h.0,
      ap (λ v. token.Name x ∷ v) (whole ∙ ap (λ v. token.Mark mark.OpenBracket ∷ v) h.1)
          ∙ sym (ap (λ v. v ++ rest) (tokens-Element x i)),
    ))

prefix_spelt : (p : Prefix) (x : Expr) (ts mid rest : List Token) → ts ≡ prefix_token p ∷ mid → mid ≡ tokens x ++ rest →
    ts ≡ tokens (e.Prefix p x) ++ rest
prefix_spelt p x ts mid rest whole h = whole ∙ ap (λ v. prefix_token p ∷ v) h ∙ sym (ap (λ v. v ++ rest) (tokens-Prefix p x))

pub found_minus : (d : ℕ) (x y : Expr) (ts mid rest : List Token) → ts ≡ token.Binary op.Subtract ∷ mid →
    FoundFurther level.Unary d mid x rest → y ≡ x →
    Found level.Unary d ts (e.Prefix prefix.Negate y) rest
found_minus d x y ts mid rest whole h box =
    subst (λ z. Found level.Unary d ts (e.Prefix prefix.Negate z) rest) (sym box) (
      minus x h.0,
      prefix_spelt prefix.Negate x ts mid rest whole h.1,
    )

pub found_not : (d : ℕ) (x y : Expr) (ts mid rest : List Token) → ts ≡ token.Not ∷ mid → FoundFurther level.Negation d mid x rest → y ≡ x →
    Found level.Negation d ts (e.Prefix prefix.Not y) rest
found_not d x y ts mid rest whole h box =
    subst (λ z. Found level.Negation d ts (e.Prefix prefix.Not z) rest) (sym box) (
      not x h.0,
      prefix_spelt prefix.Not x ts mid rest whole h.1,
    )

pub found_further : (l : Level) (d : ℕ) (x : Expr) (ts rest : List Token) → d ≢ 0 → Found l (d - 1) ts x rest → FoundFurther l d ts x rest
found_further l zero x ts rest some h = absurd (some refl)
found_further l (suc d) x ts rest some h = let same : suc d - 1 ≡ d = omega arith in (subst (λ n. Fits n l x) same h.0, h.1)

-- What the machine goes on with.

pub lead_paren : (d : ℕ) (m : Mark) (t : Token) (ts mid : List Token) → ts ≡ t ∷ mid → t ≡ token.Mark m →
    same_mark mark.OpenParen m ≡ true →
    Leads (λ k. verdict ts (Operand level.Atom d ∷ k)) (inside mark.CloseParen d (length ts) mid)
unfolding enter
lead_paren d m t ts mid whole is opens k =
    let front : t ≡ token.Mark mark.OpenParen = is ∙ ap token.Mark (sym (code_is mark.OpenParen m opens)) in
    let all = whole ∙ ap (λ v. v ∷ mid) front in
    (k, ap (λ v. verdict v (Operand level.Atom d ∷ k)) all ∙ sym (ap (λ v. inside mark.CloseParen d (length v) mid k) all))

pub lead_subscript : (d : ℕ) (ts mid : List Token) → ts ≡ token.Mark mark.OpenBracket ∷ mid → Leads (λ k. verdict ts (Subscript d ∷ k))
    (inside mark.CloseBracket d (length ts) mid)
lead_subscript d ts mid all k =
    (k, ap (λ v. verdict v (Subscript d ∷ k)) all ∙ sym (ap (λ v. inside mark.CloseBracket d (length v) mid k) all))

pub lead_minus : (d : ℕ) (ts mid : List Token) → ts ≡ token.Binary op.Subtract ∷ mid → Leads (λ k. verdict ts (Operand level.Unary d ∷ k))
    (further level.Unary d (length ts) mid)
unfolding enter
lead_minus d ts mid all k = (
  k,
  ap (λ v. verdict v (Operand level.Unary d ∷ k)) all
      ∙ sym (ap (λ v. further level.Unary d (length v) mid k) all),
)

pub lead_not : (d : ℕ) (ts mid : List Token) → ts ≡ token.Not ∷ mid → Leads (λ k. verdict ts (Operand level.Negation d ∷ k))
    (further level.Negation d (length ts) mid)
unfolding enter
lead_not d ts mid all k = (
  k,
  ap (λ v. verdict v (Operand level.Negation d ∷ k)) all
      ∙ sym (ap (λ v. further level.Negation d (length v) mid k) all),
)

pub lead_further : (l : Level) (d left : ℕ) (ts : List Token) → d ≢ 0 → (k : Stack) →
    further l d left ts k ≡ verdict ts (Operand l (d - 1) ∷ k)
lead_further l zero left ts some k = absurd (some refl)
lead_further l (suc d) left ts some k = let same : d ≡ suc d - 1 = omega arith in ap (λ n. verdict ts (Operand l n ∷ k)) same

pub into_inside : (m : Mark) (d left : ℕ) (ts : List Token) → d ≢ 0 → (k : Stack) →
    inside m d left ts k ≡ verdict ts (Operand level.Expression (d - 1) ∷ (Want m ∷ k))
into_inside m zero left ts some k = absurd (some refl)
into_inside m (suc d) left ts some k =
    let same : d ≡ suc d - 1 = omega arith in ap (λ n. verdict ts (Operand level.Expression n ∷ (Want m ∷ k))) same

-- a line whose operands stand on the next line
abbrev pub IsJoining : Level → Type 0
IsJoining level.Comparison = Unit {0}
IsJoining l = IsChainLevel l

pub joining : (l : Level) → IsChainLevel l → IsJoining l
joining level.Comparison h = tt
joining level.Expression h = h
joining l h = h

pub widen : (l : Level) → IsJoining l → (d : ℕ) (ts : List Token) (k : Stack) →
    verdict ts (Operand l d ∷ k) ≡ verdict ts (Operand (tighter l) d ∷ (Rest l d ∷ k))
unfolding enter
widen level.Expression h d [] k = refl
widen level.Expression h d (t ∷ ts) k = refl
widen level.Conjunction h d [] k = refl
widen level.Conjunction h d (t ∷ ts) k = refl
widen level.Comparison h d [] k = refl
widen level.Comparison h d (t ∷ ts) k = refl
widen level.Sum h d [] k = refl
widen level.Sum h d (t ∷ ts) k = refl
widen level.Term h d [] k = refl
widen level.Term h d (t ∷ ts) k = refl
widen level.Negation h d ts k = absurd h
widen level.Unary h d ts k = absurd h
widen level.Atom h d ts k = absurd h

pub at_operator : (l : Level) (d : ℕ) (o : Binary) (ts rest : List Token) → IsOperatorAt l ts o rest → (k : Stack) →
    verdict ts (Rest l d ∷ k) ≡ verdict rest (Operand (tighter l) d ∷ again l d k)
at_operator l d o ts rest h k = ap (λ v. verdict v (Rest l d ∷ k)) h.0 ∙ rw h.1

pub again_is : (l : Level) → IsChainLevel l → (d : ℕ) (k : Stack) → again l d k ≡ Rest l d ∷ k
again_is level.Expression h d k = refl
again_is level.Conjunction h d k = refl
again_is level.Sum h d k = refl
again_is level.Term h d k = refl
again_is level.Comparison h d k = absurd h
again_is level.Negation h d k = absurd h
again_is level.Unary h d k = absurd h
again_is level.Atom h d k = absurd h

-- one more step of a chain

pub AreSteps-push : (l : Level) (P : Expr → Type 0) (rest : List (Binary × Expr)) (s : Binary × Expr) → AreSteps l P rest →
    joins l s.0 ≡ true → P s.1 → AreSteps l P (rest ++ s ∷ [])
AreSteps-push l P [] s h joined one = (joined, one, tt)
AreSteps-push l P (r ∷ rest) s h joined one = (h.0, h.1, AreSteps-push l P rest s h.2 joined one)

pub step_tokens-push : (rest : List (Binary × Expr)) (s : Binary × Expr) → step_tokens (rest ++ s ∷ []) ≡ step_tokens rest
    ++ token.Binary s.0 ∷ tokens s.1
step_tokens-push [] s = ap (λ v. token.Binary s.0 ∷ v) (append-nil (tokens s.1))
step_tokens-push (r ∷ rest) s = ap (λ v. token.Binary r.0 ∷ v) (ap (λ v. tokens r.1 ++ v) (step_tokens-push rest s)
    ∙ sym (append_assoc (tokens r.1) (step_tokens rest) (token.Binary s.0 ∷ tokens s.1)))

pub spelt_more : (first : Expr) (rest : List (Binary × Expr)) (o : Binary) (x : Expr) (ts mid inner after : List Token) →
    ts ≡ (tokens first ++ step_tokens rest) ++ mid → mid ≡ token.Binary o ∷ inner → inner ≡ tokens x ++ after →
    ts ≡ (tokens first ++ step_tokens (rest ++ (o, x) ∷ [])) ++ after
spelt_more first rest o x ts mid inner after whole at behind =
    whole ∙ ap (λ v. (tokens first ++ step_tokens rest) ++ v) (at ∙ ap (λ v. token.Binary o ∷ v) behind)
    ∙ sym (append_assoc (tokens first ++ step_tokens rest) (token.Binary o ∷ tokens x) after)
    ∙ ap (λ v. v ++ after) (append_assoc (tokens first) (step_tokens rest) (token.Binary o ∷ tokens x)
    ∙ ap (λ v. tokens first ++ v) (sym (step_tokens-push rest (o, x))))

pub chain_fits : (l : Level) → IsChainLevel l → (d : ℕ) (first : Expr) (rest : List (Binary × Expr)) → Fits d (tighter l) first →
    AreSteps l (Fits d (tighter l)) rest → Fits d l (chain first rest)
chain_fits level.Expression h d first rest one more = chained first rest one more
chain_fits level.Conjunction h d first rest one more = chained first rest one more
chain_fits level.Sum h d first rest one more = chained first rest one more
chain_fits level.Term h d first rest one more = chained first rest one more
chain_fits level.Comparison h d first rest one more = absurd h
chain_fits level.Negation h d first rest one more = absurd h
chain_fits level.Unary h d first rest one more = absurd h
chain_fits level.Atom h d first rest one more = absurd h

pub found_chain : (l : Level) → IsChainLevel l → (d : ℕ) (first x : Expr) (rest : List (Binary × Expr)) (ts after : List Token) →
    Fits d (tighter l) first → AreSteps l (Fits d (tighter l)) rest → ts ≡ (tokens first ++ step_tokens rest) ++ after →
    x ≡ chain first rest → Found l d ts x after
found_chain l h d first x rest ts after one more whole is =
    subst (λ z. Found l d ts z after) (sym is) (
      chain_fits l h d first rest one more,
      whole
          ∙ ap (λ v. v ++ after) (sym (tokens-chain first rest)),
    )

pub found_compared : (d : ℕ) (o : Binary) (first second x : Expr) (steps : List (Binary × Expr)) (ts mid inner after : List Token) →
    Found level.Sum d ts first mid → IsOperatorAt level.Comparison mid o inner → Found level.Sum d inner second after → x ≡ first →
    steps ≡ (o, second) ∷ [] →
    Found level.Comparison d ts (e.Chain x steps) after
found_compared d o first second x steps ts mid inner after one at two box pushed =
    subst (λ z. Found level.Comparison d ts (e.Chain z steps) after) (sym box)
    (subst (λ z. Found level.Comparison d ts (e.Chain first z) after) (sym pushed) (
      compared first ((o, second) ∷ []) one.0 (at.1, two.0, tt) tt,
      spelt_more first [] o second ts mid inner after (one.1 ∙ ap (λ v. v ++ mid) (sym (append-nil (tokens first)))) at.0 two.1
          ∙ ap (λ v. v ++ after) (sym (tokens-chain first ((o, second) ∷ []))),
    ))
