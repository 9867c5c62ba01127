-- The machine's verdict of a whole program, in terms of the grammar.
use Rattle.std.proofs.Common.{◌≡◌, ℕ, zero, suc, ◌+◌, Err, true, false, List, [], ◌∷◌, ◌++◌, length, refl, sym, ap, ◌∙◌, subst, arith}
use Rattle.std.proofs.Common.{append_assoc, nat_eq}
use Rattle.std.proofs.lemmas.List.{append-nil}
use Rattle.std.proofs.lemmas.Bool.{eqb-true}
use Rattle.pram_model.specs.declared.rule.Rule.{Rule}
use Rattle.pram_tokens.specs.declared.token.Location.{Location}
use Rattle.pram_tokens.specs.declared.token.Mark.TheVariants as mark
use Rattle.pram_tokens.specs.declared.token.Name.{Name}
use Rattle.pram_tokens.specs.declared.token.Numeral.{Numeral}
use Rattle.pram_tokens.specs.declared.token.Token.{Token}
use Rattle.pram_tokens.specs.declared.token.Token.TheVariants as token
use Rattle.pram_trees.specs.declared.tree.Declaration.{Declaration}
use Rattle.pram_trees.specs.declared.tree.Stmt.{Stmt}
use Rattle.pram_tokens.specs.Tokens.{AreReal}
use Rattle.pram_trees.specs.Blocks.{block_tokens, IsBlock}
use Rattle.pram_trees.specs.Program.{ProgramTree, rule_token, declarations_tokens, header_tokens, program_tokens, IsTree, IsProgram, limit}
use Rattle.pram_trees.specs.Machine.{verdict, Verdict, Accepted, SyntaxAt, TooDeepAt, start, statements_and_end}
use Rattle.pram_trees.specs.Symbols.{Stack, Want, WantNumber, Declarations, program}
use Rattle.pram_trees.specs.declared.parse_error.ParseError.{ParseError}
use Rattle.pram_trees.specs.declared.parse_error.ParseError.TheVariants.{OutOfMemory, Syntax}
use Rattle.pram_trees.specs.declared.parse_error.ParseError.TheVariants as error
use Rattle.pram_trees.specs.Faults.{Ends, IsSyntaxFault, IsDepthFault, IsRefusedRightly, Answers}
use Rattle.pram_trees.specs.Follows.{Follows}
use Rattle.pram_tokens.proofs.Real.{append_real, front_real}
use Rattle.pram_parser.proofs.Covering.{Covers}
use Rattle.pram_parser.proofs.StmtCovering.{body_back}
use Rattle.pram_parser.proofs.Ending.{RefusedAt, viable}
use Rattle.pram_parser.proofs.Raising.{stuck, raise_syntax, opens}
use Rattle.pram_parser.proofs.DeclReading.{read_rule, read_declarations, same_rule, same_declarations}
use Rattle.pram_parser.proofs.StmtReading.{read_blocks}
use Rattle.pram_parser.proofs.StmtUnique.{program_same}
use Rattle.pram_parser.proofs.Widening.{more_blocks, more_levels}

-- the tokens behind the declarations
abbrev body_tokens : List Stmt → List Token
body_tokens body = block_tokens body ++ token.Mark mark.End ∷ []

-- what is expected behind the rule
abbrev behind_rule : (b d : ℕ) → Stack
behind_rule b d =
    Want mark.Semicolon ∷ (Want mark.Procs
    ∷ (WantNumber ∷ (Want mark.Semicolon ∷ (Declarations ∷ (Want mark.Begin ∷ statements_and_end b d)))))

-- the tokens behind the rule
abbrev behind_word : ProgramTree → List Token
behind_word p =
    token.Mark mark.Semicolon ∷ (token.Mark mark.Procs ∷ (token.Number p.procs ∷ (token.Mark mark.Semicolon
    ∷ (declarations_tokens p.declarations ++ (token.Mark mark.Begin ∷ body_tokens p.body)))))

accepted_tree : (b d : ℕ) (p : ProgramTree) → IsBlock b d p.body → verdict (program_tokens p) (start b d) ≡ Accepted
accepted_tree b d p h =
    read_rule p.rule p.rule_location (behind_word p) (behind_rule b d)
    ∙ read_declarations p.declarations (body_tokens p.body) (Want mark.Begin ∷ statements_and_end b d)
    ∙ read_blocks b d p.body h (Want mark.End ∷ []) (token.Mark mark.End ∷ []) tt

pub accepted : (b d : ℕ) (ts : List Token) → IsProgram b d ts → verdict ts (start b d) ≡ Accepted
accepted b d ts (p, h, is) = ap (λ l. verdict l (start b d)) is ∙ accepted_tree b d p h.is_block

is_program : (b d : ℕ) (ts : List Token) → AreReal ts → Covers (start b d) ts → IsProgram b d ts
is_program b d ts real (
  a1,
  r1,
  w1,
  e1,
  (
    a2,
    r2,
    w2,
    (r, at, e2),
    (a3, r3, w3, e3, (a4, r4, w4, e4, (a5, r5, w5, (n, e5), (a6, r6, w6, e6, (a7, r7, w7, (xs, e7), (a8, r8, w8, e8, more)))))),
  ),
) =
    let w = body_back mark.End b d [] r8 more in
    let p : ProgramTree = record { rule = r; rule_location = at; procs = n; declarations = xs; body = w.0 } in
    let e : r8 ≡ body_tokens w.0 = w.3 ∙ ap (λ l. block_tokens w.0 ++ (token.Mark mark.End ∷ l)) w.4 in
    let whole : ts ≡ program_tokens p =
    w1 ∙ ap (λ l. l ++ r1) e1 ∙ ap (λ l. token.Mark mark.Rule ∷ l) (w2 ∙ ap (λ l. l ++ r2) e2
    ∙ ap (λ l. rule_token r at ∷ l) (w3 ∙ ap (λ l. l ++ r3) e3
    ∙ ap (λ l. token.Mark mark.Semicolon ∷ l) (w4 ∙ ap (λ l. l ++ r4) e4 ∙ ap (λ l. token.Mark mark.Procs ∷ l) (w5 ∙ ap (λ l. l ++ r5) e5
    ∙ ap (λ l. token.Number n ∷ l) (w6 ∙ ap (λ l. l ++ r6) e6 ∙ ap (λ l. token.Mark mark.Semicolon ∷ l) (w7 ∙ ap (λ l. l ++ r7) e7
    ∙ ap (λ l. declarations_tokens xs ++ l) (w8 ∙ ap (λ l. l ++ r8) e8 ∙ ap (λ l. token.Mark mark.Begin ∷ l) e))))))) in
    (p, record { is_block = w.2; are_real = subst AreReal whole real }, whole)

-- any nesting lies within the limit and some more
wide : (b d : ℕ) (ts : List Token) → IsProgram b d ts → (c : ℕ) × IsProgram (c + limit) (c + limit) ts
wide b d ts (p, h, is) =
    let up = more_levels (b + limit) (d + limit + b) d p.body (more_blocks (d + limit) b d p.body h.is_block) in
    let e : d + limit + b ≡ b + d + limit = omega arith in
    let f : b + limit + d ≡ b + d + limit = omega arith in (
      b + d,
      (
        p,
        record {
          is_block = subst (λ n. IsBlock n (b + d + limit) p.body) e (subst (λ n. IsBlock (d + limit + b) n p.body) f up);
          are_real = h.are_real;
        },
        is,
      ),
    )

syntax_above : (c : ℕ) (ts : List Token) (n : ℕ) → verdict ts (start limit limit) ≡ SyntaxAt n →
    verdict ts (start (c + limit) (c + limit)) ≡ SyntaxAt n
syntax_above zero ts n h = let e : limit ≡ 0 + limit = omega arith in subst (λ m. verdict ts (start m m) ≡ SyntaxAt n) e h
syntax_above (suc c) ts n h =
    let e : suc (c + limit) ≡ suc c + limit = omega arith in
    subst (λ m. verdict ts (start m m) ≡ SyntaxAt n) e (raise_syntax ts (start (c + limit) (c + limit)) n (syntax_above c ts n h))

refused_only : (v : Verdict) (n : ℕ) → v ≡ Accepted → RefusedAt v n → ⊥
refused_only v n is h = subst (λ w. RefusedAt w n) is h

-- the front of real tokens, gone on with by real tokens
real_with : (ts front back more : List Token) → ts ≡ front ++ back → AreReal ts → AreReal more → AreReal (front ++ more)
real_with ts front back more whole real h = append_real front more (front_real front back (subst AreReal whole real)) h

pub syntax_fault : (ts : List Token) (n : ℕ) → AreReal ts → verdict ts (start limit limit) ≡ SyntaxAt n → IsSyntaxFault ts n
syntax_fault ts n real h =
    let v = viable ts (start limit limit) n (subst (λ w. RefusedAt w n) (sym h) refl) in
    record {
      front = v.front;
      back = v.back;
      whole = v.whole;
      is_left = v.is_left;
      begins = (v.more, is_program limit limit (v.front ++ v.more) (real_with ts v.front v.back v.more v.whole real v.real) v.goes_on);
      ends = by v.front v.back v.whole v.is_left;
    }
  where
    by : (front back : List Token) → ts ≡ front ++ back → length back ≡ n → Ends front back
    by front [] whole left = λ b d p.
        let w = wide b d front p in
        let e = accepted (w.0 + limit) (w.0 + limit) ts (subst (IsProgram (w.0 + limit) (w.0 + limit)) (sym (append-nil front)
        ∙ sym whole) w.1) in
        absurd (refused_only _ n e (subst (λ v. RefusedAt v n) (sym (syntax_above w.0 ts n h)) refl))
    by front (t ∷ back) whole left = λ b d p.
        let w = wide b d ((front ++ t ∷ []) ++ p.0) p.1 in
        let grouped : (front ++ t ∷ []) ++ p.0 ≡ front ++ (t ∷ p.0) = append_assoc front (t ∷ []) p.0 in
        let e = accepted (w.0 + limit) (w.0 + limit) (front ++ (t ∷ p.0)) (subst (IsProgram (w.0 + limit) (w.0 + limit)) grouped w.1) in
        let refused = subst (λ l. verdict l (start (w.0 + limit) (w.0 + limit)) ≡ SyntaxAt n) whole (syntax_above w.0 ts n h) in
        let at = stuck front t back p.0 (start (w.0 + limit) (w.0 + limit))
        (subst (λ v. RefusedAt v (length (t ∷ back))) (sym refused) (sym left)) in
        refused_only _ _ e at

pub depth_fault : (ts : List Token) (n : ℕ) → AreReal ts → verdict ts (start limit limit) ≡ TooDeepAt n → IsDepthFault ts n
depth_fault ts n real h =
    let o = opens ts (start limit limit) n h in
    let one = o.opener ∷ [] in
    let refused = subst (λ l. verdict l (start limit limit) ≡ TooDeepAt n) o.whole h in
    let opener_whole : ts ≡ (o.front ++ one) ++ o.back = o.whole ∙ sym (append_assoc o.front one o.back) in
    let more_real = subst AreReal (append_assoc o.front one o.more) (real_with ts (o.front ++ one) o.back o.more opener_whole real
    o.more_real) in
    record {
      front = o.front;
      opener = o.opener;
      back = o.back;
      whole = o.whole;
      is_left = o.is_left;
      begins = (
        o.less,
        is_program limit limit (o.front
            ++ o.less) (real_with ts o.front (o.opener ∷ o.back) o.less o.whole real o.less_real) o.shallow,
      );
      within = λ p. refused_only _ _
          (accepted limit limit (o.front ++ (o.opener ∷ p.0)) (subst (IsProgram limit limit) (append_assoc o.front one p.0) p.1))
          (stuck o.front o.opener o.back p.0 (start limit limit) (subst (λ v. RefusedAt v (length (o.opener ∷ o.back))) (sym refused)
          (sym o.is_left)));
      deeper = (
        suc limit,
        suc limit,
        (
          o.more,
          subst (IsProgram (suc limit) (suc limit)) (sym (append_assoc o.front one o.more))
              (is_program (suc limit) (suc limit) (o.front ++ o.opener ∷ o.more) more_real o.deep),
        ),
      );
    }

-- no list of tokens stands for two trees

pub same_tree : (b c d e : ℕ) (p q : ProgramTree) → IsBlock b d p.body → IsBlock c e q.body → program_tokens p ≡ program_tokens q → p ≡ q
same_tree b c d e p q h g eq =
    let head : rule_token p.rule p.rule_location ≡ rule_token q.rule q.rule_location = cc in
    let name_is : name_of (rule_token p.rule p.rule_location) ≡ name_of (rule_token q.rule q.rule_location) = ap name_of head in
    let one = same_rule p.rule q.rule (ap (λ x. x.text) name_is) in
    let place : p.rule_location ≡ q.rule_location = ap (λ x. x.location) name_is in
    let number_is : p.procs ≡ q.procs = cc in
    let two = same_declarations p.declarations q.declarations (body_tokens p.body) (body_tokens q.body) cc in
    let three = program_same b c d e p.body q.body h g two.1 in
    ap (λ z. tree z p.rule_location p.procs p.declarations p.body) one ∙ ap (λ z. tree q.rule z p.procs p.declarations p.body) place
    ∙ ap (λ z. tree q.rule q.rule_location z p.declarations p.body) number_is ∙ ap (λ z. tree q.rule q.rule_location q.procs z p.body) two.0
    ∙ ap (λ z. tree q.rule q.rule_location q.procs q.declarations z) three
  where
    name_of : Token → Name
    name_of (token.Name x) = x
    name_of t = record { text = []; location = record { offset = 0; line = 0 } }

    tree : Rule → Location → Numeral → List Declaration → List Stmt → ProgramTree
    tree r at n xs body = record { rule = r; rule_location = at; procs = n; declarations = xs; body = body }

-- what the parser's promise says of a whole program

pub rightly : {X : Type 0} (Y : Type 0) (rest : X → List Token) (ts : List Token) (x : ParseError) → AreReal ts →
    Follows (λ k. verdict ts (program limit limit k)) rest (Err x) →
    IsRefusedRightly {X = Y} ts (Err x)
rightly Y rest ts OutOfMemory real h = tt
rightly Y rest ts (Syntax n) real h = syntax_fault ts n real (h [])
rightly Y rest ts (error.TooDeep n) real h = depth_fault ts n real (h [])

pub leftover : (rest : List Token) → nat_eq (length rest) 0 ≡ false → verdict rest [] ≡ SyntaxAt (length rest)
leftover [] never = cc
leftover (t ∷ rest) some = refl

no_verdict : (ts : List Token) (n : ℕ) (p : ProgramTree) → IsTree limit limit p → ts ≡ program_tokens p →
    RefusedAt (verdict ts (start limit limit)) n → ⊥
no_verdict ts n p h is refused = refused_only _ n (accepted limit limit ts (p, h, is)) refused

pub no_syntax_fault : (ts : List Token) (n : ℕ) (p : ProgramTree) → IsTree limit limit p → ts ≡ program_tokens p →
    verdict ts (start limit limit) ≡ SyntaxAt n → ⊥
no_syntax_fault ts n p h is at = no_verdict ts n p h is (subst (λ v. RefusedAt v n) (sym at) refl)

-- the parser refuses nothing of the grammar
pub none_refused : {X : Type 0} (rest : X → List Token) (ts : List Token) (x : ParseError) →
    Follows (λ k. verdict ts (program limit limit k)) rest (Err x) →
    (p : ProgramTree) → IsTree limit limit p → ts ≡ program_tokens p → Answers p (Err x)
none_refused rest ts OutOfMemory follows p h is = tt
none_refused rest ts (Syntax n) follows p h is = no_syntax_fault ts n p h is (follows [])
none_refused rest ts (error.TooDeep n) follows p h is = no_verdict ts n p h is (subst (λ v. RefusedAt v n) (sym (follows [])) refl)

pub only : (ts rest : List Token) (p other : ProgramTree) → nat_eq (length rest) 0 ≡ true → IsBlock limit limit p.body →
    ts ≡ header_tokens p.rule p.rule_location p.procs (declarations_tokens p.declarations
    ++ (token.Mark mark.Begin ∷ (block_tokens p.body ++ (token.Mark mark.End ∷ rest)))) →
    IsTree limit limit other → ts ≡ program_tokens other → p ≡ other
only ts rest p other none within found h is =
    same_tree limit limit limit limit p other within h.is_block
    (ap (λ l. header_tokens p.rule p.rule_location p.procs (declarations_tokens p.declarations
    ++ (token.Mark mark.Begin ∷ (block_tokens p.body ++ (token.Mark mark.End ∷ l)))))
    (sym (empty rest none)) ∙ sym found ∙ is)
  where
    empty : (l : List Token) → nat_eq (length l) 0 ≡ true → l ≡ []
    empty [] h = refl
    empty (t ∷ l) h = absurd (omega (arith, eqb-true (length (t ∷ l)) 0 h))
