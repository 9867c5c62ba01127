-- Programs of one statement inside pardo, which `check` accepts: for 0 <= i <= LAST pardo X := W; end, beside a shared cell a.
use Rattle.std.proofs.Common.{◌≡◌, ◌∙◌, ◌<◌, ◌^◌, ℕ, ℤ, false, pos, true, List, [], ◌∷◌, ◌++◌, None, ap, arith, codes, length}
use Rattle.std.proofs.Common.{refl, subst, sym}
use Rattle.std.proofs.lemmas.Int.{ints}
use Rattle.std.specs.declared.alloc.Global.{Global}
use Rattle.std.specs.declared.vec.Vec.{Vec}
use denote.RawPtr.{null_ptr}
use Rattle.pram_model.specs.declared.rule.Rule.TheVariants.{Erew}
use Rattle.pram_model.specs.Names.{IsName}
use Rattle.pram_tokens.specs.declared.token.Binary.TheVariants as op
use Rattle.pram_tokens.specs.declared.token.Location.{Location}
use Rattle.pram_tokens.specs.declared.token.Mark.TheVariants as mark
use Rattle.pram_tokens.specs.declared.token.Name.{Name}
use Rattle.pram_tokens.specs.declared.token.Numeral.{Numeral}
use Rattle.pram_tokens.specs.declared.token.Opening.TheVariants as opening
use Rattle.pram_tokens.specs.declared.token.Token.{Token}
use Rattle.pram_tokens.specs.declared.token.Token.TheVariants as token
use Rattle.pram_tokens.specs.Tokens.{AreReal, IsNumber}
use Rattle.pram_trees.specs.declared.level.Level.TheVariants as level
use Rattle.pram_trees.specs.declared.tree.Declaration.{Declaration}
use Rattle.pram_trees.specs.declared.tree.Declaration.TheVariants as declare
use Rattle.pram_trees.specs.declared.tree.Expr.TheVariants as e
use Rattle.pram_trees.specs.declared.tree.Stmt.{Stmt}
use Rattle.pram_trees.specs.declared.tree.Stmt.TheFolds.{fold-roll-Stmt}
use Rattle.pram_trees.specs.declared.tree.Stmt.TheOpen.{Stmt-F}
use Rattle.pram_trees.specs.declared.tree.Stmt.TheVariants as s
use Rattle.pram_trees.specs.Blocks as blocks
use Rattle.pram_trees.specs.Blocks.{block_tokens, local_tokens}
use Rattle.pram_trees.specs.Grammar as grammar
use Rattle.pram_trees.specs.Grammar.{Fits, tokens}
use Rattle.pram_trees.specs.Program.{IsTree, ProgramTree, limit, program_tokens}
use Rattle.pram_trees.proofs.ExprTokens.{tokens-Name, tokens-Number}
use Rattle.pram_trees.proofs.StmtTokens.{spell_assign, spell_pardo}
use Rattle.pram_names.specs.declared.body.Expression as value
use Rattle.pram_names.specs.declared.body.Expression.{Expression, Number}
use Rattle.pram_names.specs.declared.body.Statement.{Pardo}
use Rattle.pram_names.specs.declared.body.Step.{Step}
use Rattle.pram_names.specs.declared.body.Step as step
use Rattle.pram_names.specs.declared.body.StepTarget.{StepTarget}
use Rattle.pram_names.specs.declared.body.StepTarget.TheVariants as inner
use Rattle.pram_names.specs.declared.fault.Breach.{Breach}
use Rattle.pram_names.specs.Breaches.{Context, Judged, Use, body_context, plain, read_count, token_breaches}
use Rattle.pram_names.specs.Resolved as says
use Rattle.pram_names.specs.Resolved.{Says, SaysInner}
use Rattle.pram_names.specs.Scope.{inner_scope, meaning_of}
use Rattle.pram_names.proofs.Uses.{uses-Name, uses-Number}
use Rattle.pram_check.specs.Checked.{Checked, IsResolved}
use Rattle.pram_check.specs.Faults.{all_at, body_of_pardo, faults, keyword_faults, local_faults, new_causes, node_faults}
use Rattle.pram_check.specs.Faults.{statement_faults, target_causes, use_faults}
use Rattle.rule_laws.specs.Order.{IsAcceptedProgram}

abbrev here : Location
here = record { offset = 0; line = 1 }

abbrev pub named : List ℕ → Name
named text = record { text = text; location = here }

abbrev numeral : ℤ → Numeral
numeral n = record { value = n; location = here }

abbrev pub cell : Name
cell = named (codes "a")

abbrev pub index : Name
index = named (codes "i")

abbrev alone : Step → Vec Step Global
alone x = record {
  ptr = null_ptr;
  len = 1;
  cap = 1;
  alloc = record { memory = record { seal = tt } };
  items = x ∷ [];
  ok = (refl, omega arith);
  small = omega arith;
}

abbrev declared : List Declaration
declared = declare.Cell cell ∷ []

-- X := W;
abbrev inner_tree : Name → Name → Stmt
inner_tree x w = s.Assign x (e.Name w)

abbrev outer_tree : ℤ → List Name → Name → Name → Stmt
outer_tree last locals x w =
    s.Pardo here (e.Number (numeral (pos 0))) index (e.Number (numeral last)) locals (inner_tree x w ∷ [])

abbrev sample_tree : ℤ → List Name → Name → Name → ProgramTree
sample_tree last locals x w = record {
  rule = Erew;
  rule_location = here;
  procs = numeral (pos 2);
  declarations = declared;
  body = outer_tree last locals x w ∷ [];
}

-- the program of that tree, where X and W stand for these
abbrev pub sample : ℤ → List Name → Name → Name → StepTarget → Expression → Checked
sample last locals x w target value = record {
  tree = sample_tree last locals x w;
  rule = Erew;
  procs = 2;
  layout = record { name = codes "a"; bounds = None } ∷ [];
  uniforms = 0;
  body = Pardo here (Number (pos 0)) (Number last) (length locals) (alone (step.Assign x.location target value)) ∷ [];
}

pub number_is : (n : ℕ) → n < 2 ^ 63 → IsNumber (pos n)
number_is n h = record { no_sign = omega (arith, ints); bounded = omega (arith, ints, h) }

-- ---- tokens

abbrev inner_tokens : Name → Name → List Token
inner_tokens x w = token.Name x ∷ (token.Mark mark.Becomes ∷ (token.Name w ∷ (token.Mark mark.Semicolon ∷ [])))

abbrev outer_tokens : List Name → List Token → List Token → List Token → List Token
outer_tokens locals low high body =
    token.Opening opening.For here ∷ (low ++ (token.Binary op.AtMost ∷ (token.Name index ∷ (token.Binary op.AtMost ∷ (high
    ++ (token.Mark mark.Pardo ∷ (local_tokens locals ++ (body ++ (token.Mark mark.End ∷ [])))))))))

abbrev with_body : List Token → List Token
with_body body =
    token.Mark mark.Rule ∷ (token.Name (named (codes "erew")) ∷ (token.Mark mark.Semicolon ∷ (token.Mark mark.Procs
    ∷ (token.Number (numeral (pos 2)) ∷ (token.Mark mark.Semicolon ∷ (token.Mark mark.Shared ∷ (token.Name cell
    ∷ (token.Mark mark.Semicolon ∷ (token.Mark mark.Begin ∷ (body ++ (token.Mark mark.End ∷ [])))))))))))

module _ (last : ℤ) (locals : List Name) (x w : Name) where
  inner_spelled : block_tokens (inner_tree x w ∷ []) ≡ inner_tokens x w
  inner_spelled =
      spell_assign [] x (e.Name w)
      ∙ ap (λ l. token.Name x ∷ (token.Mark mark.Becomes ∷ (l ++ (token.Mark mark.Semicolon ∷ [])))) (tokens-Name w)

  outer_spelled : block_tokens (outer_tree last locals x w ∷ [])
      ≡ outer_tokens locals (token.Number (numeral (pos 0)) ∷ []) (token.Number (numeral last) ∷ []) (inner_tokens x w)
  outer_spelled =
      spell_pardo [] here (e.Number (numeral (pos 0))) index (e.Number (numeral last)) locals (inner_tree x w ∷ [])
      ∙ (λ j. outer_tokens locals (tokens-Number (numeral (pos 0)) j) (tokens-Number (numeral last) j) (inner_spelled j))

  abbrev all_tokens : List Token
  all_tokens = with_body (outer_tokens locals (token.Number (numeral (pos 0)) ∷ []) (token.Number (numeral last) ∷ []) (inner_tokens x w))

  spelled : program_tokens (sample_tree last locals x w) ≡ all_tokens
  spelled = ap with_body outer_spelled

  -- ---- what is wrong with it

  abbrev around : Context
  around = body_context declared

  abbrev inside : Context
  inside = body_of_pardo around index locals

  abbrev inner_faults : List Use → List Breach
  inner_faults us =
      all_at x.location (target_causes true around.loops (meaning_of inside.scope x.text)) ++ use_faults inside.scope 0 us

  abbrev outer_faults : List Use → List Use → List Breach → List Breach
  outer_faults low high body =
      keyword_faults false here ++ (use_faults around.scope 0 low ++ (all_at here (new_causes around.scope index.text)
      ++ (use_faults around.scope (read_count around.scope low) high
      ++ (local_faults (inner_scope around.scope index []) 0 locals ++ (body ++ [])))))

  inner_judged : statement_faults (inner_tree x w) inside ≡ inner_faults (plain w ∷ [])
  unfolding statement_faults
  inner_judged =
      ap (λ (f : Judged). f inside)
      (ap statement_faults (sym (s.rolls-Assign x (e.Name w))) ∙ fold-roll-Stmt Judged node_faults (Stmt-F.Assign x (e.Name w)))
      ∙ ap inner_faults (uses-Name w)

  outer_judged : statement_faults (outer_tree last locals x w) around ≡ outer_faults [] [] (inner_faults (plain w ∷ []))
  unfolding statement_faults
  outer_judged =
      ap (λ (f : Judged). f around)
      (ap statement_faults
      (sym (s.rolls-Pardo here (e.Number (numeral (pos 0))) index (e.Number (numeral last)) locals (inner_tree x w ∷ [])))
      ∙ fold-roll-Stmt Judged node_faults
      (Stmt-F.Pardo here (e.Number (numeral (pos 0))) index (e.Number (numeral last)) locals (inner_tree x w ∷ [])))
      ∙ (λ j. outer_faults (uses-Number (numeral (pos 0)) j) (uses-Number (numeral last) j) (inner_judged j))

  judged : faults (sample_tree last locals x w)
      ≡ (outer_faults [] [] (inner_faults (plain w ∷ [])) ++ []) ++ token_breaches (length all_tokens)
  judged = λ j. (outer_judged j ++ []) ++ token_breaches (length (spelled j))

  -- ---- the grammar

  fits_name : Fits limit level.Expression (e.Name w)
  fits_name =
      let term = grammar.chained (e.Name w) [] (grammar.atom (grammar.name w)) tt in
      let sum = grammar.chained (e.Name w) [] term tt in
      let conjunction = grammar.chained (e.Name w) [] (grammar.comparison (grammar.compared (e.Name w) [] sum tt tt)) tt in
      grammar.chained (e.Name w) [] conjunction tt

  fits_number : (n : Numeral) → Fits limit level.Sum (e.Number n)
  fits_number n = grammar.chained (e.Number n) [] (grammar.chained (e.Number n) [] (grammar.atom (grammar.number n)) tt) tt

  stands : AreReal all_tokens → IsTree limit limit (sample_tree last locals x w)
  stands real = record {
    is_block = (
      blocks.pardo here (e.Number (numeral (pos 0))) index (e.Number (numeral last)) locals (inner_tree x w ∷ [])
          (fits_number (numeral (pos 0))) (fits_number (numeral last)) ((blocks.assign x (e.Name w) fits_name, tt)),
      tt,
    );
    are_real = subst AreReal (sym spelled) real;
  }

  -- ---- what it says

  says_all : (target : StepTarget) (value : Expression) → SaysInner inside.scope x target → Says inside.scope (e.Name w) value →
      IsResolved (sample last locals x w target value)
  says_all target value to said = record {
    rule = refl;
    procs = refl;
    layout = refl;
    uniforms = refl;
    body = says.more (outer_tree last locals x w) []
        (Pardo here (Number (pos 0)) (Number last) (length locals) (alone (step.Assign x.location target value))) []
        (says.pardo here (e.Number (numeral (pos 0))) index (e.Number (numeral last)) locals (inner_tree x w ∷ []) (Number (pos 0))
        (Number last) (alone (step.Assign x.location target value)) (says.number (numeral (pos 0))) (says.number (numeral last))
        (says.more (inner_tree x w) [] (step.Assign x.location target value) [] (says.assign x (e.Name w) target value to said) says.none))
        says.none;
  }

  -- ---- all of it

  pub checked : (target : StepTarget) (value : Expression) → AreReal all_tokens →
      (outer_faults [] [] (inner_faults (plain w ∷ [])) ++ []) ++ token_breaches (length all_tokens) ≡ [] →
      SaysInner inside.scope x target → Says inside.scope (e.Name w) value → IsAcceptedProgram (sample last locals x w target value)
  checked target value real none to said = record { tree = stands real; accepted = judged ∙ none; says = says_all target value to said }

-- ---- the programs

is_a : IsName (codes "a")
is_a = record { letter = refl; words = refl; no_keyword = refl }

is_i : IsName (codes "i")
is_i = record { letter = refl; words = refl; no_keyword = refl }

is_x : IsName (codes "x")
is_x = record { letter = refl; words = refl; no_keyword = refl }

is_erew : IsName (codes "erew")
is_erew = record { letter = refl; words = refl; no_keyword = refl }

-- for 0 <= i <= 1 pardo local x; x := a; end
abbrev pub both_read : Checked
both_read = sample (pos 1) (named (codes "x") ∷ []) (named (codes "x")) cell (inner.Local 0) (value.Cell 0)

-- for 0 <= i <= LAST pardo a := a; end
abbrev pub all_write : ℤ → Checked
all_write last = sample last [] cell cell (inner.Cell 0) (value.Cell 0)

-- for 0 <= i <= 1 pardo a := i; end
abbrev pub each_writes : Checked
each_writes = sample (pos 1) [] cell index (inner.Cell 0) value.Index

-- the tokens before the body's are real, and so are those of all of it
front_real : (body : List Token) → AreReal (body ++ (token.Mark mark.End ∷ [])) → AreReal (with_body body)
front_real body h =
    (tt, (is_erew, (tt, (tt, (number_is 2 (omega arith), (tt, (tt, (is_a, (tt, (tt, h))))))))))

real : (last : ℕ) (w : Name) → last < 2 ^ 63 → IsName w.text → AreReal (all_tokens (pos last) [] cell w)
real last w h is =
    front_real (outer_tokens [] (token.Number (numeral (pos 0)) ∷ []) (token.Number (numeral (pos last)) ∷ []) (inner_tokens cell w))
    (tt, (number_is 0 (omega arith), (tt, (is_i, (tt, (number_is last h, (tt, (is_a, (tt, (is, (tt, (tt, (tt, tt)))))))))))))

real_local : AreReal (all_tokens (pos 1) (named (codes "x") ∷ []) (named (codes "x")) cell)
real_local =
    front_real (outer_tokens (named (codes "x") ∷ []) (token.Number (numeral (pos 0)) ∷ []) (token.Number (numeral (pos 1)) ∷ [])
    (inner_tokens (named (codes "x")) cell)) (
      tt,
      (
        number_is 0 (omega arith),
        (
          tt,
          (
            is_i,
            (
              tt,
              (
                number_is 1 (omega arith),
                (
                  tt,
                  (
                    tt,
                    (
                      is_x,
                      (
                        tt,
                        (
                          is_x,
                          (
                            tt,
                            (
                              is_a,
                              (
                                tt,
                                (
                                  tt,
                                  (tt, tt),
                                ),
                              ),
                            ),
                          ),
                        ),
                      ),
                    ),
                  ),
                ),
              ),
            ),
          ),
        ),
      ),
    )

pub both_read_is : IsAcceptedProgram both_read
both_read_is =
    checked (pos 1) (named (codes "x") ∷ []) (named (codes "x")) cell (inner.Local 0) (value.Cell 0) real_local refl (says.local 0 refl)
    (says.cell cell 0 refl)

pub all_write_is : (last : ℕ) → last < 2 ^ 63 → IsAcceptedProgram (all_write (pos last))
all_write_is last h =
    checked (pos last) [] cell cell (inner.Cell 0) (value.Cell 0) (real last cell h is_a) refl (says.cell 0 refl) (says.cell cell 0 refl)

pub each_writes_is : IsAcceptedProgram each_writes
each_writes_is =
    checked (pos 1) [] cell index (inner.Cell 0) value.Index (real 1 index (omega arith) is_i) refl (says.cell 0 refl)
    (says.index index refl)
