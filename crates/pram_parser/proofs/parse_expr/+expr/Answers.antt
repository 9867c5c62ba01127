use Rattle.std.proofs.Common.{◌∙◌, ◌∷◌, [], ◌++◌, sym, ap, subst, refl}
use Rattle.std.proofs.lemmas.List.{append-nil}
use Rattle.pram_trees.specs.declared.level.Level.TheVariants as level
use Rattle.pram_trees.specs.Grammar.{Fits, tokens, atom, comparison, compared}
use Rattle.pram_trees.specs.Machine.{verdict}
use Rattle.pram_trees.specs.Symbols.{Operand, Rest, Want, tighter}
use Rattle.pram_parser.proofs.Exits.{exit, along, rest_of, all_of}
use Rattle.pram_parser.proofs.ExprParts as parts
use Rattle.pram_parser.proofs.parse_expr.+expr.Goals as goal

pub atom-returns-in_err-inner-in-Mark-clause-follows : goal.atom-returns-in_err-inner-in-Mark-clause-follows
atom-returns-in_err-inner-in-Mark-clause-follows t c =
    exit rest_of rest_of c.from_residual.result _ c.from_residual.ensures.1 c.in_err-inner-in-Mark.ensures.follows
    (parts.lead_paren c.args.depth c.in-Mark.mark c.in-Some.first.now c.args.tokens.now c.in-Some.rest.now c.in-Some.ensures.front
    c.in-Mark.is (sym c.if-not-same_mark.ensures.value))

pub atom-returns-in-Number-clause-found : goal.atom-returns-in-Number-clause-found
atom-returns-in-Number-clause-found t c = parts.found_number _ _ _ _ _ c.in-Some.ensures.front c.in-Number.is

pub atom-returns-in_ok-new-in-Mark-clause-found : goal.atom-returns-in_ok-new-in-Mark-clause-found
atom-returns-in_ok-new-in-Mark-clause-found t c =
    parts.found_paren _ _ _ _ _ _ _ _ c.in-Some.ensures.front c.in-Mark.is (sym c.if-not-same_mark.ensures.value)
    c.in_ok-inner-in-Mark.ensures.found c.in_ok-new-in-Mark.ensures

pub named-returns-clause-found : goal.named-returns-clause-found
named-returns-clause-found t c =
    parts.found_element _ _ _ _ _ _ _ _ c.in-Some.ensures.front c.in_ok-inner.ensures.found c.in_ok-name.ensures.same c.in_ok-new.ensures

pub named-returns-in_default-clause-found : goal.named-returns-in_default-clause-found
named-returns-in_default-clause-found t c = parts.found_name _ _ _ _ c.in_ok-copied.ensures.same

pub named-returns-in_err-inner-clause-follows : goal.named-returns-in_err-inner-clause-follows
named-returns-in_err-inner-clause-follows t c =
    exit rest_of rest_of c.from_residual-in_err-inner.result _ c.from_residual-in_err-inner.ensures.1 c.in_err-inner.ensures.follows
    (parts.lead_subscript c.args.depth c.args.tokens.now c.in-Some.inside.now c.in-Some.ensures.front)

pub nested-returns-in_err-inner-clause-follows : goal.nested-returns-in_err-inner-clause-follows
nested-returns-in_err-inner-clause-follows t c =
    exit rest_of rest_of c.from_residual.result _ c.from_residual.ensures.1 c.in_err-inner.ensures.follows
    (λ k. (Want c.args.close ∷ k, parts.into_inside c.args.close c.args.depth c.args.left c.args.tokens.now c.if-depth-eq0.false k))

pub nested-returns-in_err-rest-clause-follows : goal.nested-returns-in_err-rest-clause-follows
nested-returns-in_err-rest-clause-follows t c =
    exit rest_of all_of c.from_residual-in_err-rest.result _ c.from_residual-in_err-rest.ensures.1 c.in_err-rest.ensures.follows
    (λ k. (
      k,
      parts.into_inside c.args.close c.args.depth c.args.left c.args.tokens.now c.if-depth-eq0.false k
          ∙ c.in_ok-inner.ensures.follows (Want c.args.close ∷ k),
    ))

pub prefixed-returns-clause-found : goal.prefixed-returns-clause-found
prefixed-returns-clause-found t c =
    parts.ok_along _ _ c.operand.result (λ f h. parts.found_further _ _ _ _ _ c.if-depth-eq0.false h) c.operand.ensures.found

pub prefixed-returns-clause-follows : goal.prefixed-returns-clause-follows
prefixed-returns-clause-follows t c =
    along rest_of c.operand.result c.operand.ensures.follows (parts.lead_further c.args.level c.args.depth c.args.left c.args.tokens.now
    c.if-depth-eq0.false)

pub unary-returns-clause-found : goal.unary-returns-clause-found
unary-returns-clause-found t c = parts.found_minus _ _ _ _ _ _ c.in-Some.ensures.front c.in_ok-inner.ensures.found c.in_ok-new.ensures

pub unary-returns-in_default-clause-found : goal.unary-returns-in_default-clause-found
unary-returns-in_default-clause-found t c = parts.ok_along _ _ c.atom.result (λ f h. (atom h.0, h.1)) c.atom.ensures.found

pub unary-returns-in_err-inner-clause-follows : goal.unary-returns-in_err-inner-clause-follows
unary-returns-in_err-inner-clause-follows t c =
    exit rest_of rest_of c.from_residual.result _ c.from_residual.ensures.1 c.in_err-inner.ensures.follows
    (parts.lead_minus c.args.depth c.args.tokens.now c.in-Some.rest.now c.in-Some.ensures.front)

pub negation-returns-clause-found : goal.negation-returns-clause-found
negation-returns-clause-found t c = parts.found_not _ _ _ _ _ _ c.in-Some.ensures.front c.in_ok-inner.ensures.found c.in_ok-new.ensures

pub negation-returns-in_default-clause-found : goal.negation-returns-in_default-clause-found
negation-returns-in_default-clause-found t c =
    parts.ok_along _ _ c.comparison.result (λ f h. (comparison h.0, h.1)) c.comparison.ensures.found

pub negation-returns-in_err-inner-clause-follows : goal.negation-returns-in_err-inner-clause-follows
negation-returns-in_err-inner-clause-follows t c =
    exit rest_of rest_of c.from_residual.result _ c.from_residual.ensures.1 c.in_err-inner.ensures.follows
    (parts.lead_not c.args.depth c.args.tokens.now c.in-Some.rest.now c.in-Some.ensures.front)

pub operand-returns-in-Atom-clause-found : goal.operand-returns-in-Atom-clause-found
operand-returns-in-Atom-clause-found t c = rw c.in-Atom.is c.atom.ensures.found

pub operand-returns-in-Unary-clause-found : goal.operand-returns-in-Unary-clause-found
operand-returns-in-Unary-clause-found t c = rw c.in-Unary.is c.unary.ensures.found

pub operand-returns-in-Comparison-clause-found : goal.operand-returns-in-Comparison-clause-found
operand-returns-in-Comparison-clause-found t c = rw c.in-Comparison.is c.comparison.ensures.found

pub operand-returns-in-Negation-clause-found : goal.operand-returns-in-Negation-clause-found
operand-returns-in-Negation-clause-found t c = rw c.in-Negation.is c.negation.ensures.found

pub comparison-returns-in_err-first-clause-follows : goal.comparison-returns-in_err-first-clause-follows
comparison-returns-in_err-first-clause-follows t c =
    exit rest_of rest_of c.from_residual.result _ c.from_residual.ensures.1 c.in_err-first.ensures.follows
    (λ k. (Rest level.Comparison c.args.depth ∷ k, parts.widen level.Comparison tt c.args.depth c.args.tokens.now k))

pub comparison-returns-in_default-clause-found : goal.comparison-returns-in_default-clause-found
comparison-returns-in_default-clause-found t c = let h = c.in_ok-first.ensures.found in (compared c.in_ok-first.first [] h.0 tt tt, h.1)

pub comparison-returns-in_default-clause-follows : goal.comparison-returns-in_default-clause-follows
comparison-returns-in_default-clause-follows t c = λ k.
    parts.widen level.Comparison tt c.args.depth c.args.tokens.now k
    ∙ c.in_ok-first.ensures.follows (Rest level.Comparison c.args.depth ∷ k) ∙ c.in_default.ensures.front c.args.depth k

pub comparison-returns-in_err-second-clause-follows : goal.comparison-returns-in_err-second-clause-follows
comparison-returns-in_err-second-clause-follows t c =
    exit rest_of rest_of c.from_residual-in_err-second.result _ c.from_residual-in_err-second.ensures.1 c.in_err-second.ensures.follows
    (λ k. (
      k,
      parts.widen level.Comparison tt c.args.depth c.args.tokens.now k
          ∙ c.in_ok-first.ensures.follows (Rest level.Comparison c.args.depth ∷ k)
          ∙ parts.at_operator level.Comparison c.args.depth c.in-Some.op c.in_ok-first.rest.now c.in-Some.rest.now c.in-Some.ensures.front
          k,
    ))

pub comparison-returns-clause-follows : goal.comparison-returns-clause-follows
comparison-returns-clause-follows t c = λ k.
    parts.widen level.Comparison tt c.args.depth c.args.tokens.now k
    ∙ c.in_ok-first.ensures.follows (Rest level.Comparison c.args.depth ∷ k)
    ∙ parts.at_operator level.Comparison c.args.depth c.in-Some.op c.in_ok-first.rest.now c.in-Some.rest.now c.in-Some.ensures.front k
    ∙ c.in_ok-second.ensures.follows k

pub comparison-returns-clause-found : goal.comparison-returns-clause-found
comparison-returns-clause-found t c =
    parts.found_compared c.args.depth c.in-Some.op c.in_ok-first.first c.in_ok-second.second _ _ c.args.tokens.now c.in_ok-first.rest.now
    c.in-Some.rest.now c.in_ok-second.rest.now
    c.in_ok-first.ensures.found c.in-Some.ensures.front c.in_ok-second.ensures.found c.in_ok-new.ensures (c.in_ok-push.ensures.ok
    ∙ rw c.new-steps.ensures refl)

pub chained-returns-in_err-first-clause-follows : goal.chained-returns-in_err-first-clause-follows
chained-returns-in_err-first-clause-follows t c =
    exit rest_of rest_of c.from_residual.result _ c.from_residual.ensures.1 c.in_err-first.ensures.follows
    (λ k. (
      Rest c.args.level c.args.depth ∷ k,
      parts.widen c.args.level (parts.joining c.args.level c.requires.chain) c.args.depth c.args.tokens.now k
          ∙ ap (λ l. verdict c.args.tokens.now (Operand l c.args.depth ∷ (Rest c.args.level c.args.depth ∷ k)))
          (sym c.tighter.ensures.value),
    ))

pub chained-loop-op-init : goal.chained-loop-op-init
chained-loop-op-init t c =
    let found = c.in_ok-first.ensures.found in
    record {
      one = subst (λ l. Fits c.args.depth l c.in_ok-first.first) c.tighter.ensures.value found.0;
      more = rw c.new-steps.ensures tt;
      spelt = rw c.new-steps.ensures (found.1 ∙ ap (λ v. v ++ c.in_ok-first.rest.now) (sym (append-nil (tokens c.in_ok-first.first))));
      moves = λ k. parts.widen c.args.level (parts.joining c.args.level c.requires.chain) c.args.depth c.args.tokens.now k
          ∙ ap (λ l. verdict c.args.tokens.now (Operand l c.args.depth ∷ (Rest c.args.level c.args.depth ∷ k)))
          (sym c.tighter.ensures.value)
          ∙ c.in_ok-first.ensures.follows (Rest c.args.level c.args.depth ∷ k);
    }

pub chained-loop-op-preserved : goal.chained-loop-op-preserved
chained-loop-op-preserved t c =
    let found = c.in_ok-next.ensures.found in
    let one : Fits c.args.depth (tighter c.args.level) c.in_ok-next.next =
    subst (λ l. Fits c.args.depth l c.in_ok-next.next) c.tighter-in-Some.ensures.value found.0 in
    record {
      one = c.loop-op.invariant.one;
      more = rw c.in_ok-push.ensures.ok (parts.AreSteps-push c.args.level (Fits c.args.depth (tighter c.args.level)) c.loop-op.steps
          (c.in-Some.op, c.in_ok-next.next) c.loop-op.invariant.more c.in-Some.ensures.front.1 one);
      spelt = rw c.in_ok-push.ensures.ok (parts.spelt_more _ c.loop-op.steps c.in-Some.op c.in_ok-next.next c.args.tokens.now
          c.loop-op.rest.now c.in-Some.behind.now c.in_ok-next.after.now c.loop-op.invariant.spelt c.in-Some.ensures.front.0 found.1);
      moves = λ k. c.loop-op.invariant.moves k
          ∙ parts.at_operator c.args.level c.args.depth c.in-Some.op c.loop-op.rest.now c.in-Some.behind.now c.in-Some.ensures.front k
          ∙ ap (λ j. verdict c.in-Some.behind.now (Operand (tighter c.args.level) c.args.depth ∷ j))
          (parts.again_is c.args.level c.requires.chain c.args.depth k)
          ∙ ap (λ l. verdict c.in-Some.behind.now (Operand l c.args.depth ∷ (Rest c.args.level c.args.depth ∷ k)))
          (sym c.tighter-in-Some.ensures.value)
          ∙ c.in_ok-next.ensures.follows (Rest c.args.level c.args.depth ∷ k);
    }

pub chained-returns-clause-found : goal.chained-returns-clause-found
chained-returns-clause-found t c =
    parts.found_chain c.args.level c.requires.chain c.args.depth _ c.in_ok-chain.field-0 c.loop-op.steps c.args.tokens.now
    c.loop-op.rest.now
    c.loop-op.invariant.one c.loop-op.invariant.more c.loop-op.invariant.spelt c.in_ok-chain.ensures.value
