use Rattle.std.proofs.Common.{◌+◌, arith, ◌++◌, ◌∷◌, [], refl, sym, ap, ◌∙◌, subst, drop, take}
use Rattle.std.proofs.lemmas.List.{take_more}
use Rattle.pram_names.specs.Breaches.{uses, step_uses, subscripted, use_breaches, read_count, first}
use Rattle.pram_names.specs.Resolved.{Says, SayLinks, none}
use Rattle.pram_names.proofs.Judging.{exit, along, fine_as, leads_front, leads_behind, leads_as, fine_append}
use Rattle.pram_names.proofs.Expressions.{Good, good_number, names_name, names_element, names_paren, names_prefix, names_chain}
use Rattle.pram_names.proofs.Expressions.{good_element, said_paren, good_prefix, good_chain, links_more, step_uses_more, step_uses_at}
use Rattle.pram_names.proofs.resolving.+expression.Goals as goal

pub expression-returns-in_err-array-in-Element-clause-is :
    goal.expression-returns-in_err-array-in-Element-clause-is
expression-returns-in_err-array-in-Element-clause-is t c =
    let s = c.args.scope.now in
    let n = c.args.reads.now in
    let x = c.in-Element.x in
    let i = c.in-Element.subscript in
    exit _ _ _ c.from_residual.result _ c.from_residual.ensures.1 c.in_err-array-in-Element.ensures.is
    (leads_as s n n (subscripted x ∷ []) _ _ (names_element s c.args.e.now x i i c.in-Element.is refl) (leads_front s n (subscripted x
    ∷ []) (uses i)))

pub expression-returns-in_err-inner-in-Element-clause-is :
    goal.expression-returns-in_err-inner-in-Element-clause-is
expression-returns-in_err-inner-in-Element-clause-is t c =
    let s = c.args.scope.now in
    let n = c.args.reads.now in
    let x = c.in-Element.x in
    let array = c.in_ok-array-in-Element.ensures.is in
    exit _ _ _ c.from_residual-in_err-inner-in-Element.result _ c.from_residual-in_err-inner-in-Element.ensures.1
    c.in_err-inner-in-Element.ensures.is
    (leads_as s n c.array.new.reads _ _ _ (names_element s c.args.e.now x c.in-Element.subscript _ c.in-Element.is c.get.ensures)
    (leads_behind s n c.array.new.reads (subscripted x ∷ []) (uses c.get.result.now) (array.0, array.1.1)))

pub expression-returns-in_err-inner-in-Prefix-clause-is :
    goal.expression-returns-in_err-inner-in-Prefix-clause-is
expression-returns-in_err-inner-in-Prefix-clause-is t c =
    exit _ _ _ c.from_residual-in_err-inner-in-Prefix.result _ c.from_residual-in_err-inner-in-Prefix.ensures.1
    c.in_err-inner-in-Prefix.ensures.is
    (λ b h. ap (λ l. first (use_breaches c.args.scope.now c.args.reads.now l))
    (sym (names_prefix c.args.scope.now c.args.e.now _ _ _ c.in-Prefix.is c.get-in-Prefix.ensures)) ∙ h)

pub expression-returns-in_err-inner-in-Chain-clause-is :
    goal.expression-returns-in_err-inner-in-Chain-clause-is
expression-returns-in_err-inner-in-Chain-clause-is t c =
    let s = c.args.scope.now in
    let n = c.args.reads.now in
    exit _ _ _ c.from_residual-in_err-inner-in-Chain.result _ c.from_residual-in_err-inner-in-Chain.ensures.1
    c.in_err-inner-in-Chain.ensures.is
    (leads_as s n n _ _ _ (names_chain s c.args.e.now c.in-Chain.first _ c.in-Chain.rest c.in-Chain.rest c.in-Chain.is
    c.get-in-Chain.ensures refl)
    (leads_front s n (uses c.get-in-Chain.result.now) (step_uses c.in-Chain.rest)))

pub expression-returns-in_err-links-in-Chain-clause-is :
    goal.expression-returns-in_err-links-in-Chain-clause-is
expression-returns-in_err-links-in-Chain-clause-is t c =
    let s = c.args.scope.now in
    let n = c.args.reads.now in
    let m = c.expression-in-Chain.new.reads in
    let one = c.in_ok-inner-in-Chain.ensures.is in
    exit _ _ _ c.from_residual-in_err-links-in-Chain.result _ c.from_residual-in_err-links-in-Chain.ensures.1
    c.in_err-links-in-Chain.ensures.is
    (leads_as s n m _ _ _ (names_chain s c.args.e.now c.in-Chain.first _ c.in-Chain.rest _ c.in-Chain.is c.get-in-Chain.ensures
    c.as_slice.ensures)
    (leads_behind s n m (uses c.get-in-Chain.result.now) (step_uses c.as_slice.result.now) (one.0, one.1.1)))

pub expression-returns-in-Number-clause-is : goal.expression-returns-in-Number-clause-is
expression-returns-in-Number-clause-is t c =
    let s = c.args.scope.now in
    let n = c.args.reads.now in
    let x = c.args.e.now in
    subst (λ y. Good (Says s x) s n (uses x) y n) (sym c.number.ensures) (good_number s n x _ _ c.in-Number.is refl)

pub expression-returns-in-Name-clause-is : goal.expression-returns-in-Name-clause-is
expression-returns-in-Name-clause-is t c =
    let s = c.args.scope.now in
    let n = c.args.reads.now in
    let names = names_name s c.args.e.now c.in-Name.x c.in-Name.is in
    along _ _ _ _ c.name.result c.name.ensures.is (ap (λ l. first (use_breaches s n l)) names)
    (λ y h. (subst (λ x. Says s x y) (sym c.in-Name.is) h.0, h.1 ∙ ap (λ l. n + read_count s l) names))

pub expression-returns-in_ok-new-in-Element-clause-is :
    goal.expression-returns-in_ok-new-in-Element-clause-is
expression-returns-in_ok-new-in-Element-clause-is t c =
    good_element _ _ _ _ _ _ _ _ _ _ _ c.in-Element.is c.get.ensures c.in_ok-new-in-Element.ensures.ok c.in_ok-array-in-Element.ensures.is
    c.in_ok-inner-in-Element.ensures.is

pub expression-returns-in-Paren-clause-is : goal.expression-returns-in-Paren-clause-is
expression-returns-in-Paren-clause-is t c =
    let s = c.args.scope.now in
    let n = c.args.reads.now in
    let names = names_paren s c.args.e.now _ _ c.in-Paren.is c.get-in-Paren.ensures in
    along _ _ _ _ c.expression-in-Paren.result c.expression-in-Paren.ensures.is (ap (λ l. first (use_breaches s n l)) names)
    (λ y h. (said_paren s _ _ _ y c.in-Paren.is c.get-in-Paren.ensures h.0, h.1 ∙ ap (λ l. n + read_count s l) names))

pub expression-returns-in_ok-new-in-Prefix-clause-is :
    goal.expression-returns-in_ok-new-in-Prefix-clause-is
expression-returns-in_ok-new-in-Prefix-clause-is t c =
    good_prefix _ _ _ _ _ _ _ _ _ c.in-Prefix.is c.get-in-Prefix.ensures c.in_ok-new-in-Prefix.ensures.ok c.in_ok-inner-in-Prefix.ensures.is

pub expression-returns-in_ok-new-in-Chain-clause-is :
    goal.expression-returns-in_ok-new-in-Chain-clause-is
expression-returns-in_ok-new-in-Chain-clause-is t c =
    good_chain _ _ _ _ _ _ _ _ _ _ _ _ c.in-Chain.is c.get-in-Chain.ensures c.as_slice.ensures c.in_ok-new-in-Chain.ensures.ok
    c.in_ok-inner-in-Chain.ensures.is c.in_ok-links-in-Chain.ensures.is

pub links-loop-operator-init : goal.links-loop-operator-init
links-loop-operator-init t c = record {
  most = c.requires;
  says = subst (λ l. SayLinks c.args.scope.now [] l) (sym c.new-links.ensures.items) none;
  none = refl;
  count = omega arith;
}

pub links-returns-in_err-operand-clause-is : goal.links-returns-in_err-operand-clause-is
links-returns-in_err-operand-clause-is t c =
    let s = c.args.scope.now in
    let n = c.args.reads.now in
    let m = c.loop-operator.reads in
    let i = c.loop-operator.operator-index in
    let d = c.loop-operator-item.result in
    let so_far = c.loop-operator.invariant in
    let behind = step_uses (drop (i + 1) c.args.rest.now) in
    exit _ _ _ c.from_residual.result _ c.from_residual.ensures.1 c.in_err-operand.ensures.is
    (leads_as s n m (uses d.1) _ _ (step_uses_at c.args.rest.now i d c.loop-operator-test.true c.loop-operator-item.is)
    (λ b h. leads_behind s n m (step_uses (take i c.args.rest.now)) (uses d.1 ++ behind) (so_far.none, so_far.count) b
    (leads_front s m (uses d.1) behind b h)))

pub links-loop-operator-preserved : goal.links-loop-operator-preserved
links-loop-operator-preserved t c =
    let s = c.args.scope.now in
    let i = c.loop-operator.operator-index in
    let d = c.loop-operator-item.result in
    let xs = c.args.rest.now in
    let so_far = c.loop-operator.invariant in
    let operand = c.in_ok-operand.ensures.is in
    let fine = fine_as s _ _ _ _ (step_uses_more xs i d c.loop-operator-test.true c.loop-operator-item.is)
    (fine_append s c.args.reads.now c.loop-operator.reads c.expression.new.reads (step_uses (take i xs)) (uses d.1) (
      so_far.none,
      so_far.count,
    ) (operand.0, operand.1.1)) in
    record {
      most = c.in_ok-operand.ensures.most;
      says = subst (λ l. SayLinks s l c.push.new.self.items) (sym (take_more xs i d c.loop-operator-test.true
          ∙ ap (λ y. take i xs ++ y ∷ []) (sym c.loop-operator-item.is)))
          (subst (λ l. SayLinks s (take i xs ++ d ∷ []) l) (sym c.in_ok-push.ensures.items)
          (links_more s _ _ d _ so_far.says refl operand.1.0));
      none = fine.0;
      count = fine.1;
    }
