use Rattle.std.proofs.Common.{◌≡◌, ◌∙◌, ◌<◌, ◌≤◌, ℕ, List, drop, get_or, subst, sym, take, arith}
use Rattle.std.proofs.lemmas.Bool.{iff_false}
use Rattle.std.proofs.lemmas.List.{take_all, take_more}
use Rattle.std.specs.Prelude.{Option}
use Rattle.pram_tokens.specs.declared.token.Token.{Token}
use Rattle.help.specs.declared.choice.Choice.{Choice}
use Rattle.help.specs.declared.choice.Choice.TheVariants as choice
use Rattle.help.proofs.Farthest.{AreTried, as_far, best_missing, farther, less_far, once_more}
use Rattle.help.specs.Missing.{GoesOn}
use Rattle.help.proofs.missing.missing_of.Goals as goal
use Rattle.help.proofs.missing.missing_of.Goals.{then-most-reached, else-most-reached+then-reached-most+then-not-is_that}
use Rattle.help.proofs.missing.missing_of.Goals.{else-most-reached+else-reached-most}
use Rattle.help.proofs.missing.missing_of.Goals.{else-reached-most-via-then-reached-most+else-not-is_that}
use Rattle.help.proofs.missing.missing_of.Goals.{else-reached-most-via-else-reached-most}

as_is : (front rest : List Token) (tried : List Choice) (most now : ℕ) (best best_now : Option Choice) → most ≡ now → best ≡ best_now →
    AreTried front rest tried most best → AreTried front rest tried now best_now
as_is front rest tried most now best best_now m b t =
    subst (λ (x : Option Choice). AreTried front rest tried now x) b (subst (λ (x : ℕ). AreTried front rest tried x best) m t)

less : {n most : ℕ} → n ≤ most → (n ≡ most → ⊥) → n < most
less le differ = omega (arith, le, differ)

pub loop-choice-preserved : goal.loop-choice-preserved
loop-choice-preserved c =
    let front = take c.args.at c.args.tokens.now.items in
    let rest = drop c.args.at c.args.tokens.now.items in
    let found = c.args.found.now in
    let i = c.loop-choice.choice-index in
    let d = get_or found i choice.Name in
    let before = take i found in
    let tried = c.loop-choice.invariant.tried in
    let n = c.in_ok-reached.reached in
    let most = c.loop-choice.most in
    let best = c.loop-choice.best in
    let goes : GoesOn front rest d n =
    subst (λ (ts : List Token). GoesOn (take c.args.at ts) (drop c.args.at ts) d n) c.loop-choice.invariant.same
    c.in_ok-reached.ensures.reaches in
    record {
      same = c.in_ok-reached.ensures.same ∙ c.loop-choice.invariant.same;
      at = c.loop-choice.invariant.at;
      tried = subst (λ (ds : List Choice). AreTried front rest ds c.if-most-reached.most c.if-most-reached.best)
          (sym (take_more found i choice.Name c.loop-choice-test.true)) (elim c.if-most-reached.branch [
            | then-most-reached w ↦ as_is front rest _ _ _ _ _ (sym w.most-is) (sym w.best-is)
                (farther front rest before most n best d tried goes w.if-most-reached.true)
            | else-most-reached+then-reached-most+then-not-is_that w ↦ as_is front rest _ _ _ _ _ (sym w.most-is) (sym w.best-is)
                (as_far front rest before most n best d tried goes w.if-reached-most.true
                (iff_false w.is_that.ensures w.if-not-is_that.true))
            | else-most-reached+else-reached-most w ↦ as_is front rest _ _ _ _ _ (sym w.most-is) (sym w.best-is)
                (elim w.else-reached-most.branch [
                  | else-reached-most-via-then-reached-most+else-not-is_that v ↦
                      once_more front rest before most n best d tried goes v.if-reached-most.true
                      (v.is_that.ensures.0 v.if-not-is_that.false)
                  | else-reached-most-via-else-reached-most v ↦
                      less_far front rest before most n best d tried goes (less w.if-most-reached.false v.if-reached-most.false)
                ])
          ]);
    }

pub returns : goal.returns
returns c =
    best_missing _ _ c.args.found.now c.loop-choice.most c.loop-choice.best
    (subst (λ (ds : List Choice). AreTried (take c.args.at c.args.tokens.now.items) (drop c.args.at c.args.tokens.now.items) ds
    c.loop-choice.most c.loop-choice.best)
    (take_all c.loop-choice.choice-index c.args.found.now c.loop-choice-test.false) c.loop-choice.invariant.tried)
