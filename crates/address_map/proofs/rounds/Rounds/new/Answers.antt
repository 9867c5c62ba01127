use Rattle.std.proofs.Common.{ap, arith, length, take, sym, ◌∙◌, true≢false}
use Rattle.std.proofs.lemmas.List.Elements.{All-from_recursion}
use Rattle.address_map.specs.Outcome.{IsFault}
use Rattle.address_map.specs.Permutation.{rounds}
use Rattle.address_map.specs.RoundLaws.{IsUndone, rounds_back}
use Rattle.address_map.proofs.RoundSteps.{made_ends, made_given, made_rounds, pair_at, spreads_by}
use Rattle.address_map.proofs.rounds.Rounds.new.Goals as goal

-- too many rounds
pub returns-then-rounds-gt-MOST-clause-err : goal.returns-then-rounds-gt-MOST-clause-err
unfolding IsFault
returns-then-rounds-gt-MOST-clause-err c =
    (c.in_ok-spread.ensures.ok.3, λ good. let few = good.1.0 in let many = c.if-rounds-gt-MOST.true in omega arith)

-- one that is none
pub returns-then-not-is_round-clause-err : goal.returns-then-not-is_round-clause-err
unfolding IsFault
returns-then-not-is_round-clause-err c = (
  c.in_ok-spread.ensures.ok.3,
  λ good.
      true≢false (sym (c.is_round.ensures.1 (pair_at c.args.rounds.now c.loop-i.i _ c.loop-i-test.true good.1)) ∙ c.if-not-is_round.true),
)

-- all of them are made
pub invariant_of-result : goal.invariant_of-result
invariant_of-result c =
    let all = made_ends _ _ _ _ c.loop-i.invariant c.loop-i.auto.i-end c.loop-i-test.false in
    record {
      few = let fact = c.if-rounds-gt-MOST.false in fact;
      undone =
          All-from_recursion (IsUndone c.in_ok-spread.spread.cells) _ all.undone;
    }

pub returns-clause-ok : goal.returns-clause-ok
returns-clause-ok c =
    let made = c.in_ok-spread.ensures.ok in
    let given = c.args.rounds.now in
    let all = made_ends _ _ _ _ c.loop-i.invariant c.loop-i.auto.i-end c.loop-i-test.false in
    let same = ap (rounds c.in_ok-spread.spread.cells) (made_given _ _ _ all) ∙ ap (λ k. rounds k given) made.0 in (
      made.3,
      made.2,
      made_rounds _ _ _ all c.if-rounds-gt-MOST.false,
      spreads_by _ _ _ _ _ _ (rounds_back c.in_ok-spread.spread.cells (take (length given) c.loop-i.made)) made.0 made.1 same,
    )
