use Rattle.std.proofs.Common.{◌∙◌, arith, refl}
use Rattle.std.proofs.lemmas.List.{get_or_default}
use Rattle.std.proofs.lemmas.List.Sorted.{IsPermutation-trans}
use Rattle.drawn_kinds.proofs.Shuffles.{shuffle_more}
use Rattle.drawn_kinds.proofs.orders.shuffle.Goals as goal

pub loop-turn-preserved : goal.loop-turn-preserved
loop-turn-preserved c =
    let before = c.loop-turn.invariant in
    let turn = c.loop-turn.turn in
    let words = c.args.words.now in
    record {
      order =
          shuffle_more c.args.last turn _ _ _ words c.loop-turn.order c.swap.new.self (omega arith) (omega (arith, c.requires.words))
          (get_or_default words turn 0 _ (omega (arith, c.requires.words))) refl c.pick-other.ensures.value c.swap.ensures.after
          ∙ before.order;
      permutation = IsPermutation-trans _ _ _ before.permutation c.swap.ensures.permutation;
      count = omega (arith, c.swap.ensures.len, before.count);
    }
