use Rattle.std.proofs.Common.{◌∙◌, SFits, ap, get_or, rules, w64, arith, ℕ, ℤ}
use Rattle.std.proofs.lemmas.Int.{to_z-of_z}
use Rattle.drawn_kinds.specs.Kinds.{above, node}
use Rattle.drawn_kinds.proofs.Pushed.{push_more}
use Rattle.drawn_kinds.proofs.parents.parents.Goals as goal

pub loop-turn-preserved : goal.loop-turn-preserved
loop-turn-preserved c =
    let before = c.loop-turn.invariant in
    let fits : SFits w64 c.node.result = search rules in
    let parent : ℕ → ℤ = λ k. node 1 (get_or c.args.order.now (above c.args.words.now k) 0) in
    record {
      parents =
          rw (c.in_ok-push.ensures.items, to_z-of_z w64 c.node.result fits)
          (push_more parent c.loop-turn.turn c.loop-turn.found.items c.node.result
          (c.node.ensures ∙ ap (λ k. node 1 (get_or c.args.order.now k 0)) c.above.ensures.value) before.parents);
      count = omega (arith, c.in_ok-push.ensures.len, c.push.new.self.ok.0, c.loop-turn.found.ok.0, before.count);
    }
