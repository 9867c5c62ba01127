use Rattle.std.proofs.Common.{◌∙◌, ◌++◌, SFits, ap, rules, sym, w64, arith}
use Rattle.std.proofs.lemmas.Int.{to_z-of_z}
use Rattle.std.proofs.lemmas.List.{append-nil}
use Rattle.drawn_kinds.specs.Kinds.{first_end, first_ends, node, second_end, second_ends}
use Rattle.drawn_kinds.proofs.Pushed.{push_more, push_behind}
use Rattle.drawn_kinds.proofs.ends.ends.Goals as goal

pub loop-edge-preserved : goal.loop-edge-preserved
loop-edge-preserved c =
    let fits : SFits w64 c.node.result = search rules in
    rw (c.in_ok-push.ensures.items, to_z-of_z w64 c.node.result fits)
    (push_more (λ edge. node 1 (first_end c.args.vertices.count c.args.words.now edge)) c.loop-edge.edge c.loop-edge.found.items
    c.node.result (c.node.ensures ∙ ap (node 1) c.first_end.ensures.value) c.loop-edge.invariant)

pub loop-other-init : goal.loop-other-init
loop-other-init c =
    let all = first_ends c.args.vertices.count c.args.edges c.args.words.now in
    c.loop-edge.invariant ∙ ap (λ n. first_ends c.args.vertices.count n c.args.words.now) (omega arith) ∙ sym (append-nil all)

pub loop-other-preserved : goal.loop-other-preserved
loop-other-preserved c =
    let fits : SFits w64 c.node-in-loop-other.result = search rules in
    rw (c.in_ok-push-2.ensures.items, to_z-of_z w64 c.node-in-loop-other.result fits)
    (push_behind (first_ends c.args.vertices.count c.args.edges c.args.words.now)
    (λ edge. node 1 (second_end c.args.vertices.count c.args.words.now edge)) c.loop-other.other c.loop-other.found.items
    c.node-in-loop-other.result (c.node-in-loop-other.ensures ∙ ap (node 1) c.second_end.ensures) c.loop-other.invariant)

pub returns-clause-edges : goal.returns-clause-edges
returns-clause-edges c =
    let all = first_ends c.args.vertices.count c.args.edges c.args.words.now in
    c.loop-other.invariant ∙ ap (λ n. all ++ second_ends c.args.vertices.count n c.args.words.now) (omega arith)
