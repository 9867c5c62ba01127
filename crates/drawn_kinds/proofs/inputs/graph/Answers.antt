use Rattle.std.proofs.Common.{◌∙◌, ◌++◌, ◌≡◌, ap, length}
use Rattle.std.proofs.lemmas.Result.{IfOk-weaker}
use Rattle.drawn_kinds.specs.Kinds.{IsGraph, one_over}
use Rattle.drawn_kinds.proofs.Edged.{is_graph, values_count}
use Rattle.drawn_kinds.proofs.inputs.graph.Goals as goal

pub returns-clause-count : goal.returns-clause-count
returns-clause-count c =
    let over = one_over c.args.count in
    IfOk-weaker c.filled_up.result _ (λ found. length found.items ≡ c.args.count)
    (λ found is.
    ap length (is ∙ ap (λ l. l ++ over) c.in_ok-found.ensures.edges)
    ∙ values_count c.args.vertices.count c.args.count c.deref.result.now)
    c.filled_up.ensures

pub returns-clause-graph : goal.returns-clause-graph
returns-clause-graph c =
    let over = one_over c.args.count in
    IfOk-weaker c.filled_up.result _ (λ found. IsGraph c.args.vertices.count found.items)
    (λ found is.
    is_graph c.args.vertices.count c.args.count c.deref.result.now found.items c.args.vertices.several c.in_ok-found.ensures.fit
    (is ∙ ap (λ l. l ++ over) c.in_ok-found.ensures.edges))
    c.filled_up.ensures
