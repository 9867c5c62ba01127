use Rattle.std.proofs.Common.{map}
use Rattle.serde_json.specs.View.{view}
use Rattle.all_inputs.specs.Faulting.{all_kinds, reason_for}
use Rattle.json_texts.specs.OverallFacts.{facts_if_any}
use Rattle.json_texts.proofs.InTurn.{InTurn}
use Rattle.json_texts.proofs.reasons.push_line_faults.Given as goal

abbrev pub invariant-loop-kind : goal.invariant-loop-kind
invariant-loop-kind l =
    InTurn (λ kind. facts_if_any l.layout l.entry.line kind (reason_for kind l.entry.faults)) all_kinds l.kind-index (map view l.fn.list.items)
    (map view l.list.items)
