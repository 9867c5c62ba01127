use Rattle.std.proofs.Common.{map}
use Rattle.serde_json.specs.View.{view}
use Rattle.json_texts.proofs.HeldLocals.{InHeld}
use Rattle.json_texts.proofs.own_locals.add_held.Given as goal

abbrev pub invariant-loop-held : goal.invariant-loop-held
invariant-loop-held l = InHeld l.fn.tree l.fn.at l.fn.own.processor l.fn.own.values.items l.held-index l.number
    (map view l.fn.list.items) (map view l.list.items)
