use Rattle.std.proofs.Common.{map}
use Rattle.serde_json.specs.View.{view}
use Rattle.json_texts.proofs.HeldLocals.{InOwn}
use Rattle.json_texts.proofs.own_locals.own_facts.Given as goal

abbrev pub invariant-loop-own : goal.invariant-loop-own
invariant-loop-own l = InOwn l.tree l.at l.locals l.own-index (map view l.list.items)
