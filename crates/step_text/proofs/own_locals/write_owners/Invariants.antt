use Rattle.std.proofs.Common.{map}
use Rattle.std.specs.List.{filter}
use Rattle.journal.specs.Entries.{own_is}
use Rattle.step_text.specs.OwnLocals.{first_text, is_owner}
use Rattle.step_text.proofs.OwnTexts.{InOwners}
use Rattle.step_text.proofs.own_locals.write_owners.Given as goal

abbrev pub invariant-loop-own : goal.invariant-loop-own
invariant-loop-own g l = InOwners (g.W.Out.state l.fn.out) (g.W.Out.state l.out)
    (first_text l.fn.tree l.fn.at (filter is_owner (map own_is l.fn.locals))) l.fn.tree l.fn.at l.fn.locals l.own-index l.count
