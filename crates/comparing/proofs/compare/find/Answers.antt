use Rattle.std.proofs.Common.{◌∙◌, sym}
use Rattle.comparing.proofs.Told.{told}
use Rattle.comparing.proofs.compare.find.Goals as goal

pub returns-else-is_conflict-clause-found : goal.returns-else-is_conflict-clause-found
returns-else-is_conflict-clause-found g c =
    told c.args.rule c.args.program c.args.given.input.now c.args.given.bound c.args.first.now c.args.known c.bounded.ensures.bounded
    c.requires.values (sym c.is_conflict.ensures ∙ c.if-is_conflict.false) c.requires.known
