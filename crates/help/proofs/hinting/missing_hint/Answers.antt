use Rattle.std.proofs.Common.{None, Some, subst, sym}
use Rattle.pram_tokens.specs.Tokens.{AreReal}
use Rattle.help.proofs.Together.{as_kept, real_front}
use Rattle.help.proofs.hinting.missing_hint.Goals as goal

pub missing_of-requires-clause-real : goal.missing_of-requires-clause-real
missing_of-requires-clause-real c =
    subst AreReal (sym c.keep_tried.ensures) (real_front c.args.tokens.now.items _ c.requires.real)

pub returns-in-None : goal.returns-in-None
returns-in-None c =
    as_kept c.args.tokens.now.items _ c.args.count c.args.found.now None c.keep_tried.ensures
    (rw c.in-None.is at c.in_ok-missing_of.ensures)

pub returns-in-Some : goal.returns-in-Some
returns-in-Some c = (
  as_kept c.args.tokens.now.items _ c.args.count c.args.found.now (Some c.in-Some.choice) c.keep_tried.ensures
      (rw c.in-Some.is at c.in_ok-missing_of.ensures),
  c.offset_at.ensures,
)
