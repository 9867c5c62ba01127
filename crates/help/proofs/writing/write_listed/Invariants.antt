use Rattle.help.proofs.Listing.{Listing}
use Rattle.help.proofs.writing.write_listed.Given as goal

abbrev pub invariant-loop-choice : goal.invariant-loop-choice
invariant-loop-choice g l = Listing (g.W.Out.state l.fn.out) (g.W.Out.state l.out) l.fn.choices l.choice-index l.others
