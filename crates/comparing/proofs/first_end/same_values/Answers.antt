use Rattle.std.proofs.lemmas.Bool.Decides.{Decides-at}
use Rattle.std.specs.Cmp.Rules.{signed_items}
use Rattle.comparing.proofs.first_end.same_values.Goals as goal

pub returns : goal.returns
returns c = Decides-at _ _ c.eq.ensures (signed_items c.args.a.now c.args.b.now)
