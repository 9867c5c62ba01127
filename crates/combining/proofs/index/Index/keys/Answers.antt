use Rattle.std.proofs.Common.{subst, sym}
use Rattle.combining.specs.Places.{AreApart}
use Rattle.combining.proofs.Ascents.{apart}
use Rattle.combining.proofs.index.Index.keys.Goals as goal

pub returns-clause-apart : goal.returns-clause-apart
returns-clause-apart c =
    let x = c.self.inside in
    subst AreApart (sym c.as_slice.ensures.value) (apart x.mask x.keys.items x.links.items x.heads.items c.self.invariant.2)
