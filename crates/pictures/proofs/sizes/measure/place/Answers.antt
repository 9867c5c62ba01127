use Rattle.std.proofs.Common.{◌∙◌, ap, sym}
use Rattle.pictures.specs.Sizes.Places.{place_of}
use Rattle.pictures.proofs.OfSizes.Logs.{log_is, place_is}
use Rattle.pictures.proofs.sizes.measure.place.Goals as goal

pub returns : goal.returns
returns c =
    let size = c.args.size in
    let r = c.ilog2-log.result in
    let found = c.ilog2-log.ensures in
    let is = log_is size r found.bound found.power_le found.next_power_gt in
    c.place_of.ensures ∙ ap (λ p. place_of size p r) c.pow.ensures ∙ sym (place_is size r c.if-size-eq0.false is)
