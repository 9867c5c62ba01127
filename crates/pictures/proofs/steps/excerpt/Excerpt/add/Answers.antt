use Rattle.std.proofs.Common.{arith, ◌+◌, ◌≡◌}
use Rattle.pictures.proofs.OfSteps.KeptEntries.{keeps_added}
use Rattle.pictures.proofs.steps.excerpt.Excerpt.add.Goals as goal

pub returns : goal.returns
returns c es h =
    let e = c.in-Some.ensures in
    let n : c.in-Some.count ≡ c.args.self.now.count + 1 = omega (arith, e) in
    keeps_added c.args.self.now _ c.args.entry _ es c.make_room.ensures c.in_ok-push.ensures.items n h
