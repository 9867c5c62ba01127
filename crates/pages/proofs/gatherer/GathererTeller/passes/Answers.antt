use Rattle.std.proofs.Common.{◌+◌, ◌≡◌, arith, refl}
use Rattle.pages.proofs.Gathers.{passed_one}
use Rattle.pages.proofs.gatherer.GathererTeller.passes.Goals as goal

pub returns-clause-passed : goal.returns-clause-passed
returns-clause-passed c yes_it_does e =
    let t = c.args.self.now in
    let made = c.in-Some.ensures in
    let n : c.in-Some.number ≡ t.count + 1 = omega (arith, made) in (
      refl,
      λ input before h. passed_one t.asked input before t.count c.in-Some.number e n t.state t.recent t.first h c.if-number-self.false
          c.if-number-self-2.false,
    )
