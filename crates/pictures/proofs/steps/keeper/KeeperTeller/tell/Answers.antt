use Rattle.std.proofs.Common.{arith, refl, ◌+◌, ◌≡◌}
use Rattle.journal.specs.Entries.{entry_is}
use Rattle.pictures.proofs.OfSteps.KeptEntries.{asked_before, asked_past, asked_within}
use Rattle.pictures.proofs.steps.keeper.KeeperTeller.tell.Goals as goal

pub returns-then-number-self-clause-told : goal.returns-then-number-self-clause-told
returns-then-number-self-clause-told c =
    let t = c.args.self.now in
    let e = c.in-Some.ensures in
    let n : c.in-Some.number ≡ t.count + 1 = omega (arith, e) in
    (refl, refl, asked_before t.first t.last t.count c.in-Some.number t.excerpt (entry_is c.args.entry) n c.if-number-self.true)

pub returns-then-self-number-clause-told : goal.returns-then-self-number-clause-told
returns-then-self-number-clause-told c =
    let t = c.args.self.now in
    let e = c.in-Some.ensures in
    let n : c.in-Some.number ≡ t.count + 1 = omega (arith, e) in (
      refl,
      refl,
      asked_past t.first t.last t.count c.in-Some.number t.excerpt (entry_is c.args.entry) n c.if-number-self.false c.if-self-number.true,
    )

pub returns-clause-told : goal.returns-clause-told
returns-clause-told c =
    let t = c.args.self.now in
    let e = c.in-Some.ensures in
    let n : c.in-Some.number ≡ t.count + 1 = omega (arith, e) in (
      refl,
      refl,
      asked_within t.first t.last t.count c.in-Some.number t.excerpt c.add.new.self (entry_is c.args.entry) n c.if-number-self.false
          c.if-self-number.false c.in_ok-add.ensures,
    )
