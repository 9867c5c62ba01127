use Rattle.std.proofs.Common.{◌+◌, ◌≡◌, arith, refl}
use Rattle.journal.specs.Entries.{entry_is}
use Rattle.pages.proofs.Gathers.{asked_one, before_one, passed_one}
use Rattle.pages.proofs.gatherer.GathererTeller.tell.Goals as goal

pub returns-then-number-self-clause-told : goal.returns-then-number-self-clause-told
returns-then-number-self-clause-told c =
    let t = c.args.self.now in
    let e = c.in-Some.ensures in
    let n : c.in-Some.number ≡ t.count + 1 = omega (arith, e) in (
      refl,
      λ input before h. before_one t.asked input before t.count c.in-Some.number (entry_is c.args.entry) n t.state c.go_on.new.self t.recent
          c.keep.new.self t.first h c.if-number-self.true c.in_ok-go_on.ensures.cells c.in_ok-go_on.ensures.variables
          c.in_ok-go_on.ensures.printed c.in_ok-keep.ensures,
    )

pub returns-then-self-number-clause-told : goal.returns-then-self-number-clause-told
returns-then-self-number-clause-told c =
    let t = c.args.self.now in
    let e = c.in-Some.ensures in
    let n : c.in-Some.number ≡ t.count + 1 = omega (arith, e) in (
      refl,
      λ input before h. passed_one t.asked input before t.count c.in-Some.number (entry_is c.args.entry) n t.state t.recent t.first h
          c.if-number-self.false c.if-self-number.true,
    )

pub returns-clause-told : goal.returns-clause-told
returns-clause-told c =
    let t = c.args.self.now in
    let e = c.in-Some.ensures in
    let n : c.in-Some.number ≡ t.count + 1 = omega (arith, e) in (
      refl,
      λ input before h. asked_one t.asked input before t.count c.in-Some.number (entry_is c.args.entry) n t.state t.recent
          c.keep-2.new.self t.first c.add.new.self h c.if-number-self.false c.if-self-number.false c.in_ok-keep-2.ensures c.in_ok-add.ensures,
    )
