use Rattle.std.proofs.Common.{arith, subst, Bool}
use Rattle.pram_meaning.specs.Meaning.{Ends, Tested}
use Rattle.pram_meaning.specs.Runs.{state_of}
use Rattle.endless_runs.proofs.ForWalk.{bounds_known, for_ends, for_goes, for_known, for_stops}
use Rattle.endless_runs.proofs.LoopWalk.{loop_cycles, loop_ends, loop_goes, loop_stops}
use Rattle.endless_runs.proofs.Walk.{block_goes, while_known}
use Rattle.std.proofs.Common.{refl}
use Rattle.endless_runs.proofs.search.Search.+search.Goals as goal

pub search_statement-returns-in-While-clause-known :
    goal.search_statement-returns-in-While-clause-known
search_statement-returns-in-While-clause-known g t c =
    while_known c.args.self.now.interpreter.program.now c.in-While.location c.args.s.now c.in-While.test c.in-While.body
    (state_of c.args.run.now) (state_of c.search_while.new.run) c.search_while.result c.in-While.is c.search_while.ensures.known

pub search_while-returns-then-not-holds-clause-known :
    goal.search_while-returns-then-not-holds-clause-known
search_while-returns-then-not-holds-clause-known g t c =
    loop_ends c.args.self.now.interpreter.program.now c.args.location c.args.test.now c.args.body.now.items
    (state_of c.args.run.now) (state_of c.turns.run) (state_of c.test.new.run) c.turns.first.kept c.turns.invariant.0
    (subst (λ (z : Bool). Tested c.args.self.now.interpreter.program.now c.args.location.line c.args.test.now (state_of c.turns.run)
    (Ends z (state_of c.test.new.run))) c.if-not-holds.true c.in-Ok.ensures.tested)

pub search_while-turns-preserved : goal.search_while-turns-preserved
search_while-turns-preserved g t c =
    let a = c.turns.invariant.2 in
    let b = c.in-Ok.ensures.more in
    let d = c.in_default-search_block.ensures.grows in (
      loop_goes c.args.self.now.interpreter.program.now c.args.location c.args.test.now c.args.body.now.items
          (state_of c.args.run.now) (state_of c.turns.run) (state_of c.test.new.run) (state_of c.search_block.new.run) c.turns.first.kept
          c.look.new.self.kept refl c.turns.invariant.0
          (subst (λ (z : Bool). Tested c.args.self.now.interpreter.program.now c.args.location.line c.args.test.now (state_of c.turns.run)
          (Ends z (state_of c.test.new.run))) c.if-not-holds.false c.in-Ok.ensures.tested)
          c.in_default-search_block.ensures.known c.in-Ok-look.ensures,
      loop_goes c.args.self.now.interpreter.program.now c.args.location c.args.test.now c.args.body.now.items
          (state_of c.args.run.now) (state_of c.turns.run) (state_of c.test.new.run) (state_of c.search_block.new.run) c.turns.later.kept
          c.look-in-turns.new.self.kept refl c.turns.invariant.1
          (subst (λ (z : Bool). Tested c.args.self.now.interpreter.program.now c.args.location.line c.args.test.now (state_of c.turns.run)
          (Ends z (state_of c.test.new.run))) c.if-not-holds.false c.in-Ok.ensures.tested)
          c.in_default-search_block.ensures.known c.in-Ok-look-2.ensures,
      omega (arith, a, b, d),
      c.in_default-search_block.ensures.within,
    )

pub search_for-returns-clause-known : goal.search_for-returns-clause-known
search_for-returns-clause-known g t c =
    bounds_known c.args.self.now.interpreter.program.now c.args.location c.args.variable c.args.low.now c.args.high.now
    c.args.body.now.items (state_of c.args.run.now) (state_of c.bounds.new.run) (state_of c.search_turns.new.run) c.in-Ok.numbers.next
    c.in-Ok.numbers.last c.search_turns.result c.in-Ok.ensures.bounds (c.search_turns.ensures.known c.args.location)

pub search_statement-returns-in-For-clause-known :
    goal.search_statement-returns-in-For-clause-known
search_statement-returns-in-For-clause-known g t c =
    let p = c.in-For in
    for_known c.args.self.now.interpreter.program.now p.location c.args.s.now p.variable p.low p.high p.body (state_of c.args.run.now)
    (state_of c.search_for.new.run) c.search_for.result p.is c.search_for.ensures.known

pub search_turns-returns-in-Err-clause-known : goal.search_turns-returns-in-Err-clause-known
search_turns-returns-in-Err-clause-known g t c =
    let set = c.in-Ok.ensures.set in
    for_stops c.args.self.now.interpreter.program.now c.args.variable c.args.body.now.items c.args.numbers.now.next c.args.numbers.now.last
    c.turns.left.next c.turns.left.last (state_of c.args.run.now) (state_of c.turns.run) set.0 (state_of c.set_next.new.run)
    (state_of c.search_block.new.run) c.in-Err.stop c.turns.invariant.0 set.1 set.2 c.in-Err.ensures.known

pub search_turns-returns-then-is_at_end-clause-known :
    goal.search_turns-returns-then-is_at_end-clause-known
search_turns-returns-then-is_at_end-clause-known g t c =
    let set = c.in-Ok.ensures.set in
    for_ends c.args.self.now.interpreter.program.now c.args.variable c.args.body.now.items c.args.numbers.now.next c.args.numbers.now.last
    c.turns.left.next c.turns.left.last (state_of c.args.run.now) (state_of c.turns.run) set.0 (state_of c.set_next.new.run)
    (state_of c.search_block.new.run) c.turns.invariant.0 set.1 set.2 c.in_default-search_block.ensures.known
    (c.is_at_end.ensures.last c.if-is_at_end.true)

pub search_turns-turns-preserved : goal.search_turns-turns-preserved
search_turns-turns-preserved g t c =
    let set = c.in-Ok.ensures.set in
    let a = c.turns.invariant.1 in
    let b = c.in-Ok.ensures.more in
    let d = c.in_default-search_block.ensures.grows in (
      for_goes c.args.self.now.interpreter.program.now c.args.variable c.args.body.now.items c.args.numbers.now.next c.args.numbers.now.last
          c.turns.left.next c.turns.left.last c.advance.new.self.next c.advance.new.self.last (state_of c.args.run.now)
          (state_of c.turns.run) set.0 (state_of c.set_next.new.run) (state_of c.search_block.new.run) c.turns.invariant.0 set.1 set.2
          c.in_default-search_block.ensures.known c.advance.ensures.next c.advance.ensures.last
          (c.is_at_end.ensures.more c.if-is_at_end.false),
      omega (arith, a, b, d),
      c.in_default-search_block.ensures.within,
    )

pub search_block-loop-s-preserved : goal.search_block-loop-s-preserved
search_block-loop-s-preserved g t c =
    let i = c.loop-s.invariant in
    let a = i.1 in
    let d = c.in_default.ensures.grows in (
      block_goes c.args.self.now.interpreter.program.now c.deref-s-items.result.now c.loop-s.s-index _ (state_of c.args.run.now)
          (state_of c.loop-s.run) (state_of c.search_statement.new.run) i.0 c.loop-s-test.true c.s-item.is c.in_default.ensures.known,
      omega (arith, a, d),
      c.in_default.ensures.within,
      i.3,
    )

pub search_while-returns-in-Some-clause-known : goal.search_while-returns-in-Some-clause-known
search_while-returns-in-Some-clause-known g t c =
    loop_cycles c.args.self.now.interpreter.program.now c.args.location c.args.test.now c.args.body.now.items
    (state_of c.args.run.now) (state_of c.turns.run) (state_of c.test.new.run) (state_of c.search_block.new.run) c.turns.first.kept
    c.in-Some.cycle refl c.turns.invariant.0
    (subst (λ (z : Bool). Tested c.args.self.now.interpreter.program.now c.args.location.line c.args.test.now (state_of c.turns.run)
    (Ends z (state_of c.test.new.run))) c.if-not-holds.false c.in-Ok.ensures.tested)
    c.in_default-search_block.ensures.known (c.find.ensures c.in-Some.cycle c.in-Some.is)

pub search_while-returns-in-Some-find-clause-known : goal.search_while-returns-in-Some-find-clause-known
search_while-returns-in-Some-find-clause-known g t c =
    loop_cycles c.args.self.now.interpreter.program.now c.args.location c.args.test.now c.args.body.now.items
    (state_of c.args.run.now) (state_of c.turns.run) (state_of c.test.new.run) (state_of c.search_block.new.run) c.turns.later.kept
    c.in-Some-find.cycle refl c.turns.invariant.1
    (subst (λ (z : Bool). Tested c.args.self.now.interpreter.program.now c.args.location.line c.args.test.now (state_of c.turns.run)
    (Ends z (state_of c.test.new.run))) c.if-not-holds.false c.in-Ok.ensures.tested)
    c.in_default-search_block.ensures.known (c.find-in-turns.ensures c.in-Some-find.cycle c.in-Some-find.is)

pub search_while-returns-in-Err-clause-known : goal.search_while-returns-in-Err-clause-known
search_while-returns-in-Err-clause-known g t c =
    loop_stops c.args.self.now.interpreter.program.now c.args.location c.args.test.now c.args.body.now.items
    (state_of c.args.run.now) (state_of c.turns.run) (state_of c.test.new.run) (state_of c.search_block.new.run) c.turns.first.kept
    c.in-Err.stop c.turns.invariant.0
    (subst (λ (z : Bool). Tested c.args.self.now.interpreter.program.now c.args.location.line c.args.test.now (state_of c.turns.run)
    (Ends z (state_of c.test.new.run))) c.if-not-holds.false c.in-Ok.ensures.tested)
    c.in-Err.ensures.known
