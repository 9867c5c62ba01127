use Rattle.memory_texts.specs.Assignments.{assigned_if}
use Rattle.memory_texts.proofs.Lines.{hands_on, turn_line, turn_reaches, turn_wrong}
use Rattle.memory_texts.proofs.reading.memory_of.Goals as goal

pub returns-in_err-given : goal.returns-in_err-given
returns-in_err-given c =
    hands_on _ c.from_residual-in_err-given.result c.in_err-given.field-0.0 _ c.from_residual-in_err-given.ensures.1
    (turn_wrong c.args.layout.now c.args.text.now c.split_at.result.1.now c.split.result.0.now c.loop-at.memory.items c.loop-at.at
    c.loop-at.invariant c.loop-at-test.true c.split_at.ensures.back c.split.ensures.front c.in_err-given.field-0.0 c.in_err-given.ensures)

pub put_given-requires : goal.put_given-requires
put_given-requires c = record {
  there = turn_reaches c.args.layout.now c.args.text.now c.split_at.result.1.now c.split.result.0.now c.loop-at.memory.items c.loop-at.at
      c.loop-at.invariant c.loop-at-test.true c.split_at.ensures.back c.split.ensures.front (assigned_if c.in_ok-given.given)
      c.in_ok-given.ensures;
}

pub loop-at-preserved : goal.loop-at-preserved
loop-at-preserved c =
    turn_line c.args.layout.now c.args.text.now c.split_at.result.1.now c.split.result.0.now c.loop-at.memory.items c.loop-at.at
    c.loop-at.invariant c.loop-at-test.true c.split_at.ensures.back c.split.ensures.front (assigned_if c.in_ok-given.given)
    c.put_given.new.memory.items c.in_ok-given.ensures c.put_given.ensures.given c.put_given.ensures.sized
