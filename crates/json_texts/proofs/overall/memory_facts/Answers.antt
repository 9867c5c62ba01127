use Rattle.std.proofs.Common.{◌<◌, arith, length, map}
use Rattle.serde_json.specs.View.{view}
use Rattle.json_texts.proofs.IntervalFacts.{memory_go}
use Rattle.json_texts.proofs.overall.memory_facts.Goals as goal

pub loop-i-preserved : goal.loop-i-preserved
loop-i-preserved c =
    let layout = c.args.layout.now in
    let intervals = c.args.intervals.now in
    let i = c.loop-i.i in
    let test = c.loop-i-test.true in
    let count = c.min-count.ensures in
    let long = c.len.ensures in
    let below : i < length layout = omega (arith, test, count, long) in
    let within : i < length intervals = omega (arith, test, count, long) in
    memory_go layout intervals i c.name.result.now c.bounds-bounds.result c.index-intervals-i.result (map view c.loop-i.list.items)
    (map view c.push_declared.new.list.items) c.loop-i.invariant below within c.name.ensures c.bounds-bounds.ensures c.index-intervals-i.is
    c.in_ok-push_declared.ensures
