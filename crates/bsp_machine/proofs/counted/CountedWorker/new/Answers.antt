use Rattle.std.proofs.Common.{length, ap, arith}
use Rattle.superstep_machine.specs.Parts.{UniformPart}
use Rattle.bsp_machine.proofs.MarkLemmas.{going_on}
use Rattle.bsp_machine.proofs.TallyLemmas.{none_told}
use Rattle.bsp_machine.proofs.counted.CountedWorker.new.Goals as goal

pub returns-clause-fresh : goal.returns-clause-fresh
returns-clause-fresh g c =
    let e = c.in_ok-local.ensures in
    let none = ap (λ (u : UniformPart). length u.output) (e.shown 0 0).worker.shows.uniform in
    record {
      worker = e.worker;
      shown = e.shown;
      going = e.going;
      none = c.new-counts.ensures.none;
      none_made = c.new-counts.ensures.made;
      items = record { none = c.new-items.ensures.items; room = omega (arith, none) };
      reserved = λ r some. cc;
    }

pub returns-clause-opens : goal.returns-clause-opens
returns-clause-opens g c = λ bound.
    let e = c.in_ok-local.ensures in
    let none = ap (λ (u : UniformPart). length u.output) (e.shown 0 0).worker.shows.uniform in
    record {
      worker = λ alive. e.worker;
      shown = λ alive n low. e.shown bound n;
      going = λ on. e.going bound;
      counted = λ alive n low. none_told c.new-counts.result c.new-counts.ensures.none c.new-counts.ensures.made;
      items = λ alive. record { none = c.new-items.ensures.items; room = omega (arith, none) };
      reserved = λ alive r some. cc;
    }

pub returns-clause-runs : goal.returns-clause-runs
returns-clause-runs g c = going_on c.in_ok-local.local.way (c.in_ok-local.ensures.going 0).going
