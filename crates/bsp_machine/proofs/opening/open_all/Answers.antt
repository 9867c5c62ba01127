use Rattle.std.proofs.Common.{◌≡◌, ap, arith, length, None}
use Rattle.std.proofs.lemmas.Option.{slice_get_within}
use Rattle.bsp_machine.proofs.OpeningLemmas.{more_fresh, more_long, more_unreserved, more_kept, fresh_given}
use Rattle.bsp_machine.proofs.opening.open_all.Goals as goal

pub workers-init : goal.workers-init
workers-init g c =
    let m = g.M.AddressMap.shape c.args.map.now in
    let none : length c.new-all.result.items ≡ 0 = ap length c.new-all.ensures.items in
    let first = c.in_ok-first.first in
    record {
      count = more_long first c.new-all.result.items c.add.new.all.items 0 c.in_ok-add.ensures.added none;
      fresh = more_fresh c.args.code.now m c.args.input.now first c.new-all.result.items c.add.new.all.items 0 c.in_ok-add.ensures.added
          none (λ w x at. absurd (let l = slice_get_within c.new-all.result.items w x at in omega (arith, none, l)))
          c.in_ok-first.ensures.fresh;
      none = more_unreserved first c.new-all.result.items c.add.new.all.items c.in_ok-add.ensures.added
          (λ w x at. absurd (let l = slice_get_within c.new-all.result.items w x at in omega (arith, none, l)))
          c.in_ok-first.ensures.unreserved;
      kept = more_kept c.args.kept first c.new-all.result.items c.add.new.all.items c.in_ok-add.ensures.added
          (λ w x at. absurd (let l = slice_get_within c.new-all.result.items w x at in omega (arith, none, l))) c.in_ok-first.ensures.kept;
    }

pub workers-preserved : goal.workers-preserved
workers-preserved g c =
    let m = g.M.AddressMap.shape c.args.map.now in
    let w = c.workers.worker in
    let i = c.workers.invariant in
    let next = c.in_ok-next.next in
    record {
      count = more_long next c.workers.all.items c.add-in-workers.new.all.items w c.in_ok-add-2.ensures.added i.count;
      fresh = more_fresh c.args.code.now m c.args.input.now next c.workers.all.items c.add-in-workers.new.all.items w
          c.in_ok-add-2.ensures.added i.count i.fresh c.in_ok-next.ensures.fresh;
      none = more_unreserved next c.workers.all.items c.add-in-workers.new.all.items c.in_ok-add-2.ensures.added i.none
          c.in_ok-next.ensures.unreserved;
      kept = more_kept c.args.kept next c.workers.all.items c.add-in-workers.new.all.items c.in_ok-add-2.ensures.added i.kept
          c.in_ok-next.ensures.kept;
    }

pub returns-clause-unreserved : goal.returns-clause-unreserved
returns-clause-unreserved g c =
    let i = c.workers.invariant in
    fresh_given c.args.code.now (g.M.AddressMap.shape c.args.map.now) c.args.input.now c.workers.all.items None i.fresh i.none
