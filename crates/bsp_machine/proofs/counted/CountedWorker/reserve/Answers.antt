use Rattle.std.proofs.Common.{◌≤◌, length, Some, refl, ap, subst, ◌∙◌, arith}
use Rattle.std.specs.Prelude.{vec_capacity}
use Rattle.superstep_machine.specs.Parts.{UniformPart}
use Rattle.superstep_machine.specs.Run.{setting, opening}
use Rattle.instruction_steps.specs.Views.{HasReserve}
use Rattle.worker_exchange.specs.declared.local.Local.{Local}
use Rattle.exchange_counts.specs.Tallies.{room_of}
use Rattle.run_options.specs.declared.reserve.Reserve.{Reserve}
use Rattle.bsp_machine.proofs.CountedLemmas.{one_reserve}
use Rattle.bsp_machine.proofs.counted.CountedWorker.reserve.Goals as goal

pub returns-clause-fresh : goal.returns-clause-fresh
returns-clause-fresh c = λ code m input w f.
    let e = c.in_ok-reserve-3.ensures in
    let output = ap (λ (u : UniformPart). length u.output) e.roomier.shown in
    let had = f.items.room in
    let wider = c.reserve-2.ensures.capacity in
    let items = c.in_ok-reserve-2.ensures.ok in
    let counts = c.in_ok-reserve.ensures.ok in
    record {
      worker = ap (λ (l : Local). l.steps.bank.worker) e.same ∙ f.worker;
      shown = λ bound n. e.shown (setting code m bound n) w (opening (setting code m bound n) input w) (f.shown bound n);
      going = λ bound. e.going code m bound (f.going bound);
      none = c.reserve.ensures.rows ∙ f.none;
      none_made = c.reserve.ensures.made ∙ f.none_made;
      items = record { none = c.reserve-2.ensures.items ∙ f.items.none; room = omega (arith, output, had, wider) };
      reserved = λ r some. subst (λ (q : Reserve). (HasReserve q.items c.reserve-3.new.self.steps.uniform)
          × (q.items ≤ vec_capacity c.reserve-2.new.self) × (q.exchanges ≤ room_of c.reserve.new.self))
          (one_reserve (Some c.args.reserve) c.args.reserve r refl some)
          (e.reserved, omega (arith, items), omega (arith, counts));
    }
