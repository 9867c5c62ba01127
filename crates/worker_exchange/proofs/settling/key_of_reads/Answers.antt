use Rattle.std.proofs.Common.{◌≡◌, ◌+◌, ◌-◌, ◌<◌, length, drop, map, ap, ◌∙◌, arith}
use Rattle.superstep_machine.specs.Setting.{module_cells}
use Rattle.superstep_machine.specs.Sending.{read_conflicts}
use Rattle.superstep_machine.specs.Run.{setting}
use Rattle.superstep_machine.specs.WordLaws.{messages_read}
use Rattle.instruction_steps.specs.Views.{read_is}
use Rattle.std.proofs.Common.{Bool, true, false, Option, None, refl, sym, subst}
use Rattle.std.specs.Prelude.{if◌then◌else◌}
use Rattle.superstep_machine.specs.declared.key.Key.{Key}
use Rattle.superstep_machine.specs.Sending.{is_private}
use Rattle.combining.specs.Merged.{IsLeastShared}
use Rattle.combining.proofs.ModuleSends.{shared_conflict}
use Rattle.worker_exchange.proofs.SettleLemmas.{more_noted, none_noted}
use Rattle.worker_exchange.proofs.settling.key_of_reads.Goals as goal

pub reads-preserved : goal.reads-preserved
reads-preserved g c =
    let k = c.reads.k - 1 in
    let some = c.reads-test.true in
    let low = c.reads.invariant.low in
    let next : c.reads.k ≡ k + 1 = omega (arith, some) in
    let within : k < length c.args.reads.now = omega (arith, some, low) in
    record {
      low = omega (arith, low);
      same = c.key_of_read-key.ensures.same ∙ c.reads.invariant.same;
      key = λ code bound n received e.
          let m = g.M.AddressMap.shape c.args.map.now in
          let messages = messages_read code.rule m c.args.part received in
          let cells = module_cells (setting code m bound n) c.args.part in
          more_noted messages cells c.args.reads.now k c.reads.k _ c.key_of_read-key.result c.reads.noted c.least-noted.result next within
          c.least-noted.ensures (c.key_of_read-key.ensures.key code bound n received e) (c.reads.invariant.key code bound n received e);
    }

pub returns-clause-key : goal.returns-clause-key
returns-clause-key g c = λ code bound n received e.
    let m = g.M.AddressMap.shape c.args.map.now in
    let messages = messages_read code.rule m c.args.part received in
    let cells = module_cells (setting code m bound n) c.args.part in
    let none = c.reads-test.false in
    let zero : c.reads.k ≡ 0 = omega (arith, none) in
    c.reads.invariant.key code bound n received e ∙ ap (λ q. read_conflicts messages cells q (map read_is (drop q c.args.reads.now))) zero

abbrev no_key : Option Key
no_key = None

neither : (private : Bool) → (if private then no_key else no_key) ≡ no_key
neither true = refl
neither false = refl

pub returns-then-asks_are_apart-clause-key : goal.returns-then-asks_are_apart-clause-key
returns-then-asks_are_apart-clause-key g c = λ code bound n received e.
    let m = g.M.AddressMap.shape c.args.map.now in
    let t = setting code m bound n in
    let part = c.args.part in
    none_noted (messages_read code.rule m part received) (module_cells t part) 0 (map read_is c.args.reads.now)
    (λ j read. shared_conflict t part received j read None (g.met.M.AddressMap.lawful c.args.map.now) c.requires.part
    (subst (λ columns. IsLeastShared m part columns j None) (sym e) (c.asks_are_apart.ensures c.if-asks_are_apart.true m part j))
    ∙ neither (is_private read.side))
