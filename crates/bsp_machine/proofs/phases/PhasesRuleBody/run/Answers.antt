use Rattle.std.proofs.Common.{◌≡◌, List, ℤ, length, Bool, Option, sym, ap, subst, ◌∙◌}
use Rattle.std.proofs.lemmas.List.{with_items_is}
use Rattle.bsp_machine.specs.declared.counted.CountedWorker.{CountedWorker}
use Rattle.run_options.specs.declared.reserve.Reserve.{Reserve}
use Rattle.bsp_machine.specs.Workers.{AreKept}
use Rattle.bsp_machine.specs.Reserves.{AreGiven}
use Rattle.bsp_machine.specs.Ended.{AreRunning, IsFirstOver}
use Rattle.bsp_machine.proofs.phases.PhasesRuleBody.run.Goals as goal

pub returns : goal.returns
returns g c =
    let m = g.M.AddressMap.shape c.args.self.map.now in
    let code = c.args.self.code.now in
    let bound = c.args.self.bound in
    let e = c.run_phases.ensures in
    let value = c.as_mut_slice.ensures.value in
    let is = with_items_is c.args.self.workers c.run_phases.new.workers
    (e.workers ∙ sym c.requires.1.long ∙ ap length (sym value) ∙ c.as_mut_slice.ensures.len) in
    subst (λ (ws : List CountedWorker). (length ws ≡ m.parts)
    × ((input : List ℤ) → AreRunning code m bound input c.args.self.workers.items → AreRunning code m bound input ws) × IsFirstOver ws
    × ((reserve : Option Reserve) → AreGiven reserve c.args.self.workers.items → AreGiven reserve ws)
    × ((kept : Bool) → AreKept kept c.args.self.workers.items → AreKept kept ws)) (sym is) (
      e.workers,
      λ input run. e.running input (subst (AreRunning code m bound input) (sym value) run),
      e.over,
      λ reserve given. e.given reserve (subst (AreGiven reserve) (sym value) given),
      λ kept each. e.kept kept (subst (AreKept kept) (sym value) each),
    )
