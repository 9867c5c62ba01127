use Rattle.std.proofs.Common.{None, sym, ap, subst, ◌∙◌}
use Rattle.std.specs.Prelude.{if◌then◌else◌}
use Rattle.superstep_machine.specs.Sending.{is_private}
use Rattle.superstep_machine.specs.Setting.{module_cells}
use Rattle.superstep_machine.specs.Run.{setting}
use Rattle.superstep_machine.specs.WordLaws.{messages_read}
use Rattle.instruction_steps.specs.Views.{moment_is, read_is}
use Rattle.combining.specs.Merged.{IsLeastShared}
use Rattle.combining.specs.ModuleLaws.{key_of_shared}
use Rattle.combining.proofs.ModuleSends.{shared_conflict}
use Rattle.worker_exchange.proofs.SettleLemmas.{uniform_silent}
use Rattle.worker_exchange.proofs.settling.key_of_read.Goals as goal

pub returns-in-Uniform-clause-key : goal.returns-in-Uniform-clause-key
returns-in-Uniform-clause-key g c = λ code bound n received e.
    let m = g.M.AddressMap.shape c.args.map.now in
    sym (uniform_silent (messages_read code.rule m c.args.part received) (module_cells (setting code m bound n) c.args.part) c.args.k
    (read_is c.args.read) c.in-Uniform.is)

pub returns-in-Private-clause-key : goal.returns-in-Private-clause-key
returns-in-Private-clause-key g c = λ code bound n received e.
    let m = g.M.AddressMap.shape c.args.map.now in
    let at = moment_is c.args.read.moment in
    let found = c.read_conflict-cell.result in
    c.key_of_shared.ensures
    ∙ ap (λ s. if is_private s then key_of_shared at found else None) (sym c.in-Private.is)
    ∙ sym (shared_conflict (setting code m bound n) c.args.part received c.args.k (read_is c.args.read) found
    (g.met.M.AddressMap.lawful c.args.map.now) c.requires.part
    (subst (λ columns. IsLeastShared m c.args.part columns c.args.k found) (sym e) c.read_conflict-cell.ensures.least))
