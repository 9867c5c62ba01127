use Rattle.std.proofs.Common.{ap, refl, subst, sym}
use Rattle.mpi_export.specs.Alone.{alone_text}
use Rattle.mpi_export.specs.Program.{c_text}
use Rattle.program_texts.specs.declared.status.Status.TheVariants as status
use Rattle.command_facts.specs.Statuses.{status_of_found}
use Rattle.command_facts.specs.Written.{WroteSome}
use Rattle.command_facts.specs.declared.found.Settled.{Settled}
use Rattle.command_facts.specs.declared.found.Settled.TheVariants as settled
use Rattle.command_facts.proofs.Writing.{wrote_some}
use Rattle.command_text.specs.Texts.{IsTextOf}
use Rattle.command_text.proofs.telling.write_found.Goals as goal

-- said at the found code, since its text is too long to be looked through
pub returns-in-Exported : goal.returns-in-Exported
returns-in-Exported g c =
    let f = settled.Exported c.in-Exported.code in
    let old = g.O.Out.state c.args.out.now in
    let new = g.O.Out.state c.write_export.new.out in
    record {
      written = subst (λ (f : Settled). WroteSome (status_of_found f) ⊥ (IsTextOf f) old new c.write_export.result)
          (sym c.in-Exported.is)
          (wrote_some status.Done ⊥ (IsTextOf f) (c_text c.code-in-Exported.result.now) old new c.write_export.result
          (ap c_text c.code-in-Exported.ensures.value) c.write_export.ensures.written);
    }

pub returns-in-ExportedAlone : goal.returns-in-ExportedAlone
returns-in-ExportedAlone g c =
    let f = settled.ExportedAlone c.in-ExportedAlone.plan in
    let old = g.O.Out.state c.args.out.now in
    let new = g.O.Out.state c.write_plain_c.new.out in
    record {
      written = subst (λ (f : Settled). WroteSome (status_of_found f) ⊥ (IsTextOf f) old new c.write_plain_c.result)
          (sym c.in-ExportedAlone.is)
          (wrote_some status.Done ⊥ (IsTextOf f) (alone_text c.in-ExportedAlone.plan) old new c.write_plain_c.result
          refl c.write_plain_c.ensures.written);
    }
