use Rattle.std.proofs.Common.{sym, subst}
use Rattle.superstep_instructions.specs.Code.{SuperstepCode}
use Rattle.bsp_verify.specs.declared.fault.VerifyFault.{VerifyFault}
use Rattle.bsp_verify.specs.FirstFault.{IsRefusal}
use Rattle.renaming.specs.Packed.{IsPacked, RunsAlike}
use Rattle.renaming.proofs.Packs.{runs_alike, well_formed}
use Rattle.renaming.proofs.packing.pack.Goals as goal

pub returns-in-Ok-clause-alike : goal.returns-in-Ok-clause-alike
returns-in-Ok-clause-alike c =
    let is = subst (λ (code : SuperstepCode). IsPacked code c.in_ok-left.left) c.code.ensures.value c.in_ok-left.ensures in
    subst (λ (left : SuperstepCode). RunsAlike c.args.code.now left) (sym c.in-Ok.ensures.kept)
    (runs_alike c.args.code.now c.in_ok-left.left is)

-- packed code is well formed, so it is not refused
pub unreachable-requires : goal.unreachable-requires
unreachable-requires c =
    let is = subst (λ (code : SuperstepCode). IsPacked code c.in_ok-left.left) c.code.ensures.value c.in_ok-left.ensures in
    let refused = subst (λ (fault : VerifyFault). IsRefusal c.in_ok-left.left fault) c.in-Err-NotVerified-default.field-0-0-is
    c.in-Err-NotVerified-default.ensures.refused in
    refused.refused (well_formed c.args.code.now c.in_ok-left.left is c.code.ensures.stands)
