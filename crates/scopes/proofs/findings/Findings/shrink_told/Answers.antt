use Rattle.std.proofs.Common.{◌≡◌, ap, map, subst, sym, true, ◌∙◌}
use Rattle.std.specs.List.{All}
use Rattle.scopes.specs.Firsts.{Met}
use Rattle.scopes.specs.Found.{Found, met_is}
use Rattle.scopes.specs.Wrong.{goes_wrong}
use Rattle.scopes.specs.declared.wrong.Wrong.TheVariants.{Faults}
use Rattle.scopes.proofs.ToldSmaller.{all_wrong}
use Rattle.scopes.proofs.findings.Findings.shrink_told.Goals as goal

pub shrunk_faults-requires : goal.shrunk_faults-requires
shrunk_faults-requires c =
    let s = c.args.scope in
    let t = c.args.specification.now in
    let p = c.args.program.now in
    let n = c.args.bound in
    let is = ap (map met_is) c.as_slice-faults.ensures.value ∙ ap (λ (f : Found). f.faults) c.requires.found in
    record {
      told = subst (All (λ (m : Met). goes_wrong s t p n (Faults m.fault) m.input ≡ true)) (sym is) (all_wrong s t p n);
    }
