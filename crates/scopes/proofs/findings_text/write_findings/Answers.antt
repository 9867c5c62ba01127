use Rattle.std.proofs.Common.{◌++◌, List, ap, map, refl, sym}
use Rattle.text_out.proofs.Progress.{breaks_off, closes, goes_on, starts}
use Rattle.scopes.specs.declared.findings.FoundFault.{FoundFault}
use Rattle.scopes.specs.Found.{found_is, met_is}
use Rattle.scopes.specs.FindingsText.{behind_text, counts_text, met_lines}
use Rattle.scopes.proofs.findings_text.write_findings.Goals as goal

pub returns-in_err-write_counts : goal.returns-in_err-write_counts
returns-in_err-write_counts g c =
    let f = found_is c.args.findings.now in
    let counts = counts_text c.args.specification.now f in
    let met = met_lines c.args.layout.now f.faults in
    let behind = behind_text f in
    record {
      written = breaks_off _ _ _ _ _ counts (met ++ behind) c.from_residual.result _ c.from_residual.ensures.1 (starts _ _) refl
          c.in_err-write_counts.ensures.written;
    }

pub returns-in_err-write_all_met : goal.returns-in_err-write_all_met
returns-in_err-write_all_met g c =
    let f = found_is c.args.findings.now in
    let counts = counts_text c.args.specification.now f in
    let met = met_lines c.args.layout.now (map met_is c.as_slice.result.now) in
    let behind = behind_text f in
    let same = ap (λ (fs : List FoundFault). met_lines c.args.layout.now (map met_is fs) ++ behind) (sym c.as_slice.ensures.value) in
    let p1 = goes_on _ _ _ _ _ counts (met_lines c.args.layout.now f.faults ++ behind)
    (starts _ _) refl c.in_ok-write_counts.ensures.written in
    record {
      written = breaks_off _ _ _ _ _ met behind c.from_residual-in_err-write_all_met.result _
          c.from_residual-in_err-write_all_met.ensures.1 p1 same
          c.in_err-write_all_met.ensures.written;
    }

pub returns : goal.returns
returns g c =
    let f = found_is c.args.findings.now in
    let counts = counts_text c.args.specification.now f in
    let met = met_lines c.args.layout.now (map met_is c.as_slice.result.now) in
    let behind = behind_text f in
    let same = ap (λ (fs : List FoundFault). met_lines c.args.layout.now (map met_is fs) ++ behind) (sym c.as_slice.ensures.value) in
    let p1 = goes_on _ _ _ _ _ counts (met_lines c.args.layout.now f.faults ++ behind)
    (starts _ _) refl c.in_ok-write_counts.ensures.written in
    let p2 = goes_on _ _ _ _ _ met behind p1 same c.in_ok-write_all_met.ensures.written in
    record { written = closes _ _ _ _ _ c.write_behind.result p2 c.write_behind.ensures.written }
