use Rattle.std.proofs.Common.{◌++◌, codes, refl}
use Rattle.text_out.proofs.Progress.{breaks_off, closes, goes_on, starts}
use Rattle.scopes.specs.Found.{found_is}
use Rattle.scopes.specs.FindingsText.{input_line, span_line}
use Rattle.scopes.proofs.findings_text.write_behind.Goals as goal

pub returns-in_err-write_first : goal.returns-in_err-write_first
returns-in_err-write_first g c =
    let f = found_is c.args.findings.now in
    let goes = input_line (codes "goes on at input") f.goes_on_at in
    let fails = input_line (codes "fails at input") f.fails_at in
    let time = span_line (codes "time ") f.time in
    let work = span_line (codes "work ") f.work in
    record {
      written = breaks_off _ _ _ _ _ goes (fails ++ (time ++ work)) c.from_residual.result _ c.from_residual.ensures.1 (starts _ _) refl
          c.in_err-write_first.ensures.written;
    }

pub returns-in_err-write_first-2 : goal.returns-in_err-write_first-2
returns-in_err-write_first-2 g c =
    let f = found_is c.args.findings.now in
    let goes = input_line (codes "goes on at input") f.goes_on_at in
    let fails = input_line (codes "fails at input") f.fails_at in
    let time = span_line (codes "time ") f.time in
    let work = span_line (codes "work ") f.work in
    let p1 = goes_on _ _ _ _ _ goes (fails ++ (time ++ work)) (starts _ _) refl c.in_ok-write_first.ensures.written in
    record {
      written = breaks_off _ _ _ _ _ fails (time ++ work) c.from_residual-in_err-write_first-2.result _
          c.from_residual-in_err-write_first-2.ensures.1 p1 refl
          c.in_err-write_first-2.ensures.written;
    }

pub returns-in_err-write_span : goal.returns-in_err-write_span
returns-in_err-write_span g c =
    let f = found_is c.args.findings.now in
    let goes = input_line (codes "goes on at input") f.goes_on_at in
    let fails = input_line (codes "fails at input") f.fails_at in
    let time = span_line (codes "time ") f.time in
    let work = span_line (codes "work ") f.work in
    let p1 = goes_on _ _ _ _ _ goes (fails ++ (time ++ work)) (starts _ _) refl c.in_ok-write_first.ensures.written in
    let p2 = goes_on _ _ _ _ _ fails (time ++ work) p1 refl c.in_ok-write_first-2.ensures.written in
    record {
      written = breaks_off _ _ _ _ _ time work c.from_residual-in_err-write_span.result _ c.from_residual-in_err-write_span.ensures.1 p2
          refl
          c.in_err-write_span.ensures.written;
    }

pub returns : goal.returns
returns g c =
    let f = found_is c.args.findings.now in
    let goes = input_line (codes "goes on at input") f.goes_on_at in
    let fails = input_line (codes "fails at input") f.fails_at in
    let time = span_line (codes "time ") f.time in
    let work = span_line (codes "work ") f.work in
    let p1 = goes_on _ _ _ _ _ goes (fails ++ (time ++ work)) (starts _ _) refl c.in_ok-write_first.ensures.written in
    let p2 = goes_on _ _ _ _ _ fails (time ++ work) p1 refl c.in_ok-write_first-2.ensures.written in
    let p3 = goes_on _ _ _ _ _ time work p2 refl c.in_ok-write_span.ensures.written in
    record { written = closes _ _ _ _ _ c.write_span-2.result p3 c.write_span-2.ensures.written }
