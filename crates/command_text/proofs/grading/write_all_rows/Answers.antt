use Rattle.std.proofs.Common.{◌≡◌, subst, refl}
use Rattle.text_out.specs.Out.{StopsIn, Writes, with_bytes}
use Rattle.text_out.proofs.Progress.{breaks_off, closes, goes_on, starts}
use Rattle.command_text.specs.Grades.{passing_text, rows_text}
use Rattle.command_text.proofs.grading.write_all_rows.Goals as goal

pub returns-in_err-write_rows : goal.returns-in_err-write_rows
returns-in_err-write_rows g c =
    let one = rows_text c.args.found.now.name.now c.args.found.now.rows.items in
    let two = passing_text c.args.found.now.rows.items in
    record {
      written = breaks_off _ _ _ _ _ one two
          c.from_residual.result _ c.from_residual.ensures.1 (starts _ _) refl (subst (λ x. StopsIn (g.W.Out.state c.args.out.now) (g.W.Out.state c.write_rows.new.out) (rows_text c.args.found.now.name.now x)) c.deref.ensures.value c.in_err-write_rows.ensures.written);
    }

pub returns : goal.returns
returns g c =
    let one = rows_text c.args.found.now.name.now c.args.found.now.rows.items in
    let two = passing_text c.args.found.now.rows.items in
    let after_1 = goes_on _ _ _ _ _ one two (starts _ _) refl (subst (λ x. (g.W.Out.state c.write_rows.new.out) ≡ with_bytes (g.W.Out.state c.args.out.now) (rows_text c.args.found.now.name.now x)) c.deref.ensures.value c.in_ok-write_rows.ensures.written) in
    record {
      written = closes _ _ _ _ _ c.write_passing.result after_1 (subst (λ x. Writes (g.W.Out.state c.write_rows.new.out) (g.W.Out.state c.write_passing.new.out) (passing_text x) c.write_passing.result)
          c.deref-2.ensures.value c.write_passing.ensures.written);
    }
