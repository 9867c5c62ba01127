use Rattle.std.proofs.Common.{◌≡◌, ◌∙◌, inl, inr, ap, pos, ◌*◌}
use Rattle.sweeps.specs.Equations.{dot, row_entry}
use Rattle.sweeps.specs.Formulas.{IsLogFor}
use Rattle.sweeps.proofs.Entries.{logged, no_log, one_log, seven_entries}
use Rattle.sweeps.proofs.Linear.{dot_same}
use Rattle.sweeps.proofs.equation.Equation.of_row.Goals as goal

pub returns-clause-entries : goal.returns-clause-entries
returns-clause-entries c log is =
    let same = one_log c.args.row.now.size c.log_of-log.result log (c.log_of-log.ensures.log (logged c.args.row.now.size log is)) is in
    seven_entries c.of.result c.of-2.result c.of-3.result c.of-4.result c.of-5.result c.cube.result c.of-6.result
    (row_entry c.args.row.now.size log c.args.row.now.number) c.of.ensures.value
    (c.of-2.ensures.value ∙ ap pos (c.from.ensures ∙ same))
    (c.of-3.ensures.value ∙ ap pos c.from-2.ensures)
    (c.of-4.ensures.value ∙ ap pos (c.product.ensures ∙ ap (λ n. c.args.row.now.size * n) same))
    (c.of-5.ensures.value ∙ ap pos c.product-2.ensures) c.cube.ensures.value c.of-6.ensures.value

pub returns-clause-sum : goal.returns-clause-sum
returns-clause-sum c z log is =
    let n = c.args.row.now.size in
    let here = seven_entries c.of.result c.of-2.result c.of-3.result c.of-4.result c.of-5.result c.cube.result c.of-6.result
    (row_entry n c.log_of-log.result c.args.row.now.number) c.of.ensures.value (c.of-2.ensures.value ∙ ap pos c.from.ensures)
    (c.of-3.ensures.value ∙ ap pos c.from-2.ensures) (c.of-4.ensures.value ∙ ap pos c.product.ensures)
    (c.of-5.ensures.value ∙ ap pos c.product-2.ensures) c.cube.ensures.value c.of-6.ensures.value in
    dot_same 7 _ (row_entry n c.log_of-log.result c.args.row.now.number) z here ∙ by is
  where
    by : IsLogFor (z 1) (z 3) c.args.row.now.size log →
        dot 7 (row_entry c.args.row.now.size c.log_of-log.result c.args.row.now.number) z
        ≡ dot 7 (row_entry c.args.row.now.size log c.args.row.now.number) z
    by (inl logged_by) =
        let same = one_log c.args.row.now.size c.log_of-log.result log
        (c.log_of-log.ensures.log (logged c.args.row.now.size log logged_by)) logged_by in
        ap (λ l. dot 7 (row_entry c.args.row.now.size l c.args.row.now.number) z) same
    by (inr gone) = no_log c.args.row.now.size c.log_of-log.result log c.args.row.now.number z gone.0 gone.1
