use Rattle.std.proofs.Common.{List, refl, subst}
use Rattle.std.specs.List.{AllZip}
use Rattle.command_requests.specs.declared.pair_words.PairWords.{PairWords}
use Rattle.command_pairs.specs.Grades.{IsRow}
use Rattle.command_pairs.proofs.GradeRows.{rows_held}
use Rattle.command_pairs.proofs.grading.find_grade.Goals as goal

pub returns-clause-found : goal.returns-clause-found
returns-clause-found g c =
    let before = g.S.Sources.holds c.args.sources.now in
    let then = g.S.Sources.holds c.load.new.sources in
    let rows = c.in_ok-rows.rows.items in
    record {
      reference = c.in_ok-reference.ensures.loaded;
      name = refl;
      rows = rows_held then before c.load.ensures.same c.args.words.now.pairs.items rows
          (subst (λ (ws : List PairWords). AllZip (IsRow then) ws rows) c.deref.ensures.value c.in_ok-rows.ensures.rows);
    }
