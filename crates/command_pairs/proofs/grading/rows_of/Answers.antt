use Rattle.std.proofs.Common.{subst}
use Rattle.command_facts.proofs.Same.{same_through}
use Rattle.command_requests.specs.declared.pair_words.PairWords.{PairWords}
use Rattle.command_pairs.specs.Grades.{IsRow}
use Rattle.command_pairs.proofs.GradeRows.{next_row, row_held}
use Rattle.command_pairs.proofs.grading.rows_of.Goals as goal

pub loop-words-preserved : goal.loop-words-preserved
loop-words-preserved g c =
    let before = g.S.Sources.holds c.args.sources.now in
    let now = g.S.Sources.holds c.loop-words.sources in
    let item = c.words-item.result in
    let row = c.row_of-row.result in
    let one = row_held now before c.loop-words.invariant.1 item row c.row_of-row.ensures.row in (
      next_row (IsRow before) c.args.pairs.now c.loop-words.words-index item c.loop-words.rows.items c.push.new.self.items row
          c.loop-words-test.true c.loop-words.invariant.0 (subst (λ (w : PairWords). IsRow before w row) c.words-item.is one)
          c.in-Ok.ensures.items,
      same_through before now (g.S.Sources.holds c.row_of-row.new.sources) c.row_of-row.ensures.same c.loop-words.invariant.1,
    )
