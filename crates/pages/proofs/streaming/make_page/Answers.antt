use Rattle.std.proofs.Common.{◌+◌, ◌-◌, ◌∙◌, ap, arith, max, min}
use Rattle.std.specs.String.{string_bytes}
use Rattle.journal.specs.RunEntries.{run_entries}
use Rattle.pages.specs.Cut.{gap_end}
use Rattle.pages.proofs.Whole.{between_so, gap_within}
use Rattle.pages.proofs.streaming.make_page.Goals as goal

pub returns-clause-page : goal.returns-clause-page
returns-clause-page g c =
    let input = c.args.input.now in
    let es = run_entries c.args.program.now input c.in_ok-ending.ending.bound in
    let gathered = c.in_ok-ending.ensures.gathered in
    let keeps = c.in_ok-lines.ensures.facts es gathered in
    let kept = c.kept-kept in
    let gap = gap_end keeps.facts kept.result.front (keeps.holds.offset + kept.result.back) in
    let told = c.min-told.ensures ∙ ap (min c.args.last) gathered.counted in
    let end = c.gap_end.ensures keeps.facts keeps.holds kept.ensures.front_within in
    let most = max c.args.last (c.args.first - 1) in
    let little = c.min-told.ensures in
    record {
      keeps = keeps;
      cut = kept.ensures.cut keeps.facts keeps.holds;
      front_within = kept.ensures.front_within;
      back_within = kept.ensures.back_within;
      between = between_so input es _ _ (string_bytes c.in_ok-state.state) (end ∙ ap gap told)
          (c.in_ok-state.ensures.line most c.in_ok-ending.ensures.recent
          (gap_within keeps.facts kept.result.front (keeps.holds.offset + kept.result.back) _ most _ end (omega (arith, little))));
    }
