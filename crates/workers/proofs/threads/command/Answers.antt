use Rattle.workers.proofs.CrewLemmas.{few_reports, all_reports, reported}
use Rattle.workers.proofs.threads.command.Goals as goal

pub returns : goal.returns
returns g c =
    let done = g.T.Deed.done in
    let l = c.args.line.now in
    let rs = c.args.runners.items in
    let hs = c.start_all-handles.result.0.items in
    let all = c.start_all-handles.result.1 in
    let reports = c.join_all-reports.result.items in
    let new = c.requires.runners in
    let started = c.start_all-handles.ensures in
    let told = c.join_all-reports.ensures in
    record {
      table = c.say-starter.ensures.table;
      went = all;
      said = c.say-starter.ensures.said;
      few = few_reports done l rs hs all reports new started told;
      all = all_reports done l rs hs all reports new started told;
      reported = reported done l rs hs all reports new started told;
    }
