use Rattle.std.proofs.Common.{[], refl}
use Rattle.journal.specs.RunEntries.{run_entries}
use Rattle.pages.specs.Gathered.{IsGathering}
use Rattle.pages.proofs.AllLines.{if_is}
use Rattle.pages.proofs.Whole.{all_first, all_gathered, all_recent, gathering_begun}
use Rattle.pages.proofs.gathering.gather.Goals as goal

pub returns-clause-gathered : goal.returns-clause-gathered
returns-clause-gathered g c =
    let a = c.args.asked in
    let input = c.args.input.now in
    let es = run_entries c.args.program.now input c.in-Ok.ending.bound in
    let t = c.tell_in_time-gatherer.result.0 in
    let told = if_is _ c.tell_in_time-gatherer.result.1 c.in-Ok.ending c.in-Ok.is c.tell_in_time-gatherer.ensures.told in
    let state = c.in_ok-state.ensures in
    let all : IsGathering input es t =
    told.1 input [] (gathering_begun input _ refl state.cells state.variables state.printed c.in_ok-recent.ensures c.new-first.ensures) in
    all_gathered a t.asked input es t.recent t.first _ told.0 all
    (c.in_ok-lines.ensures input es (all_recent a t.asked input es t.count t.state t.recent t.first told.0 all)
    (all_first a t.asked input es t.count t.state t.recent t.first told.0 all))

pub returns-clause-recent : goal.returns-clause-recent
returns-clause-recent g c =
    let input = c.args.input.now in
    let es = run_entries c.args.program.now input c.in-Ok.ending.bound in
    let t = c.tell_in_time-gatherer.result.0 in
    let told = if_is _ c.tell_in_time-gatherer.result.1 c.in-Ok.ending c.in-Ok.is c.tell_in_time-gatherer.ensures.told in
    let state = c.in_ok-state.ensures in
    let all : IsGathering input es t =
    told.1 input [] (gathering_begun input _ refl state.cells state.variables state.printed c.in_ok-recent.ensures c.new-first.ensures) in
    all_recent c.args.asked t.asked input es t.count t.state t.recent t.first told.0 all
