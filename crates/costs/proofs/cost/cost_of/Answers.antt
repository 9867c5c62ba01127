use Rattle.std.proofs.Common.{◌∙◌, ap, length}
use Rattle.exchange_bound.specs.Events.{events_of}
use Rattle.write_rules.specs.Verdict.{verdict_of}
use Rattle.costs.specs.Ledgers.{tally_is}
use Rattle.costs.specs.Spending.{closed}
use Rattle.costs.specs.Steps.{run_steps}
use Rattle.costs.specs.RowCosts.{costs_of_rows}
use Rattle.costs.proofs.Brent.{kept_brent}
use Rattle.costs.proofs.Communication.{words_told}
use Rattle.costs.proofs.RowCosts.{all_told, exchanges_told, lines_told, rows_told}
use Rattle.costs.proofs.Spendings.{closed_is}
use Rattle.costs.proofs.Sums.{reads_are, rounds_are, time_is, width_is, work_is, writes_are}
use Rattle.costs.proofs.Timed.{time_kept}
use Rattle.costs.proofs.cost.cost_of.Goals as goal

pub returns-clause-time : goal.returns-clause-time
returns-clause-time g c =
    let steps = run_steps c.args.program.now c.args.input.now c.args.bound in
    let events = events_of c.args.program.now c.args.input.now c.args.bound in
    let ledger = c.in_ok-outcome.ledger in
    time_is c.args.schedule steps (tally_is ledger.all) (all_told c.args.schedule steps events ledger c.in_ok-outcome.ensures.totals)

pub returns-clause-within : goal.returns-clause-within
returns-clause-within g c =
    let steps = run_steps c.args.program.now c.args.input.now c.args.bound in
    let events = events_of c.args.program.now c.args.input.now c.args.bound in
    let ledger = c.in_ok-outcome.ledger in
    time_kept c.args.program.now c.args.input.now c.args.bound
    (verdict_of c.in_ok-outcome.outcome) ledger.all.time c.in_ok-outcome.ensures.outcome
    (time_is c.args.schedule steps (tally_is ledger.all) (all_told c.args.schedule steps events ledger c.in_ok-outcome.ensures.totals))

pub returns-clause-work : goal.returns-clause-work
returns-clause-work g c =
    let steps = run_steps c.args.program.now c.args.input.now c.args.bound in
    let events = events_of c.args.program.now c.args.input.now c.args.bound in
    let ledger = c.in_ok-outcome.ledger in
    work_is c.args.schedule steps (tally_is ledger.all) (all_told c.args.schedule steps events ledger c.in_ok-outcome.ensures.totals)

pub returns-clause-width : goal.returns-clause-width
returns-clause-width g c =
    let steps = run_steps c.args.program.now c.args.input.now c.args.bound in
    let events = events_of c.args.program.now c.args.input.now c.args.bound in
    let ledger = c.in_ok-outcome.ledger in
    width_is c.args.schedule steps (tally_is ledger.all) (all_told c.args.schedule steps events ledger c.in_ok-outcome.ensures.totals)

pub returns-clause-reads : goal.returns-clause-reads
returns-clause-reads g c =
    let steps = run_steps c.args.program.now c.args.input.now c.args.bound in
    let events = events_of c.args.program.now c.args.input.now c.args.bound in
    let ledger = c.in_ok-outcome.ledger in
    reads_are c.args.schedule steps (tally_is ledger.all) (all_told c.args.schedule steps events ledger c.in_ok-outcome.ensures.totals)

pub returns-clause-writes : goal.returns-clause-writes
returns-clause-writes g c =
    let steps = run_steps c.args.program.now c.args.input.now c.args.bound in
    let events = events_of c.args.program.now c.args.input.now c.args.bound in
    let ledger = c.in_ok-outcome.ledger in
    writes_are c.args.schedule steps (tally_is ledger.all) (all_told c.args.schedule steps events ledger c.in_ok-outcome.ensures.totals)

pub returns-clause-rounds : goal.returns-clause-rounds
returns-clause-rounds g c =
    let steps = run_steps c.args.program.now c.args.input.now c.args.bound in
    let events = events_of c.args.program.now c.args.input.now c.args.bound in
    let ledger = c.in_ok-outcome.ledger in
    rounds_are c.args.schedule steps (tally_is ledger.all) (all_told c.args.schedule steps events ledger c.in_ok-outcome.ensures.totals)

pub returns-clause-lines : goal.returns-clause-lines
returns-clause-lines g c =
    let steps = run_steps c.args.program.now c.args.input.now c.args.bound in
    let events = events_of c.args.program.now c.args.input.now c.args.bound in
    let ledger = c.in_ok-outcome.ledger in
    lines_told c.args.schedule steps ledger.lines.items (rows_told c.args.schedule steps events ledger c.in_ok-outcome.ensures.totals) _
    (c.in-Ok.ensures ∙ ap (λ rows. costs_of_rows rows (length rows)) c.deref.ensures.value)

pub returns-clause-brent : goal.returns-clause-brent
returns-clause-brent g c =
    let steps = run_steps c.args.program.now c.args.input.now c.args.bound in
    let events = events_of c.args.program.now c.args.input.now c.args.bound in
    let ledger = c.in_ok-outcome.ledger in
    kept_brent c.args.schedule steps (tally_is ledger.all) c.from.result c.from-2.result c.requires.some
    (all_told c.args.schedule steps events ledger c.in_ok-outcome.ensures.totals) c.from.ensures c.from-2.ensures

pub returns-clause-most_exchanges : goal.returns-clause-most_exchanges
returns-clause-most_exchanges g c =
    let steps = run_steps c.args.program.now c.args.input.now c.args.bound in
    let events = events_of c.args.program.now c.args.input.now c.args.bound in
    c.in-Ok-close.ensures
    ∙ ap closed (exchanges_told c.args.schedule steps events c.in_ok-outcome.ledger c.in_ok-outcome.ensures.totals) ∙ closed_is events

pub returns-clause-most_words : goal.returns-clause-most_words
returns-clause-most_words g c =
    let program = c.args.program.now in
    let input = c.args.input.now in
    let steps = run_steps program input c.args.bound in
    let events = events_of program input c.args.bound in
    let ledger = c.in_ok-outcome.ledger in
    let told = all_told c.args.schedule steps events ledger c.in_ok-outcome.ensures.totals in
    words_told program c.rule.result c.args.workers input c.args.bound ledger.all.reads c.in_ok-outcome.outer_reads ledger.all.writes _
    c.rule.ensures (reads_are c.args.schedule steps (tally_is ledger.all) told) c.in_ok-outcome.ensures.outer_reads
    (writes_are c.args.schedule steps (tally_is ledger.all) told) c.in-Ok-words_asked.ensures
