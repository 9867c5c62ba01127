use Rattle.journal.specs.Entries.{entry_is}
use Rattle.pages.proofs.AllLines.{on_made}
use Rattle.pages.proofs.OneEntry.{line_added, line_pushed, no_line_before, no_line_behind}
use Rattle.pages.proofs.last_lines.add_line.Goals.{then-number-asked-via-else-number-asked+then-asked-number}
use Rattle.pages.proofs.last_lines.add_line.Goals.{then-number-asked-via-then-number-asked}
use Rattle.pages.proofs.last_lines.add_line.Goals as goal

pub returns-then-number-asked : goal.returns-then-number-asked
returns-then-number-asked c =
    let a = c.args.asked in
    let e = entry_is c.args.entry.now in
    elim c.then-number-asked.branch [
      | then-number-asked-via-then-number-asked w ↦
          no_line_before a.layout.now a.tree.now a.source.now a.first a.last c.args.number e c.args.lines.now w.if-number-asked.true
      | then-number-asked-via-else-number-asked+then-asked-number w ↦
          no_line_behind a.layout.now a.tree.now a.source.now a.first a.last c.args.number e c.args.lines.now w.if-asked-number.true
    ]

pub returns : goal.returns
returns c =
    let a = c.args.asked in
    let k = c.args.lines.now in
    on_made _ _ c.push.result
    (λ holds. line_added a.layout.now a.tree.now a.source.now a.first a.last c.args.number (entry_is c.args.entry.now) k c.push.new.self _
    c.if-number-asked.false c.if-asked-number.false c.in_ok-line.ensures.json (line_pushed k c.push.new.self _ _ c.as_bytes.ensures.value holds))
    c.push.ensures
