use Rattle.std.proofs.Common.{◌≡◌, ◌+◌, arith, length}
use Rattle.journal.specs.Entries.{entry_is}
use Rattle.json_texts.specs.StepFacts.{step_facts}
use Rattle.pages.specs.Counted.{IsWord}
use Rattle.pages.proofs.FirstBytes.{first_added}
use Rattle.pages.proofs.SoundSteps.{step_read}
use Rattle.pages.proofs.first_lines.FirstLines.add.Goals as goal

pub returns : goal.returns
returns c facts h =
    let f = c.args.self.now in
    let a = c.args.asked in
    let e = c.args.entry.now in
    let one : c.in-Some.count ≡ f.count + 1 = (let e = c.in-Some.ensures in omega (arith, e)) in
    let long : IsWord (length a.source.now + 1) = c.in-Some-checked_add.ensures.0 in
    first_added f _ facts (step_facts a.layout.now a.tree.now a.source.now c.args.number (entry_is e)) h c.in_ok-put.ensures.bytes one
    (step_read a.layout.now a.tree.now a.source.now long c.args.number c.ranges.number.fits e c.see_numbers.ensures)
