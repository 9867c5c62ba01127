use Rattle.std.proofs.Common.{[], map}
use Rattle.json_texts.proofs.Json.{adds_then}
use Rattle.json_texts.specs.SweepFacts.{last_facts, row_facts}
use Rattle.json_texts.proofs.sweep.json_sweep.Goals as goal

pub returns : goal.returns
returns c =
    let rows = map (row_facts c.args.name.now) c.args.rows.now in
    let last = last_facts c.args.name.now c.args.growths.now in
    record { json = adds_then rows last [] _ _ c.in_ok-text.ensures.json c.in_ok-push_growths.ensures.json }
