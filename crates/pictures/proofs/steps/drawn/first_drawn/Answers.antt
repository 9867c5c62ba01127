use Rattle.std.proofs.Common.{◌≡◌, ◌∙◌, ap, arith, map, sym, take}
use Rattle.std.proofs.lemmas.Grind.{common_steps}
use Rattle.std.proofs.lemmas.List.{take-map}
use Rattle.journal.specs.Entries.{entry_is}
use Rattle.pictures.specs.Steps.Drawn.{first_drawn}
use Rattle.pictures.proofs.steps.drawn.first_drawn.Goals as goal

pub returns-then-entries-gt-MOST_DRAWN-clause-first : goal.returns-then-entries-gt-MOST_DRAWN-clause-first
returns-then-entries-gt-MOST_DRAWN-clause-first c =
    let many = c.if-entries-gt-MOST_DRAWN.true in
    let first : take 96 (map entry_is c.args.entries.now) ≡ first_drawn (map entry_is c.args.entries.now) = grind (arith, common_steps) in
    ap (map entry_is) c.split_at.ensures.front ∙ sym (take-map entry_is 96 c.args.entries.now) ∙ first
