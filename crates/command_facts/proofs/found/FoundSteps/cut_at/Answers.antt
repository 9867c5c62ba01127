use Rattle.std.proofs.Common.{◌≤◌, ◌∙◌, ap}
use Rattle.std.proofs.Math.Bridge.{le_prop}
use Rattle.std.specs.Prelude.{length}
use Rattle.pram_model.specs.Layout.{total_size}
use Rattle.command_facts.specs.declared.found.Limit.{Limit}
use Rattle.command_facts.proofs.found.FoundSteps.cut_at.Goals as goal

pub returns : goal.returns
returns c =
    let s = c.args.self in
    record {
      cut = ap (λ (fits : length s.input.items ≤ total_size s.loaded.program.layout). record s { limit = c.limited.result; fits = fits })
          (le_prop _ s.fits) ∙ ap (λ (l : Limit). record s { limit = l }) c.limited.ensures;
    }
