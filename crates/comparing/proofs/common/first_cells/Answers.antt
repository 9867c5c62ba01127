use Rattle.std.proofs.Common.{◌∙◌, ◌<◌, arith, length, zero-add}
use Rattle.pram_model.specs.Layout.{total_size}
use Rattle.std.proofs.Common.{take}
use Rattle.comparing.proofs.Fronts.{placed_start}
use Rattle.scopes.proofs.Lists.{there}
use Rattle.comparing.proofs.common.first_cells.Goals as goal

pub returns-then-declarations-len : goal.returns-then-declarations-len
returns-then-declarations-len c =
    let l = c.args.layout.now in
    let i = c.args.declarations in
    let within : i < length l = omega arith in
    let e = there l i within in
    placed_start 0 l i (record { entry = e.0; start = c.start_of.result }) (c.start_of.ensures e.0 e.1) ∙ zero-add (total_size (take i l))
