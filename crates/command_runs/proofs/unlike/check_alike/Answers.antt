use Rattle.std.proofs.Common.{◌≡◌, ◌<◌, List, length, subst, sym}
use Rattle.std.specs.Prelude.{Some, slice_get}
use Rattle.pram_model.specs.Layout.{SharedEntry}
use Rattle.command_runs.specs.Specified.{IsFirstUnlike}
use Rattle.command_runs.proofs.Unlikes.{first_of}
use Rattle.command_runs.proofs.unlike.check_alike.Goals as goal

pub halted_unlike-requires : goal.halted_unlike-requires
halted_unlike-requires c =
    let p = c.args.program.now.layout in
    let q = c.args.postcondition.now.layout in
    let i = c.in-Some.i in
    let told = c.in-Some.ensures.unlike in
    let first = first_of p q i told.0 told.1 c.in-Some.ensures.first in
    record {
      inside = subst (λ (l : List SharedEntry). i < length l) (sym c.layout-asked.ensures) told.0;
      first = (
        first.0,
        subst (λ (l : List SharedEntry). slice_get l i ≡ Some first.0) (sym c.layout-asked.ensures) first.1,
        subst (λ (l : List SharedEntry). IsFirstUnlike l c.layout-asked.result.now first.0) (sym c.layout-layout.ensures)
            (subst (λ (l : List SharedEntry). IsFirstUnlike p l first.0) (sym c.layout-asked.ensures) first.2),
      );
    }
