use Rattle.std.proofs.Common.{◌≡◌, Option, subst}
use Rattle.std.specs.Prelude.{IfSome}
use Rattle.pram_model.specs.Layout.{SharedEntry, subscripts}
use Rattle.scopes.proofs.Places.{placed_at}
use Rattle.comparing.proofs.common.start_of.Goals as goal

pub returns : goal.returns
returns c = λ e at.
    let r = c.range.result in
    let bounds : (r.low ≡ (subscripts e.bounds).0) × (r.high ≡ (subscripts e.bounds).1) =
    subst (λ (o : Option SharedEntry). IfSome o
    (λ (x : SharedEntry). (r.low ≡ (subscripts x.bounds).0) × (r.high ≡ (subscripts x.bounds).1)))
    at c.range.ensures.bounds in
    placed_at 0 c.args.layout.now c.args.i e r.first r.low r.high at r.ordered bounds.0 bounds.1 (c.range.ensures.cells r.low)
