use Rattle.std.proofs.Common.{◌++◌, ap, sym}
use Rattle.text_places.proofs.Pieces.{both}
use Rattle.help.proofs.text.write_whole.Goals as goal

pub returns : goal.returns
returns g c =
    let whole = ap (λ l. c.args.sentence.now ++ l) (sym c.line_end.ensures) in
    record { written = both _ _ _ _ _ _ c.write_all-2.result whole c.in_ok-write_all.ensures.written c.write_all-2.ensures.written }
