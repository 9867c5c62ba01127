use Rattle.std.proofs.Common.{◌∙◌, ap, length}
use Rattle.std.specs.Int.{cast_signed, w64}
use Rattle.combining.specs.Held.{paired}
use Rattle.combining.specs.Asked.{ask_at}
use Rattle.combining.proofs.Marks.{worded_replied, length_valued}
use Rattle.combining.proofs.single.keep_in_order.Goals as goal

pub returns-clause-held : goal.returns-clause-held
returns-clause-held g c =
    let m = g.M.AddressMap.shape c.args.map.now in
    ap (paired ask_at c.args.keys.now) c.put_words.ensures.items
    ∙ worded_replied m (g.met.M.AddressMap.lawful c.args.map.now) c.requires.one c.args.words.now c.args.keys.now c.args.asked.now.items
    c.requires.cells

pub returns-clause-length : goal.returns-clause-length
returns-clause-length g c =
    ap length c.put_words.ensures.items ∙ length_valued (cast_signed w64) c.args.words.now c.args.asked.now.items
