use Rattle.laid_out_texts.proofs.Laid.{indent-next}
use Rattle.laid_out_texts.proofs.indent.add_indent.Goals as goal

pub loop-preserved : goal.loop-preserved
loop-preserved c =
    indent-next c.loop.to.items c.args.to.now.items c.extend_from_slice.new.self.items c.loop.counter
    c.in_ok-extend_from_slice.ensures.items c.loop.invariant
