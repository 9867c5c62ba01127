use Rattle.std.proofs.Common.{get_or}
use Rattle.std.proofs.lemmas.Option.{slice_get-get_or}
use Rattle.superstep_instructions.specs.declared.instr.Instr.{Instr}
use Rattle.superstep_instructions.specs.declared.instr.Instr.TheVariants.{Mark}
use Rattle.renaming.proofs.Numbered.{named_more, all_named}
use Rattle.renaming.proofs.numbers.Numbers.give_all.Goals as goal

pub loop-k-preserved : goal.loop-k-preserved
loop-k-preserved c =
    let i : Instr = get_or c.args.instructions.now c.loop-k.k (Mark 0) in
    named_more c.args.side c.args.instructions.now c.loop-k.k i
    (slice_get-get_or c.args.instructions.now c.loop-k.k (Mark 0) c.loop-k-test.true) c.loop-k.invariant c.give_named.ensures

pub returns : goal.returns
returns c = all_named c.args.side c.args.instructions.now c.loop-k.k c.loop-k-test.false c.loop-k.invariant
