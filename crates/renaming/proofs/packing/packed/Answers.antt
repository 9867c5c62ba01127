use Rattle.std.proofs.Common.{List, subst}
use Rattle.superstep_instructions.specs.declared.instr.Instr.{Instr}
use Rattle.superstep_instructions.specs.declared.instr.Side.TheVariants.{Uniform, Private}
use Rattle.renaming.specs.Named.{IsNamedIn}
use Rattle.renaming.specs.Numbers.{HaveNumbers}
use Rattle.renaming.proofs.Packs.{all_packed}
use Rattle.renaming.proofs.packing.packed.Goals as goal

pub returns : goal.returns
returns c =
    let is = c.instructions-instructions.ensures.value in
    all_packed c.args.code.now c.in_ok-numbers.numbers c.give_all.new.self c.give_all-2.new.self c.in_ok-numbers.ensures.none
    (subst (λ (xs : List Instr). HaveNumbers (IsNamedIn Private xs) c.in_ok-numbers.numbers c.give_all.new.self) is c.give_all.ensures)
    (subst (λ (xs : List Instr). HaveNumbers (IsNamedIn Uniform xs) c.give_all.new.self c.give_all-2.new.self) is c.give_all-2.ensures)
    c.numbered.result c.numbered.ensures
