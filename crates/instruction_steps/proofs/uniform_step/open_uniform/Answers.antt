use Rattle.std.proofs.Common.{◌∙◌, None, map, ap, pos}
use Rattle.instruction_steps.specs.Views.{registers_of, read_is}
use Rattle.instruction_steps.proofs.uniform_step.open_uniform.Goals as goal

pub returns-clause-value : goal.returns-clause-value
returns-clause-value c =
    let none = c.in_ok-make_room.ensures.same ∙ ap registers_of c.new-registers.ensures.items in
    λ i. record {
      count = 0;
      line = 0;
      registers = none i;
      low = pos 0;
      width = 0;
      asks = map read_is (c.new.ensures.items i);
      awaited = map read_is (c.new-2.ensures.items i);
      put = None;
      output = c.new-3.ensures.items i;
    }
