use Rattle.std.proofs.Common.{arith}
use Rattle.pram_tokens.specs.Plain.{IsPlain}
use Rattle.memory_texts.proofs.Refusals.{refused, told_long}
use Rattle.memory_texts.proofs.reading.read_memory.Goals as goal

pub returns-clause-too_long : goal.returns-clause-too_long
returns-clause-too_long c =
    let plain : IsPlain c.args.text.now = record { fits = omega arith; ascii = c.in_default.ensures.first } in (
      told_long c.args.layout.now c.args.text.now c.memory_of.result (refused _ c.args.layout.now c.args.text.now c.memory_of.result plain
          c.memory_of.ensures),
      λ long. absurd (omega (arith, long)),
    )

pub returns-clause-refused : goal.returns-clause-refused
returns-clause-refused c =
    let plain : IsPlain c.args.text.now = record { fits = omega arith; ascii = c.in_default.ensures.first } in
    refused _ c.args.layout.now c.args.text.now c.memory_of.result plain c.memory_of.ensures
