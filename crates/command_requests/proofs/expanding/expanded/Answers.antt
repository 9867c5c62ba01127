use Rattle.std.proofs.Common.{arith, subst}
use Rattle.std.specs.Prelude.{Err}
use Rattle.sized_texts.specs.Expansion.{expansion}
use Rattle.sized_texts.specs.Faults.{Answers, shown}
use Rattle.sized_texts.specs.declared.fault.SizeFault.{SizeFault}
use Rattle.command_requests.proofs.Sizes.{one_each, within}
use Rattle.command_requests.proofs.expanding.expanded.Goals as goal

pub stop_of_sizes-requires : goal.stop_of_sizes-requires
stop_of_sizes-requires c = record {
  numbered = λ number is.
      let same = one_each _ c.args.sizes.now c.requires.given in
      let inside = within c.args.sizes.now c.args.text.now number
      (subst (λ (f : SizeFault). Answers shown (Err f) (expansion c.args.sizes.now c.args.text.now)) is c.in-Err.ensures.answers) in
      grind (arith, same, inside);
}
