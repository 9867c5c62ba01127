use Rattle.std.proofs.Common.{FitsSigned, List, ap, rules, subst, sym, w64, ℕ, ◌++◌, ◌∙◌}
use Rattle.std.proofs.lemmas.Int.{to_z-of_z}
use Rattle.std.specs.Fmt.{signed_decimal}
use Rattle.std.specs.Prelude.{codes}
use Rattle.text_out.specs.Out.{Writes}
use Rattle.pram_values.specs.declared.place.Place.{Place}
use Rattle.program_texts.specs.Shown.{place_text}
use Rattle.svg_texts.specs.Letters.{letters}
use Rattle.pictures.proofs.Spelled.{processor_spelled}
use Rattle.pictures.proofs.names.write_place.Goals as goal

pub returns-in-Processor : goal.returns-in-Processor
returns-in-Processor g c =
    let fits : FitsSigned w64 c.in-Processor.index = search rules in
    let index = to_z-of_z w64 c.in-Processor.index fits in
    record {
      written = subst (λ (t : List ℕ). Writes (g.W.Out.state c.args.out.now) (g.W.Out.state c.write_processor.new.out) t
          c.write_processor.result)
          ((λ i. codes "processor " ++ signed_decimal (index i)) ∙ sym (processor_spelled c.in-Processor.index)
          ∙ ap (λ (p : Place). letters (place_text c.args.layout.now p)) (sym c.in-Processor.is))
          c.write_processor.ensures.written;
    }
