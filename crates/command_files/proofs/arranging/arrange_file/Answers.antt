use Rattle.std.proofs.Common.{ℕ, List, refl, ap, ◌∙◌, subst}
use Rattle.pram_trees.specs.Text.{IsTextOf}
use Rattle.laid_out_texts.specs.Arranged.{arranged}
use Rattle.command_files.proofs.arranging.arrange_file.Goals as goal

pub returns-in-Ok-clause-arranged : goal.returns-in-Ok-clause-arranged
returns-in-Ok-clause-arranged g c = record {
  source = c.in_ok-source.source;
  is_text = c.in_ok-source.ensures.text;
  tree = c.in_default.field-0;
  is_tree = subst (λ (t : List ℕ). IsTextOf t c.in_default.field-0) c.text.ensures.value c.in_default.ensures.found;
  name = refl;
  old = refl;
  new = c.in-Ok.ensures.layout ∙ ap arranged c.deref.ensures.value;
}
