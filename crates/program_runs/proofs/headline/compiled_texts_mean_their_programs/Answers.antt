use Rattle.std.proofs.Common.{subst}
use Rattle.std.specs.Prelude.{◌≡◌, ◌≤◌, length}
use Rattle.pram_model.specs.Layout.{total_size}
use Rattle.pram_parser.proofs.OneTree.{one_tree_at_most}
use Rattle.pram_meaning.specs.Outcome.{IsOutcome}
use Rattle.pram_meaning.proofs.OneOutcome.{one_outcome}
use Rattle.pram_meaning.proofs.OneTree.{tree_has_one_outcome}
use Rattle.compiled_meaning.specs.PlainForm.{IsInputFor}
use Rattle.program_runs.proofs.headline.compiled_texts_mean_their_programs.Goals as goal

pub returns : goal.returns
returns c text code from map lawful input values fits bound verdict =
    let p = from.program in
    let layout_is : code.layout ≡ p.layout = from.means.form.layout in
    let input_for : IsInputFor p input = record { few = subst (λ l. length input ≤ total_size l) layout_is fits; values = values } in
    let both = from.means.form.outcomes map lawful input input_for bound verdict in (
      λ ran. record { program = p; is_program = from.is_program; declared = layout_is; fits = fits; outcome = both.0 ran },
      λ meant.
          let q = meant.program in
          let same = one_tree_at_most text p.tree q.tree from.is_program.is_text meant.is_program.is_text in
          let one = one_outcome p input bound in
          both.1 (subst (λ v. IsOutcome p input bound v)
          (tree_has_one_outcome p q from.is_program.resolved meant.is_program.resolved same input bound one.outcome verdict one.is
          meant.outcome) one.is),
    )
