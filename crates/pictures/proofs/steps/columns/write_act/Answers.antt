use Rattle.std.proofs.Common.{ℕ, List, ◌∙◌, ap, rules, subst, sym, w64, FitsSigned}
use Rattle.std.proofs.lemmas.Int.{to_z-of_z}
use Rattle.text_out.specs.Out.{Writes}
use Rattle.journal.specs.Entries.{act_is}
use Rattle.svg_texts.specs.Shapes.{shape_text}
use Rattle.pictures.specs.Steps.Columns.{act_at, act_drawn_by}
use Rattle.pictures.specs.Steps.Drawn.{place_of}
use Rattle.pictures.specs.Steps.Measures.{column_is}
use Rattle.pictures.proofs.steps.columns.write_act.Goals as goal

pub returns-in-Some : goal.returns-in-Some
returns-in-Some g c =
    let layout = c.args.layout.now in
    let rows = c.args.rows.now in
    let fits : FitsSigned w64 c.in-Some.index = search rules in
    let at = c.place_of.ensures.value ∙ ap (place_of rows) (to_z-of_z w64 c.in-Some.index fits) in
    record {
      written = subst (λ (t : List ℕ). Writes (g.W.Out.state c.args.out.now) (g.W.Out.state c.write_act_at.new.out) t c.write_act_at.result)
          (ap (λ n. shape_text (act_at layout rows (column_is c.args.at) n (act_is c.args.act.now))) at
          ∙ ap (λ p. shape_text (act_drawn_by layout rows (column_is c.args.at) (act_is c.args.act.now) p)) (sym c.in-Some.is))
          c.write_act_at.ensures.written;
    }
