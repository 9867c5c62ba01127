use Rattle.std.proofs.Common.{List, ap, subst, ◌≡◌, ◌∙◌, ℕ}
use Rattle.text_out.specs.Out.{StopsIn, with_bytes}
use Rattle.journal.specs.Between.{between}
use Rattle.journal.specs.RunEntries.{run_entries}
use Rattle.svg_texts.specs.Shapes.{picture_text}
use Rattle.pictures.specs.Steps.Picture.{part_of, picture}
use Rattle.pictures.proofs.steps.streaming.stream_excerpt.Goals as goal

pub returns-in-Ok-write_part-clause-written : goal.returns-in-Ok-write_part-clause-written
returns-in-Ok-write_part-clause-written g c =
    let text = c.args.text.now in
    let es = run_entries c.args.program.now c.args.input.now c.in-Ok.ending.bound in
    let some = between c.args.from c.args.to es in
    let part = c.part_of-part.ensures ∙ ap (part_of c.args.from) c.in-Ok.ensures.counted in
    let shows = ap (λ l. picture_text (picture l text c.part_of-part.result some)) c.layout-2.ensures
    ∙ ap (λ p. picture_text (picture c.args.program.now.layout text p some)) part in
    subst (λ (t : List ℕ). g.W.Out.state c.write_part.new.out ≡ with_bytes (g.W.Out.state c.args.out.now) t) shows
    (c.in-Ok-write_part.ensures.written some c.in-Ok.ensures.kept)

pub returns-in-Err-clause-written : goal.returns-in-Err-clause-written
returns-in-Err-clause-written g c =
    let text = c.args.text.now in
    let es = run_entries c.args.program.now c.args.input.now c.in-Ok.ending.bound in
    let some = between c.args.from c.args.to es in
    let part = c.part_of-part.ensures ∙ ap (part_of c.args.from) c.in-Ok.ensures.counted in
    let shows = ap (λ l. picture_text (picture l text c.part_of-part.result some)) c.layout-2.ensures
    ∙ ap (λ p. picture_text (picture c.args.program.now.layout text p some)) part in (
      c.in-Ok.ending,
      c.in-Ok.ensures.ends,
      c.in-Ok.ensures.outcome,
      subst (λ (t : List ℕ). StopsIn (g.W.Out.state c.args.out.now) (g.W.Out.state c.write_part.new.out) t) shows
          (c.in-Err.ensures.written some c.in-Ok.ensures.kept),
    )
