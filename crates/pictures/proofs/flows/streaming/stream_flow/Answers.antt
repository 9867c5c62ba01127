use Rattle.std.proofs.Common.{◌≡◌, ◌∙◌, ap, subst}
use Rattle.text_out.specs.Out.{StopsIn, with_bytes}
use Rattle.svg_texts.specs.Shapes.{picture_text}
use Rattle.pictures.specs.Flows.Drawing.{drawing_is}
use Rattle.pictures.specs.Flows.Picture.{picture}
use Rattle.pictures.proofs.flows.streaming.stream_flow.Goals as goal

pub returns-in-Ok-write_flow-clause-written : goal.returns-in-Ok-write_flow-clause-written
returns-in-Ok-write_flow-clause-written g c =
    let text = c.args.text.now in
    let only = c.args.only.now in
    let shows = ap (λ l. picture l text only (drawing_is c.in-Ok.drawing)) c.layout-2.ensures
    ∙ c.in-Ok.ensures.drawn c.args.program.now.layout text only in
    subst (λ t. g.W.Out.state c.write_flow.new.out ≡ with_bytes (g.W.Out.state c.args.out.now) t) (λ i. picture_text (shows i))
    c.in-Ok-write_flow.ensures.written

pub returns-in-Err-clause-written : goal.returns-in-Err-clause-written
returns-in-Err-clause-written g c =
    let text = c.args.text.now in
    let only = c.args.only.now in
    let shows = ap (λ l. picture l text only (drawing_is c.in-Ok.drawing)) c.layout-2.ensures
    ∙ c.in-Ok.ensures.drawn c.args.program.now.layout text only in (
      c.in-Ok.ending,
      c.in-Ok.ensures.ends,
      c.in-Ok.ensures.outcome,
      subst (λ t. StopsIn (g.W.Out.state c.args.out.now) (g.W.Out.state c.write_flow.new.out) t) (λ i. picture_text (shows i))
          c.in-Err.ensures.written,
    )
