use Rattle.text_out.specs.Printing.{printing}
use Rattle.step_text.specs.declared.stream.Stream.{Stream}
use Rattle.step_text.proofs.Parts.{part_printed}
use Rattle.step_text.proofs.streaming.run_into.Goals as goal

pub returns-clause-part : goal.returns-clause-part
returns-clause-part g c refused =
    part_printed (λ (s : Stream g.row.W.Denot). s.asked) (λ (s : Stream g.row.W.Denot). s.out.ghost_name)
    (λ (s : Stream g.row.W.Denot). s.count)
    (λ (s : Stream g.row.W.Denot). printing (g.W.Out.state s.out.now) s.failed) c.args.stream c.tell_in_time-stream.result.0 _
    (c.tell_in_time-stream.ensures.part refused)
