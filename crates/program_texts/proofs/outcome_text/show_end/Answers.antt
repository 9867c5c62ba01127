use Rattle.std.proofs.Common.{◌++◌, codes, refl}
use Rattle.program_texts.specs.Shown.{item_lines, line, memory_lines}
use Rattle.text_out.proofs.Progress.{breaks_off, closes, goes_on, starts}
use Rattle.program_texts.proofs.outcome_text.show_end.Goals as goal

pub returns-in_err-write_items : goal.returns-in_err-write_items
returns-in_err-write_items g c =
    let cells = memory_lines c.args.layout.now c.args.memory.now in
    record {
      written = breaks_off _ _ _ _ _ (item_lines c.args.output.now) (line
          (codes "ended") ++ cells) c.from_residual.result _ c.from_residual.ensures.1
          (starts _ _) refl c.in_err-write_items.ensures.written;
    }

pub returns-in_err-write_all : goal.returns-in_err-write_all
returns-in_err-write_all g c =
    let cells = memory_lines c.args.layout.now c.args.memory.now in
    let items = goes_on _ _ _ _ _ (item_lines c.args.output.now) (line (codes "ended") ++ cells)
    (starts _ _) refl c.in_ok-write_items.ensures.written in
    record {
      written = breaks_off _ _ _ _ _ (line
          (codes "ended")) cells c.from_residual-in_err-write_all.result _ c.from_residual-in_err-write_all.ensures.1 items refl
          c.in_err-write_all.ensures.written;
    }

pub returns : goal.returns
returns g c =
    let cells = memory_lines c.args.layout.now c.args.memory.now in
    let items = goes_on _ _ _ _ _ (item_lines c.args.output.now) (line (codes "ended") ++ cells)
    (starts _ _) refl c.in_ok-write_items.ensures.written in
    let over = goes_on _ _ _ _ _ (line (codes "ended")) cells items refl c.in_ok-write_all.ensures.written in
    record { written = closes _ _ _ _ _ c.write_memory.result over c.write_memory.ensures.written }
