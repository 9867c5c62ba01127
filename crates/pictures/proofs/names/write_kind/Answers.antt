use Rattle.std.proofs.Common.{subst, sym, ◌++◌}
use Rattle.std.specs.Prelude.{codes}
use Rattle.text_out.specs.Out.{Writes}
use Rattle.pram_values.specs.declared.kind.Kind.{Kind}
use Rattle.program_texts.specs.Shown.{kind_text}
use Rattle.pictures.proofs.names.write_kind.Goals as goal

pub returns-in-DivideByZero : goal.returns-in-DivideByZero
returns-in-DivideByZero g c = record {
  written = subst (λ (k : Kind). Writes (g.W.Out.state c.args.out.now) (g.W.Out.state c.write_all-in-DivideByZero.new.self)
      (codes "fault " ++ (kind_text k ++ codes " ")) c.write_all-in-DivideByZero.result) (sym c.in-DivideByZero.is)
      c.write_all-in-DivideByZero.ensures.written;
}

pub returns-in-OutOfRange : goal.returns-in-OutOfRange
returns-in-OutOfRange g c = record {
  written = subst (λ (k : Kind). Writes (g.W.Out.state c.args.out.now) (g.W.Out.state c.write_all-in-OutOfRange.new.self)
      (codes "fault " ++ (kind_text k ++ codes " ")) c.write_all-in-OutOfRange.result) (sym c.in-OutOfRange.is)
      c.write_all-in-OutOfRange.ensures.written;
}

pub returns-in-ReadConflict : goal.returns-in-ReadConflict
returns-in-ReadConflict g c = record {
  written = subst (λ (k : Kind). Writes (g.W.Out.state c.args.out.now) (g.W.Out.state c.write_all-in-ReadConflict.new.self)
      (codes "fault " ++ (kind_text k ++ codes " ")) c.write_all-in-ReadConflict.result) (sym c.in-ReadConflict.is)
      c.write_all-in-ReadConflict.ensures.written;
}
