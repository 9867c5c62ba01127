-- What was written of exchanges is what was found of them.
use Rattle.std.proofs.Common.{◌≡◌, ◌++◌, ℕ, List, ap, subst, sym}
use Rattle.std.specs.Prelude.{Result}
use Rattle.superstep_machine.specs.Trace.{Exchange}
use Rattle.text_out.specs.Out.{OutState}
use Rattle.program_texts.specs.declared.status.Status.{Status}
use Rattle.program_texts.specs.declared.stop.Stop.{Stop}
use Rattle.svg_texts.specs.Shapes.{picture_text}
use Rattle.tracer.specs.Picture.{picture}
use Rattle.tracer.specs.Traced.{trace_text}
use Rattle.command_facts.specs.Written.{Wrote}

-- in words, with what stands behind them
pub told_so : (lines l : List ℕ) (es : List Exchange) (rest : List ℕ) → l ≡ lines → trace_text lines es ++ rest ≡ trace_text l es ++ rest
told_so lines l es rest same = ap (λ (x : List ℕ). trace_text x es ++ rest) (sym same)

-- or drawn
pub drawn_so : (status : Status) (lines l ends e : List ℕ) (es : List Exchange) (old new : OutState) (r : Result Status Stop) → l ≡ lines →
    e ≡ ends → Wrote status (picture_text (picture l e es)) old new r → Wrote status (picture_text (picture lines ends es)) old new r
drawn_so status lines l ends e es old new r same_lines same_ends w =
    subst (λ (x : List ℕ). Wrote status (picture_text (picture lines x es)) old new r) same_ends
    (subst (λ (x : List ℕ). Wrote status (picture_text (picture x e es)) old new r) same_lines w)
