use Rattle.std.proofs.Common.{ℕ, List, ◌∙◌, ap, subst, sym, take}
use Rattle.text_out.specs.Out.{Writes}
use Rattle.program_texts.specs.Shown.{spaced}
use Rattle.pictures.proofs.OfFlows.Lettered.{spaced_letters}
use Rattle.pictures.proofs.flows.faults.write_named.Goals as goal

pub returns : goal.returns
returns g c =
    record {
      written = subst (λ (t : List ℕ). Writes (g.W.Out.state c.args.out.now) (g.W.Out.state c.write_values.new.out) t
          c.write_values.result)
          (ap spaced c.named.ensures ∙ sym (spaced_letters (take 12 c.args.met.now))) c.write_values.ensures.written;
    }
