use Rattle.std.proofs.Common.{◌++◌, ◌∙◌, List, ℕ, ap, codes, subst, sym}
use Rattle.text_out.specs.Out.{Writes}
use Rattle.diagnoses.specs.Breaches.{remarked}
use Rattle.diagnoses.specs.Remarks.{remark_is}
use Rattle.diagnoses.proofs.breaches.write_remarked.Goals as goal

pub returns-in-Nearest : goal.returns-in-Nearest
returns-in-Nearest g c =
    let whole = ap (λ n. codes " is not declared here; did you mean \"" ++ (n ++ codes "\"?")) c.as_slice.ensures.value
    ∙ ap (λ r. remarked c.args.word.now c.args.around c.args.cause (remark_is r)) (sym c.in-Nearest.is) in
    record {
      written = subst (λ (t : List ℕ). Writes (g.W.Out.state c.args.out.now) (g.W.Out.state c.write_parts.new.self) t c.write_parts.result)
          whole c.write_parts.ensures.written;
    }
