use Rattle.std.proofs.Common.{◌++◌, ◌∙◌, List, ℕ, ap, codes, decimal, subst}
use Rattle.std.proofs.lemmas.List.{append-nil}
use Rattle.text_out.specs.Out.{Writes}
use Rattle.diagnoses.proofs.syntax_faults.write_taken_sentence.Goals as goal

pub returns : goal.returns
returns g c =
    let told = λ (d e : List ℕ). codes "the text ends here, and the program has no \"end\": that of line "
    ++ (d ++ (codes " ends the \"" ++ (c.args.word.now ++ (codes "\" of line " ++ e)))) in
    let end = ap (told c.as_bytes.result.now) (append-nil c.as_bytes-2.result.now) in
    let ends = ap (λ d. told d c.as_bytes-2.result.now) (c.as_bytes.ensures.value ∙ c.format.ensures.text) in
    let begins = ap (λ e. told (decimal c.args.by) e) (c.as_bytes-2.ensures.value ∙ c.format-2.ensures.text) in
    record {
      written = subst (λ (t : List ℕ). Writes (g.W.Out.state c.args.out.now) (g.W.Out.state c.write_parts.new.self) t c.write_parts.result)
          (end ∙ ends ∙ begins) c.write_parts.ensures.written;
    }
